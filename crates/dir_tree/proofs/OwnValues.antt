-- The values of an entry's own RDN, by its pairs and by its key.
use Rattle.std.proofs.Common.{◌≡◌, ℕ, Bool, true, false, cond, ◌&&◌, List, [], ◌∷◌, Option, Some, None, option_map, refl, sym, ap, ◌∙◌}
use Rattle.std.specs.List.{fold, list_all}
use Rattle.std.specs.FinMap.{IsAntisymmetric}
use Rattle.std.specs.Option.{option_and_then}
use Rattle.std.specs.Ordering.{match_ordering}
use Rattle.std.specs.declared.cmp.Ordering.{Ordering}
use Rattle.std.specs.declared.cmp.Ordering.TheVariants.{Less, Equal, Greater}
use Rattle.dir_names.specs.declared.schema.TypeRow.{TypeRow}
use Rattle.dir_names.specs.declared.value.ValueKey.{ValueKey}
use Rattle.dir_names.specs.declared.value.ValueKey.TheVariants as key
use Rattle.dir_names.specs.Attr.{Attr}
use Rattle.dir_names.specs.Keys.{RdnKeys}
use Rattle.dir_names.specs.Names.{SpelledPair, SpelledRdn}
use Rattle.dir_names.specs.NameKeys.{have_distinct_types, pair_key, rdn_key, set_if_distinct}
use Rattle.dir_names.specs.Orders.{pair_cmp, pair_cmp_exact}
use Rattle.dir_names.specs.Results.{option_collect, option_cons}
use Rattle.dir_names.specs.Sorted.{set_of, with_member}
use Rattle.dir_tree.specs.declared.lines.KeyedLine.{KeyedLine}
use Rattle.dir_tree.specs.ChangedEntry.{has_own_values}
use Rattle.dir_tree.specs.Content.{Content, StoredAttributes, has_value}
use Rattle.dir_tree.specs.NewEntry.{leaf_key, leaf_lines, leaf_of, rdn_lines}
use Rattle.dir_tree.specs.WellFormed.{has_each}

-- ---- what holds of all members of a set

module _ {K : Type 0} (R : K → K → Ordering) (exact : IsAntisymmetric R) (test : K → Bool) where
  and_again : (a b : Bool) → (a && (a && b)) ≡ (a && b)
  and_again true b = refl
  and_again false b = refl

  and_swap : (a b c : Bool) → (a && (b && c)) ≡ (b && (a && c))
  and_swap true true c = refl
  and_swap true false c = refl
  and_swap false true c = refl
  and_swap false false c = refl

  and_true : (a : Bool) → (a && true) ≡ a
  and_true true = refl
  and_true false = refl

  and_assoc : (a b c : Bool) → ((a && b) && c) ≡ (a && (b && c))
  and_assoc true b c = refl
  and_assoc false b c = refl

  all_with : (k : K) (ks : List K) → list_all test (with_member R k ks) ≡ (test k && list_all test ks)
  all_with k [] = refl
  all_with k (x ∷ xs) = by (R k x) refl (all_with k xs)
    where
      by : (r : Ordering) → R k x ≡ r → list_all test (with_member R k xs) ≡ (test k && list_all test xs) →
          list_all test (match_ordering r (k ∷ x ∷ xs) (x ∷ xs) (x ∷ with_member R k xs)) ≡ (test k && (test x && list_all test xs))
      by Less t rest = refl
      by Equal t rest = sym (ap (λ z. test z && (test x && list_all test xs)) (exact k x t) ∙ and_again (test x) (list_all test xs))
      by Greater t rest = ap (λ b. test x && b) rest ∙ and_swap (test x) (test k) (list_all test xs)

  all_fold : (set xs : List K) → list_all test (fold (λ s x. with_member R x s) set xs) ≡ (list_all test xs && list_all test set)
  all_fold set [] = refl
  all_fold set (x ∷ xs) =
      all_fold (with_member R x set) xs
      ∙ ap (λ b. list_all test xs && b) (all_with x set)
      ∙ and_swap (list_all test xs) (test x) (list_all test set)
      ∙ sym (and_assoc (test x) (list_all test xs) (list_all test set))

  all_in_set : (xs : List K) → list_all test (set_of R xs) ≡ list_all test xs
  all_in_set xs = all_fold [] xs ∙ and_true (list_all test xs)

-- ---- the pairs of an RDN, as lines and by key

module _ (rows : List TypeRow) (test : Attr → ValueKey → Bool) where
  -- the lines are there, and each passes
  abbrev pub all_lines_pass : Option (List KeyedLine) → Bool
  all_lines_pass None = false
  all_lines_pass (Some ls) = list_all (λ l. test l.description.key l.key) ls

  abbrev passes : Attr × List ℕ → Bool
  passes p = test p.0 (key.Text p.1)

  abbrev all_pass : Option (List (Attr × List ℕ)) → Bool
  all_pass None = false
  all_pass (Some keys) = list_all passes keys

  abbrev line_of : SpelledPair → Option (Attr × List ℕ) → Option KeyedLine
  line_of p o = option_map (λ (k : Attr × List ℕ). record { description = record { spelling = p.0; key = k.0 }; key = key.Text k.1; bytes = p.1 }) o

  by_pairs : (rdn : SpelledRdn) → all_lines_pass (rdn_lines rows rdn) ≡ all_pass (option_collect (pair_key rows) rdn)
  by_pairs [] = refl
  by_pairs (p ∷ ps) = by (pair_key rows p) (rdn_lines rows ps) (option_collect (pair_key rows) ps) (by_pairs ps)
    where
      by : (o : Option (Attr × List ℕ)) (ls : Option (List KeyedLine)) (ks : Option (List (Attr × List ℕ))) → all_lines_pass ls ≡ all_pass ks →
          all_lines_pass (option_cons (line_of p o) ls) ≡ all_pass (option_cons o ks)
      by None ls ks e = refl
      by (Some k) None None e = refl
      by (Some k) None (Some ks) e = by_head (passes k)
        where
          by_head : (b : Bool) → false ≡ (b && list_all passes ks)
          by_head true = e
          by_head false = refl
      by (Some k) (Some ls) None e = by_head (passes k)
        where
          by_head : (b : Bool) → (b && list_all (λ l. test l.description.key l.key) ls) ≡ false
          by_head true = e
          by_head false = refl
      by (Some k) (Some ls) (Some ks) e = ap (λ b. passes k && b) e

  -- each line of an RDN passes exactly if each pair of its key does
  pub by_rdn_key : (rdn : SpelledRdn) (keys : RdnKeys) → rdn_key rows rdn ≡ Some keys → all_lines_pass (rdn_lines rows rdn) ≡ list_all (λ p. test p.0 (key.Text p.1)) keys
  by_rdn_key rdn keys e = by_pairs rdn ∙ by (option_collect (pair_key rows) rdn) e
    where
      by_set : (ks : List (Attr × List ℕ)) (b : Bool) → cond b (Some (set_of pair_cmp ks)) None ≡ Some keys → list_all passes ks ≡ list_all passes keys
      by_set ks false h = absurd (cc)
      by_set ks true h =
          let same : set_of pair_cmp ks ≡ keys = cc in
          sym (all_in_set pair_cmp pair_cmp_exact passes ks) ∙ ap (list_all passes) same

      by : (o : Option (List (Attr × List ℕ))) → option_and_then set_if_distinct o ≡ Some keys → all_pass o ≡ list_all passes keys
      by None h = absurd (cc)
      by (Some ks) h = by_set ks (have_distinct_types ks) h

pub each_passes : (xs : StoredAttributes) (rows : List TypeRow) (o : Option (List KeyedLine)) → has_each xs o ≡ all_lines_pass rows (has_value xs) o
each_passes xs rows None = refl
each_passes xs rows (Some ls) = refl

-- an entry has the lines of its own RDN exactly if it has the values of the RDN's key
pub own_values : (rows : List TypeRow) (e : Content) → leaf_key rows e.own ≡ Some e.key → has_each e.attributes (leaf_lines rows e.own) ≡ has_own_values e
own_values rows e named = by (leaf_of e.own) named
  where
    by : (o : Option SpelledRdn) → option_and_then (rdn_key rows) o ≡ Some e.key → has_each e.attributes (option_and_then (rdn_lines rows) o) ≡ has_own_values e
    by None h = absurd (cc)
    by (Some leaf) h = each_passes e.attributes rows (rdn_lines rows leaf) ∙ by_rdn_key rows (has_value e.attributes) leaf e.key h
