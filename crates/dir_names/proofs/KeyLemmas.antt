-- The key of an RDN, put together pair by pair.
use Rattle.std.proofs.Common.{◌≡◌, ℕ, ◌+◌, ◌<◌, Bool, true, false, cond, not, ◌&&◌, ◌||◌, List, [], ◌∷◌, length, get_or, drop, Option, Some, None, Ok, Err, is_some, refl, sym, ap, ◌∙◌}
use Rattle.std.specs.declared.cmp.Ordering.TheVariants.{Less, Equal, Greater}
use Rattle.std.specs.Ordering.{is_eq, match_ordering, ordering_then, eq_by_cmp}
use Rattle.std.specs.List.{list_all, list_any, fold}
use Rattle.std.proofs.lemmas.List.{drop_more}
use Rattle.std.specs.FinMap.{find, put}
use Rattle.std.specs.FinMap.Entries.{find-put, by_order}
use Rattle.dir_names.specs.declared.fault.NameFault.{NameFault}
use Rattle.dir_names.specs.declared.fault.NameFault.TheVariants.{BadDescription, ReservedName, BadValue, BadDn, NameLimit, Memory, BadType}
use Rattle.dir_names.specs.declared.schema.TypeRow.{TypeRow}
use Rattle.dir_names.specs.Attr.{Attr}
use Rattle.dir_names.specs.Keys.{RdnKeys, with_pair}
use Rattle.dir_names.specs.NameKeys.{attr_of, have_distinct_types, pair_key, rdn_key, set_if_distinct}
use Rattle.dir_names.specs.Names.{SpelledPair, SpelledRdn}
use Rattle.dir_names.specs.Orders.{attr_cmp, attr_eq, attr_cmp_total, attr_cmp_ties, bytes_cmp, pair_cmp}
use Rattle.dir_names.specs.Outcome.{IsNameFaultOf, as_bad_dn}
use Rattle.dir_names.specs.Outcome.{ok_or_bad_dn}
use Rattle.dir_names.specs.Results.{option_collect, option_cons}
use Rattle.dir_names.specs.Sorted.{with_member, set_of}
use Rattle.dir_names.specs.Table.{rule_of}
use Rattle.dir_names.specs.ValueKeys.{text_key_of}
use Rattle.std.specs.Option.{option_and_then, option_map}
use Rattle.std.specs.Result.{result_ok}

abbrev pub is_free : RdnKeys → Attr × List ℕ → Bool
is_free set k = not (is_some (find attr_cmp k.0 set))

-- the set with more pairs, if no attribute occurs twice
abbrev pub set_onto : RdnKeys → List (Attr × List ℕ) → Option RdnKeys
set_onto set ks = cond (list_all (is_free set) ks && have_distinct_types ks) (Some (fold (λ s p. with_member pair_cmp p s) set ks)) None

-- a new attribute goes to the place that its pair has
member-put : (k : Attr × List ℕ) (set : RdnKeys) → find attr_cmp k.0 set ≡ None → with_member pair_cmp k set ≡ put attr_cmp k.0 k.1 set
member-put k [] e = refl
member-put k (q ∷ qs) e =
    elim (attr_cmp k.0 q.0) as (λ r. cond (is_eq r) (Some q.1) (find attr_cmp k.0 qs) ≡ None → match_ordering (ordering_then r (bytes_cmp k.1 q.1)) (k ∷ q ∷ qs) (q ∷ qs) (q ∷ with_member pair_cmp k qs) ≡ by_order r ((k.0, k.1) ∷ q ∷ qs) ((q.0, k.1) ∷ qs) (q ∷ put attr_cmp k.0 k.1 qs)) [
      | Less ↦ λ f. refl
      | Equal ↦ λ f. absurd (cc)
      | Greater ↦ λ f. ap (λ z. q ∷ z) (member-put k qs f)
    ] e

-- ---- tests on lists

split_all : {A : Type 0} (e f : A → Bool) (xs : List A) → list_all (λ x. not (e x) && f x) xs ≡ (list_all f xs && not (list_any e xs))
split_all e f [] = refl
split_all e f (x ∷ xs) = ap (λ b. (not (e x) && f x) && b) (split_all e f xs) ∙ by (e x) (f x) (list_all f xs) (list_any e xs)
  where
    by : (a b c d : Bool) → ((not a && b) && (c && not d)) ≡ ((b && c) && not (a || d))
    by true true true d = refl
    by true true false d = refl
    by true false c d = refl
    by false true c d = refl
    by false false c d = refl

same_all : {A : Type 0} (p q : A → Bool) → ((x : A) → p x ≡ q x) → (xs : List A) → list_all p xs ≡ list_all q xs
same_all p q h [] = refl
same_all p q h (x ∷ xs) = λ i. h x i && same_all p q h xs i

same_any : {A : Type 0} (p q : A → Bool) → ((x : A) → p x ≡ q x) → (xs : List A) → list_any p xs ≡ list_any q xs
same_any p q h [] = refl
same_any p q h (x ∷ xs) = λ i. h x i || same_any p q h xs i

not_some : {A : Type 0} (b : Bool) (v : A) (o : Option A) → not (is_some (cond b (Some v) o)) ≡ (not b && not (is_some o))
not_some true v o = refl
not_some false v o = refl

regroup : (a b c d : Bool) → a ≡ true → ((a && b) && (not c && d)) ≡ ((b && not c) && d)
regroup a true true d e = ap (λ t. (t && true) && false) e
regroup a true false d e = ap (λ t. (t && true) && d) e
regroup a false c d e = ap (λ t. (t && false) && (not c && d)) e

-- what is free once k is in the set
free_put : (set : RdnKeys) (k j : Attr × List ℕ) → is_free (put attr_cmp k.0 k.1 set) j ≡ (not (attr_eq j.0 k.0) && is_free set j)
free_put set k j =
    ap (λ o. not (is_some o)) (find-put attr_cmp attr_cmp_total j.0 k.0 k.1 set) ∙ not_some (eq_by_cmp attr_cmp j.0 k.0) k.1 (find attr_cmp j.0 set)
    ∙ ap (λ b. not b && is_free set j) (sym (attr_cmp_ties j.0 k.0))

pub onto_more : (set : RdnKeys) (k : Attr × List ℕ) (ks : List (Attr × List ℕ)) → find attr_cmp k.0 set ≡ None → set_onto set (k ∷ ks) ≡ set_onto (put attr_cmp k.0 k.1 set) ks
onto_more set k ks e =
    let free : is_free set k ≡ true = ap (λ o. not (is_some o)) e in
    let tests = regroup (is_free set k) (list_all (is_free set) ks) (list_any (λ q. attr_eq q.0 k.0) ks) (have_distinct_types ks) free
    ∙ ap (λ b. b && have_distinct_types ks) (sym (split_all (λ j. attr_eq j.0 k.0) (is_free set) ks) ∙ sym (same_all (is_free (put attr_cmp k.0 k.1 set)) (λ j. not (attr_eq j.0 k.0) && is_free set j) (free_put set k) ks)) in
    λ i. cond (tests i) (Some (fold (λ s p. with_member pair_cmp p s) (member-put k set e i) ks)) None

pub onto_twice : (set : RdnKeys) (k : Attr × List ℕ) (ks : List (Attr × List ℕ)) → is_some (find attr_cmp k.0 set) ≡ true → set_onto set (k ∷ ks) ≡ None
onto_twice set k ks e = ap (λ b. cond ((not b && list_all (is_free set) ks) && (not (list_any (λ q. attr_eq q.0 k.0) ks) && have_distinct_types ks)) (Some (fold (λ s p. with_member pair_cmp p s) (with_member pair_cmp k set) ks)) None) e

onto_none : (ks : List (Attr × List ℕ)) → set_if_distinct ks ≡ set_onto [] ks
onto_none ks = ap (λ b. cond (b && have_distinct_types ks) (Some (set_of pair_cmp ks)) None) (sym (free ks))
  where
    free : (ks : List (Attr × List ℕ)) → list_all (is_free []) ks ≡ true
    free [] = refl
    free (k ∷ ks) = free ks

-- ---- the loop

module _ (rows : List TypeRow) where
  -- the key that the set and the rest of the pairs give
  abbrev pub key_from : RdnKeys → SpelledRdn → Option RdnKeys
  key_from set rest = option_and_then (set_onto set) (option_collect (pair_key rows) rest)

  pub key_none : (rdn : SpelledRdn) → rdn_key rows rdn ≡ key_from [] rdn
  key_none rdn = by (option_collect (pair_key rows) rdn)
    where
      by : (ks : Option (List (Attr × List ℕ))) → option_and_then set_if_distinct ks ≡ option_and_then (set_onto []) ks
      by None = refl
      by (Some ks) = onto_none ks

  put_found : (attr : Attr) (value : List ℕ) (set new : RdnKeys) → with_pair attr value set ≡ Ok new → (find attr_cmp attr set ≡ None) × (new ≡ put attr_cmp attr value set)
  put_found attr value set new e = by (find attr_cmp attr set) refl e
    where
      by : (o : Option (List ℕ)) → find attr_cmp attr set ≡ o → cond (is_some o) (Err BadDn) (Ok (put attr_cmp attr value set)) ≡ Ok new → (find attr_cmp attr set ≡ None) × (new ≡ put attr_cmp attr value set)
      by None f g = (f, cc)
      by (Some v) f g = absurd (cc)

  put_twice : (attr : Attr) (value : List ℕ) (set : RdnKeys) → with_pair attr value set ≡ Err BadDn → is_some (find attr_cmp attr set) ≡ true
  put_twice attr value set e = by (is_some (find attr_cmp attr set)) refl e
    where
      by : (b : Bool) → is_some (find attr_cmp attr set) ≡ b → cond b (Err BadDn) (Ok (put attr_cmp attr value set)) ≡ Err BadDn → is_some (find attr_cmp attr set) ≡ true
      by true f g = f
      by false f g = absurd (cc)

  module _ (whole : Option RdnKeys) (set : RdnKeys) (p : SpelledPair) (rest : SpelledRdn) (so_far : whole ≡ key_from set (p ∷ rest)) where
    pub key_more : (k : Attr × List ℕ) (new : RdnKeys) → pair_key rows p ≡ Some k → with_pair k.0 k.1 set ≡ Ok new → whole ≡ key_from new rest
    key_more k new e g =
        let put = put_found k.0 k.1 set new g in
        so_far ∙ ap (λ o. option_and_then (set_onto set) (option_cons o (option_collect (pair_key rows) rest))) e ∙ by (option_collect (pair_key rows) rest) put.0 ∙ ap (λ s. key_from s rest) (sym put.1)
      where
        by : (ks : Option (List (Attr × List ℕ))) → find attr_cmp k.0 set ≡ None → option_and_then (set_onto set) (option_cons (Some k) ks) ≡ option_and_then (set_onto (put attr_cmp k.0 k.1 set)) ks
        by None f = refl
        by (Some ks) f = onto_more set k ks f

    pub key_twice : (k : Attr × List ℕ) → pair_key rows p ≡ Some k → with_pair k.0 k.1 set ≡ Err BadDn → whole ≡ None
    key_twice k e g =
        so_far ∙ ap (λ o. option_and_then (set_onto set) (option_cons o (option_collect (pair_key rows) rest))) e ∙ by (option_collect (pair_key rows) rest)
      where
        by : (ks : Option (List (Attr × List ℕ))) → option_and_then (set_onto set) (option_cons (Some k) ks) ≡ None
        by None = refl
        by (Some ks) = onto_twice set k ks (put_twice k.0 k.1 set g)

    pub key_fails : pair_key rows p ≡ None → whole ≡ None
    key_fails e = so_far ∙ ap (λ o. option_and_then (set_onto set) (option_cons o (option_collect (pair_key rows) rest))) e

  pub key_done : (whole : Option RdnKeys) (set : RdnKeys) → whole ≡ key_from set [] → whole ≡ Some set
  key_done whole set e = e

-- a type that occurs twice is a fault of the RDN
no_other : {A : Type 0} (b : Bool) (x : A) (e : NameFault) → (BadDn ≡ e → ⊥) → cond b (Err BadDn) (Ok x) ≡ Err e → ⊥
no_other true x e apart_from f = apart_from (cc)
no_other false x e apart_from f = cc

pub twice_through : (e : NameFault) (attr : Attr) (value : List ℕ) (set : RdnKeys) (whole : Option RdnKeys) → (with_pair attr value set ≡ Err BadDn → whole ≡ None) → IsNameFaultOf e (with_pair attr value set) → IsNameFaultOf e (ok_or_bad_dn whole)
twice_through BadDescription attr value set whole through f = absurd (no_other _ _ BadDescription (λ k. cc) f)
twice_through ReservedName attr value set whole through f = absurd (no_other _ _ ReservedName (λ k. cc) f)
twice_through BadValue attr value set whole through f = absurd (no_other _ _ BadValue (λ k. cc) f)
twice_through BadDn attr value set whole through f = ap ok_or_bad_dn (through f)
twice_through NameLimit attr value set whole through f = absurd (no_other _ _ NameLimit (λ k. cc) f)
twice_through Memory attr value set whole through f = tt
twice_through BadType attr value set whole through f = absurd (no_other _ _ BadType (λ k. cc) f)

-- a pair's key is that of its value
pub pair_is : (rows : List TypeRow) (p : SpelledPair) (value : List ℕ) → text_key_of (rule_of rows (attr_of rows p.0)) p.1 ≡ Ok value → ok_or_bad_dn (pair_key rows p) ≡ Ok (attr_of rows p.0, value)
pair_is rows p value e = ap (λ r. ok_or_bad_dn (option_map (λ v. (attr_of rows p.0, v)) (result_ok r))) e

pub pair_fails : (rows : List TypeRow) (p : SpelledPair) (e : NameFault) → IsNameFaultOf e (text_key_of (rule_of rows (attr_of rows p.0)) p.1) → IsNameFaultOf (as_bad_dn e) (ok_or_bad_dn (pair_key rows p))
pair_fails rows p BadDescription f = ap (λ r. ok_or_bad_dn (option_map (λ v. (attr_of rows p.0, v)) (result_ok r))) f
pair_fails rows p ReservedName f = ap (λ r. ok_or_bad_dn (option_map (λ v. (attr_of rows p.0, v)) (result_ok r))) f
pair_fails rows p BadValue f = ap (λ r. ok_or_bad_dn (option_map (λ v. (attr_of rows p.0, v)) (result_ok r))) f
pair_fails rows p BadDn f = ap (λ r. ok_or_bad_dn (option_map (λ v. (attr_of rows p.0, v)) (result_ok r))) f
pair_fails rows p NameLimit f = ap (λ r. ok_or_bad_dn (option_map (λ v. (attr_of rows p.0, v)) (result_ok r))) f
pair_fails rows p Memory f = tt
pair_fails rows p BadType f = ap (λ r. ok_or_bad_dn (option_map (λ v. (attr_of rows p.0, v)) (result_ok r))) f

-- the next pair of the RDN
pub key_at : (rows : List TypeRow) (whole : Option RdnKeys) (set : RdnKeys) (pairs : SpelledRdn) (i : ℕ) (p : SpelledPair) → i < length pairs → p ≡ get_or pairs i p → whole ≡ key_from rows set (drop i pairs) → whole ≡ key_from rows set (p ∷ drop (i + 1) pairs)
key_at rows whole set pairs i p inside item so_far = so_far ∙ ap (key_from rows set) (drop_more pairs i p inside ∙ ap (λ q. q ∷ drop (i + 1) pairs) (sym item))
