-- A pair put into the key of an RDN, by its place.
use Rattle.std.proofs.Common.{◌≡◌, ℕ, Bool, true, cond, T, List, length, Result, Ok, Err, is_some, refl, ap, sym, subst, ◌∙◌}
use Rattle.std.specs.List.{insert}
use Rattle.std.specs.List.Sorted.{IsBinarySearchResult, IsSearchInRange}
use Rattle.std.specs.FinMap.{find, put}
use Rattle.dir_names.specs.declared.fault.NameFault.TheVariants.{BadDn}
use Rattle.dir_names.specs.Attr.{Attr}
use Rattle.dir_names.specs.Keys.{RdnKeys, is_rdn_key, with_pair}
use Rattle.dir_names.specs.Orders.{attr_cmp, attr_cmp_total}
use Rattle.dir_names.specs.Sorted.{place, rises}
use Rattle.dir_names.proofs.Placed.{so, keys_of, value_at, put_at, find-place, put-place, rises-put_at, place_from_search}

-- what a binary search over the pairs answers is the place of the attribute
pub pair_place : (pairs : RdnKeys) (attr : Attr) (r : Result ℕ ℕ) → is_rdn_key pairs ≡ true → IsSearchInRange r (length pairs) → IsBinarySearchResult (λ p. attr_cmp p.0 attr) pairs r → r ≡ place attr_cmp attr (keys_of attr_cmp pairs)
pair_place pairs attr r sound bound found = place_from_search attr_cmp_total (λ p. p.0) attr pairs r (so _ sound) bound found

module _ (pairs : RdnKeys) (sound : is_rdn_key pairs ≡ true) (attr : Attr) (value : List ℕ) (r : Result ℕ ℕ) (at : r ≡ place attr_cmp attr (keys_of attr_cmp pairs)) (i : ℕ) where
  found : find attr_cmp attr pairs ≡ value_at attr_cmp r pairs (attr, value)
  found = find-place attr_cmp attr_cmp_total attr pairs (attr, value) (so _ sound) ∙ ap (λ p. value_at attr_cmp p pairs (attr, value)) (sym at)

  pub with_pair_twice : r ≡ Ok i → with_pair attr value pairs ≡ Err BadDn
  with_pair_twice e = ap (λ o. cond (is_some o) (Err BadDn) (Ok (put attr_cmp attr value pairs))) (found ∙ ap (λ p. value_at attr_cmp p pairs (attr, value)) e)

  pub with_pair_new : r ≡ Err i → with_pair attr value pairs ≡ Ok (insert pairs i (attr, value))
  with_pair_new e =
      ap (λ o. cond (is_some o) (Err BadDn) (Ok (put attr_cmp attr value pairs))) (found ∙ ap (λ p. value_at attr_cmp p pairs (attr, value)) e)
      ∙ ap Ok (put-place attr_cmp attr value pairs ∙ ap (λ p. put_at attr_cmp p attr value pairs) (sym at ∙ e))

  pub rises_insert : r ≡ Err i → is_rdn_key (insert pairs i (attr, value)) ≡ true
  rises_insert e =
      truth (subst (λ p. T (rises attr_cmp (keys_of attr_cmp (put_at attr_cmp p attr value pairs)))) (sym at ∙ e) (rises-put_at attr_cmp attr_cmp_total attr value pairs (so _ sound)))
    where
      truth : {b : Bool} → T b → b ≡ true
      truth {b} t = elim b as (λ b. T b → b ≡ true) [ true ↦ λ _. refl | _ ↦ λ f. absurd f ] t
