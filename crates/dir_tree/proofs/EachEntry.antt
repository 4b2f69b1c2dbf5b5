-- What holds of what each key of a map has holds of each of its entries.
use Rattle.std.proofs.Common.{◌≡◌, Bool, true, false, cond, List, [], ◌∷◌, Option, Some, None, refl, sym, ap, ◌∙◌, true≢false, T}
use Rattle.std.specs.List.{list_all}
use Rattle.std.specs.FinMap as fin
use Rattle.std.specs.FinMap.{IsAntisymmetric, entries_sorted, find, get-entries}
use Rattle.std.specs.declared.cmp.Ordering.{Ordering}
use Rattle.std.specs.declared.cmp.Ordering.TheVariants.{Less, Equal, Greater}
use Rattle.std.specs.Ordering.{eq_by_cmp, is_eq, is_lt}
use Rattle.std.specs.Cmp.{IsTotalOrder, Equal-is, tied_itself}
use Rattle.dir_names.specs.Sorted.{rises}
use Rattle.dir_names.proofs.Both.{left, right}
use Rattle.dir_names.proofs.Placed.{is_sorted-keys, keys_of}
use Rattle.dir_tree.specs.WellFormed.{Each}

truth : {b : Bool} → T b → b ≡ true
truth {b} t = elim b as (λ b. T b → b ≡ true) [ true ↦ λ _. refl | _ ↦ λ f. absurd f ] t

less_differs : (r : Ordering) → is_lt r ≡ true → is_eq r ≡ false
less_differs Less h = refl
less_differs Equal h = absurd (true≢false (sym h))
less_differs Greater h = refl

module _ {K X : Type 0} {R : K → K → Ordering} (o : IsTotalOrder R) (exact : IsAntisymmetric R) (P : K × X → Type 0) where
  -- a key before all others is none of them
  pub apart : (k : K) (es : List (K × X)) → list_all (λ x. is_lt (R k x)) (keys_of R es) ≡ true → find R k es ≡ None
  apart k [] t = refl
  apart k (e ∷ es) t =
      ap (λ b. cond b (Some e.1) (find R k es)) (less_differs (R k e.0) (left (is_lt (R k e.0)) (list_all (λ x. is_lt (R k x)) (keys_of R es)) t))
      ∙ apart k es (right (is_lt (R k e.0)) (list_all (λ x. is_lt (R k x)) (keys_of R es)) t)

  pub each_found : (es : List (K × X)) → rises R (keys_of R es) ≡ true → ((k : K) (x : X) → find R k es ≡ Some x → P (k, x)) → Each P es
  each_found [] t h = tt
  each_found (e ∷ es) t h =
      (h e.0 e.1 (ap (λ b. cond b (Some e.1) (find R e.0 es)) (ap is_eq (tied_itself o e.0))), each_found es (right (list_all (λ x. is_lt (R e.0 x)) (keys_of R es)) (rises R (keys_of R es)) t) rest)
    where
      rest : (k : K) (x : X) → find R k es ≡ Some x → P (k, x)
      rest k x there = h k x (by (eq_by_cmp R k e.0) refl)
        where
          by : (b : Bool) → eq_by_cmp R k e.0 ≡ b → cond b (Some e.1) (find R k es) ≡ Some x
          by false t = there
          by true same =
              let none : find R k es ≡ None = ap (λ z. find R z es) (exact k e.0 ((Equal-is (R k e.0)).0 same)) ∙ apart e.0 es (left (list_all (λ x. is_lt (R e.0 x)) (keys_of R es)) (rises R (keys_of R es)) t) in
              absurd (not_both (sym none ∙ there))
            where
              not_both : ◌≡◌ {A = Option X} None (Some x) → ⊥
              not_both e = cc

  pub each_entry : (m : fin.FinMap R X) → ((k : K) (x : X) → fin.get m k ≡ Some x → P (k, x)) → Each P (fin.entries m)
  each_entry m h = each_found (fin.entries m) (sym (is_sorted-keys R (fin.entries m)) ∙ truth (entries_sorted m)) (λ k x there. h k x (get-entries m k ∙ there))
