-- Lists of which each element has a value.
use Rattle.std.proofs.Common.{◌≡◌, suc, List, [], ◌∷◌, ◌++◌, length, Option, Some, None, refl, ap, ◌∙◌}
use Rattle.dir_names.specs.Results.{option_collect, option_cons}

module _ {A B : Type 0} (f : A → Option B) where
  pub collect_append : (xs ys : List A) (us vs : List B) → option_collect f xs ≡ Some us → option_collect f ys ≡ Some vs → option_collect f (xs ++ ys) ≡ Some (us ++ vs)
  collect_append [] ys us vs e h = let none : [] ≡ us = cc in h ∙ ap (λ z. Some (z ++ vs)) none
  collect_append (x ∷ xs) ys us vs e h = by (f x) (option_collect f xs) refl e (collect_append xs ys)
    where
      by : (o : Option B) (p : Option (List B)) → option_collect f xs ≡ p → option_cons o p ≡ Some us → ((us vs : List B) → option_collect f xs ≡ Some us → option_collect f ys ≡ Some vs → option_collect f (xs ++ ys) ≡ Some (us ++ vs)) → option_cons o (option_collect f (xs ++ ys)) ≡ Some (us ++ vs)
      by None p t e rest = absurd (cc)
      by (Some u) None t e rest = absurd (cc)
      by (Some u) (Some ws) t e rest =
          let same : u ∷ ws ≡ us = cc in
          ap (option_cons (Some u)) (rest ws vs t h) ∙ ap (λ z. Some (z ++ vs)) same

  pub collect_length : (xs : List A) (us : List B) → option_collect f xs ≡ Some us → length xs ≡ length us
  collect_length [] us e = let none : [] ≡ us = cc in ap length none
  collect_length (x ∷ xs) us e = by (f x) (option_collect f xs) refl e (collect_length xs)
    where
      by : (o : Option B) (p : Option (List B)) → option_collect f xs ≡ p → option_cons o p ≡ Some us → ((us : List B) → option_collect f xs ≡ Some us → length xs ≡ length us) → suc (length xs) ≡ length us
      by None p t e rest = absurd (cc)
      by (Some u) None t e rest = absurd (cc)
      by (Some u) (Some ws) t e rest = let same : u ∷ ws ≡ us = cc in ap suc (rest ws t) ∙ ap length same
