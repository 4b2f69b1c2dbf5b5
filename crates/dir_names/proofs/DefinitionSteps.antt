-- What was read, before what is read of the rest.
use Rattle.std.proofs.Common.{◌≡◌, List, [], ◌∷◌, ◌++◌, Option, Some, None, refl, sym, ap, append_assoc}
use Rattle.std.specs.Option.{option_map}
use Rattle.std.proofs.lemmas.List.{append-nil}

module _ {T : Type 0} where
  pub one_more : (done : List T) (x : T) (rest : Option (List T)) → option_map (λ more. done ++ more) (option_map (λ more. x ∷ more) rest) ≡ option_map (λ more. (done ++ x ∷ []) ++ more) rest
  one_more done x None = refl
  one_more done x (Some rest) = ap Some (sym (append_assoc done (x ∷ []) rest))

  pub none_before : (rest : Option (List T)) → option_map (λ more. [] ++ more) rest ≡ rest
  none_before None = refl
  none_before (Some rest) = refl

  pub all_done : (done : List T) → option_map (λ more. done ++ more) (Some []) ≡ Some done
  all_done done = ap Some (append-nil done)
