-- A list read element by element, where one that fails makes the whole fail.
use Rattle.std.proofs.Common.{◌≡◌, List, [], ◌∷◌, ◌++◌, Option, Some, None, Ok, refl, sym, ap, ◌∙◌, append_assoc}
use Rattle.std.proofs.lemmas.List.{append-nil}
use Rattle.dir_names.specs.declared.fault.NameFault.{NameFault}
use Rattle.dir_names.specs.declared.fault.NameFault.TheVariants.{BadDescription, ReservedName, BadValue, BadDn, NameLimit, Memory, BadType}
use Rattle.dir_names.specs.Outcome.{IsNameFaultOf}
use Rattle.dir_names.specs.Outcome.{ok_or_bad_dn}
use Rattle.dir_names.specs.Results.{option_collect, option_cons}

-- what was read, before what is read of the rest
abbrev pub prefixed : {B : Type 0} → List B → Option (List B) → Option (List B)
prefixed done None = None
prefixed done (Some rest) = Some (done ++ rest)

pub ok_some : {B : Type 0} (x : Option B) (y : B) → ok_or_bad_dn x ≡ Ok y → x ≡ Some y
ok_some None y e = absurd (cc)
ok_some (Some z) y e = let same : z ≡ y = cc in ap Some same

-- a fault of a part is one of the whole
pub fails_through : {A B : Type 0} (e : NameFault) (x : Option A) (y : Option B) → (x ≡ None → y ≡ None) → IsNameFaultOf e (ok_or_bad_dn x) → IsNameFaultOf e (ok_or_bad_dn y)
fails_through BadDescription None y through f = absurd (cc)
fails_through BadDescription (Some x) y through f = absurd (cc)
fails_through ReservedName None y through f = absurd (cc)
fails_through ReservedName (Some x) y through f = absurd (cc)
fails_through BadValue None y through f = absurd (cc)
fails_through BadValue (Some x) y through f = absurd (cc)
fails_through BadDn None y through f = ap ok_or_bad_dn (through refl)
fails_through BadDn (Some x) y through f = absurd (cc)
fails_through NameLimit None y through f = absurd (cc)
fails_through NameLimit (Some x) y through f = absurd (cc)
fails_through Memory x y through f = tt
fails_through BadType None y through f = absurd (cc)
fails_through BadType (Some x) y through f = absurd (cc)

module _ {A B : Type 0} (f : A → Option B) where
  pub all_none : (xs : List A) → option_collect f xs ≡ prefixed [] (option_collect f xs)
  all_none xs = by (option_collect f xs)
    where
      by : (ys : Option (List B)) → ys ≡ prefixed [] ys
      by None = refl
      by (Some ys) = refl

  joined : (done : List B) (y : B) (rest : Option (List B)) → prefixed done (option_cons (Some y) rest) ≡ prefixed (done ++ y ∷ []) rest
  joined done y None = refl
  joined done y (Some rest) = ap Some (sym (append_assoc done (y ∷ []) rest))

  module _ (all : List A) (done : List B) (x : A) (rest : List A) (so_far : option_collect f all ≡ prefixed done (option_collect f (x ∷ rest))) where
    pub all_more : (y : B) → f x ≡ Some y → option_collect f all ≡ prefixed (done ++ y ∷ []) (option_collect f rest)
    all_more y e = so_far ∙ ap (λ o. prefixed done (option_cons o (option_collect f rest))) e ∙ joined done y (option_collect f rest)

    pub all_fails : f x ≡ None → option_collect f all ≡ None
    all_fails e = so_far ∙ ap (λ o. prefixed done (option_cons o (option_collect f rest))) e

  pub all_done : (all : List A) (done : List B) → option_collect f all ≡ prefixed done (option_collect f []) → option_collect f all ≡ Some done
  all_done all done e = e ∙ ap Some (append-nil done)
