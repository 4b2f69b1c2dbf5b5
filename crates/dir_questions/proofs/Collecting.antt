-- The values of a call on each element, taken one after the other.
use Rattle.std.proofs.Common.{◌≡◌, List, [], ◌∷◌, ◌++◌, map, Result, Ok, Err, refl, ap, sym, ◌∙◌, append_assoc}
use Rattle.dir_names.specs.Results.{and_then}
use Rattle.dir_questions.specs.Questions.{collect}

-- the values so far, and then those of the other elements
abbrev pub after : {B E : Type 0} → List B → Result (List B) E → Result (List B) E
after before rest = and_then rest (λ ys. Ok (before ++ ys))

-- the same of elements that are seen by a view
pub collect-map : {A B E X : Type 0} (f : A → Result B E) (g : X → A) (xs : List X) → collect f (map g xs) ≡ collect (λ x. f (g x)) xs
collect-map f g [] = refl
collect-map f g (x ∷ xs) = ap (λ r. and_then (f (g x)) (λ y. and_then r (λ ys. Ok (y ∷ ys)))) (collect-map f g xs)

-- one value more
moved : {B E : Type 0} (before : List B) (y : B) (rest : Result (List B) E) → after before (and_then rest (λ ys. Ok (y ∷ ys))) ≡ after (before ++ y ∷ []) rest
moved before y (Ok ys) = ap Ok (sym (append_assoc before (y ∷ []) ys))
moved before y (Err e) = refl

pub one_more : {A B E : Type 0} (f : A → Result B E) (before : List B) (x : A) (rest : List A) (y : B) → f x ≡ Ok y → after before (collect f (x ∷ rest)) ≡ after (before ++ y ∷ []) (collect f rest)
one_more f before x rest y e = ap (λ r. after before (and_then r (λ y. and_then (collect f rest) (λ ys. Ok (y ∷ ys))))) e ∙ moved before y (collect f rest)
