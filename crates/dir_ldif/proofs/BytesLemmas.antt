-- Lemmas on words on bytes.
use Rattle.std.proofs.Common.{◌≡◌, ℕ, zero, suc, ◌+◌, ◌<◌, ◌⊎◌, Bool, true, false, eqb, List, [], ◌∷◌, ◌++◌, length, get_or, take, drop, Option, Some, None, refl, sym, ap, ⊎_elim, inl, inr, add-one, arith}
use Rattle.std.specs.List.{list_any}
use Rattle.std.specs.Option.{option_map}
use Rattle.std.proofs.lemmas.Bool.{eqb-true}
use Rattle.dir_ldif.specs.Bytes.{is_empty, begins_with, ends_in, without_last, cut_at}

pub ends_in-append : (b c : ℕ) (xs : List ℕ) → ends_in b (xs ++ c ∷ []) ≡ eqb c b
ends_in-append b c [] = refl
ends_in-append b c (x ∷ []) = refl
ends_in-append b c (x ∷ y ∷ ys) = ends_in-append b c (y ∷ ys)

-- the last number goes
pub without_last-same : (b c : ℕ) (xs : List ℕ) → eqb c b ≡ true → without_last b (xs ++ c ∷ []) ≡ xs
without_last-same b c [] e = rw e refl
without_last-same b c (x ∷ []) e = rw e refl
without_last-same b c (x ∷ y ∷ ys) e = ap (λ t. x ∷ t) (without_last-same b c (y ∷ ys) e)

-- another one stays
pub without_last-other : (b c : ℕ) (xs : List ℕ) → eqb c b ≡ false → without_last b (xs ++ c ∷ []) ≡ xs ++ c ∷ []
without_last-other b c [] e = rw e refl
without_last-other b c (x ∷ []) e = rw e refl
without_last-other b c (x ∷ y ∷ ys) e = ap (λ t. x ∷ t) (without_last-other b c (y ∷ ys) e)

-- the list is the same with more after it
pub without_last-append : (b : ℕ) (xs : List ℕ) (y : ℕ) (ys : List ℕ) → without_last b (xs ++ y ∷ ys) ≡ xs ++ without_last b (y ∷ ys)
without_last-append b [] y ys = refl
without_last-append b (x ∷ []) y ys = refl
without_last-append b (x ∷ z ∷ zs) y ys = ap (λ t. x ∷ t) (without_last-append b (z ∷ zs) y ys)

-- the cut at the first such place
pub cut_at-first : (b : ℕ) (xs : List ℕ) (k : ℕ) → k < length xs → eqb (get_or xs k 0) b ≡ true → ((j : ℕ) → j < k → eqb (get_or xs j 0) b ≡ false)
    → cut_at b xs ≡ Some (take k xs, drop (k + 1) xs)
cut_at-first b [] k lt e none = absurd (omega arith)
cut_at-first b (x ∷ xs) zero lt e none = rw e refl
cut_at-first b (x ∷ xs) (suc k) lt e none =
    let ih = cut_at-first b xs k (omega arith) e (λ j h. none (suc j) (omega arith)) in
    let first : eqb x b ≡ false = none 0 (omega arith) in
    rw (first, ih, add-one, add-one) refl

-- no cut where there is no such place
pub cut_at-none : (b : ℕ) (xs : List ℕ) → ((j : ℕ) → j < length xs → eqb (get_or xs j 0) b ≡ false) → cut_at b xs ≡ None
cut_at-none b [] none = refl
cut_at-none b (x ∷ xs) none =
    let first : eqb x b ≡ false = none 0 (omega arith) in
    rw (first, cut_at-none b xs (λ j h. none (suc j) (omega arith))) refl

pub true_or_false : (v : Bool) → (v ≡ true) ⊎ (v ≡ false)
true_or_false true = inl refl
true_or_false false = inr refl

pub false_from_not : (v : Bool) → (v ≡ true → ⊥) → v ≡ false
false_from_not true h = absurd (h refl)
false_from_not false h = refl

pub begins_with-append : (b : ℕ) (xs ys : List ℕ) → is_empty xs ≡ false → begins_with b (xs ++ ys) ≡ begins_with b xs
begins_with-append b [] ys e = cc
begins_with-append b (x ∷ xs) ys e = refl

-- a value that was made of another
some_of_map : {A B : Type 0} (f : A → B) (o : Option A) (y : B) → Some y ≡ option_map f o → (x : A) × (o ≡ Some x) × (y ≡ f x)
some_of_map f None y e = cc
some_of_map f (Some x) y e = (x, refl, cc)

pub same_of_some : {A : Type 0} (x y : A) → Some x ≡ Some y → x ≡ y
same_of_some x y e = cc

none_of_map : {A B : Type 0} (f : A → B) (o : Option A) → None ≡ option_map f o → o ≡ None
none_of_map f None e = refl
none_of_map f (Some x) e = cc

cut_here : (b x : ℕ) (xs front back : List ℕ) → front ≡ [] → back ≡ xs → x ≡ b → (x ∷ xs ≡ front ++ b ∷ back) × (list_any (λ x. eqb x b) front ≡ false)
cut_here b x xs front back nothing rest same = rw (nothing, rest, same) (refl, refl)

cut_there : (b x : ℕ) (xs front back before after : List ℕ) → eqb x b ≡ false → front ≡ x ∷ before → back ≡ after → xs ≡ before ++ b ∷ after
    → list_any (λ x. eqb x b) before ≡ false → (x ∷ xs ≡ front ++ b ∷ back) × (list_any (λ x. eqb x b) front ≡ false)
cut_there b x xs front back before after other f g whole lacks = rw (f, g, whole, other) (refl, lacks)

-- what comes before the cut and after it
pub cut_at-text : (b : ℕ) (xs front back : List ℕ) → Some (front, back) ≡ cut_at b xs → (xs ≡ front ++ b ∷ back) × (list_any (λ x. eqb x b) front ≡ false)
cut_at-text b [] front back e = cc
cut_at-text b (x ∷ xs) front back e =
    ⊎_elim
    (λ (yes : eqb x b ≡ true).
    let here : Some (front, back) ≡ Some ([], xs) = rw yes at e in
    let both = same_of_some {A = List ℕ × List ℕ} (front, back) ([], xs) here in
    let nothing : front ≡ [] = ap (λ p. p.0) both in
    let rest : back ≡ xs = ap (λ p. p.1) both in
    let same : x ≡ b = eqb-true x b yes in
    cut_here b x xs front back nothing rest same)
    (λ (no : eqb x b ≡ false).
    let there : Some (front, back) ≡ option_map (λ p. (x ∷ p.0, p.1)) (cut_at b xs) = rw no at e in
    let part = some_of_map (λ (p : List ℕ × List ℕ). (x ∷ p.0, p.1)) (cut_at b xs) (front, back) there in
    let ih = cut_at-text b xs part.0.0 part.0.1 (sym part.1) in
    let before : front ≡ x ∷ part.0.0 = ap (λ p. p.0) part.2 in
    let after : back ≡ part.0.1 = ap (λ p. p.1) part.2 in
    cut_there b x xs front back part.0.0 part.0.1 no before after ih.0 ih.1)
    (true_or_false (eqb x b))

-- where there is no cut, there is no such number
pub cut_at-lacks : (b : ℕ) (xs : List ℕ) → None ≡ cut_at b xs → list_any (λ x. eqb x b) xs ≡ false
cut_at-lacks b [] e = refl
cut_at-lacks b (x ∷ xs) e =
    ⊎_elim
    (λ (yes : eqb x b ≡ true). let there : None ≡ Some ([], xs) = rw yes at e in cc)
    (λ (no : eqb x b ≡ false).
    let there : None ≡ option_map (λ p. (x ∷ p.0, p.1)) (cut_at b xs) = rw no at e in
    let gone = none_of_map (λ (p : List ℕ × List ℕ). (x ∷ p.0, p.1)) (cut_at b xs) there in
    rw no (cut_at-lacks b xs (sym gone)))
    (true_or_false (eqb x b))

-- what is left is a prefix of the list
pub take-without_last : (b : ℕ) (xs : List ℕ) → take (length (without_last b xs)) xs ≡ without_last b xs
take-without_last b [] = refl
take-without_last b (x ∷ []) =
    ⊎_elim (λ (yes : eqb x b ≡ true). rw yes refl) (λ (no : eqb x b ≡ false). rw no refl) (true_or_false (eqb x b))
take-without_last b (x ∷ y ∷ ys) = ap (λ t. x ∷ t) (take-without_last b (y ∷ ys))
