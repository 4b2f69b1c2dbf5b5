-- Lines that are taken by numbers among which each of theirs is.
use Rattle.std.proofs.Common.{◌≡◌, ◌<◌, ◌≤◌, ◌+◌, ℕ, zero, suc, Bool, true, false, nat_eq, ◌||◌, List, [], ◌∷◌, ◌++◌, map, length, slice_get, Option, Some, None, refl, sym, ap, subst, ◌∙◌, ⊎_elim, true≢false, arith}
use Rattle.std.specs.List.{All, list_any}
use Rattle.std.specs.List.Sorted.{IsPermutation}
use Rattle.std.proofs.lemmas.List.{length-append}
use Rattle.std.proofs.lemmas.Bool.{cases_lt}
use Rattle.std.proofs.lemmas.Bool.Decides.{Decides-eqb}
use Rattle.std.proofs.lemmas.List.Elements.{All-nil, All-cons, All-head, All-tail}
use Rattle.std.proofs.lemmas.List.Sorted.{IsPermutation-map, All-permutation, length_permutation, IsPermutation-refl, IsPermutation-sym, IsPermutation-trans, IsPermutation-cons, IsPermutation-middle}
use Rattle.dir_tree.specs.Inside.Patterns.{HasEach}

-- the numbers from one on, so many
abbrev numbers_from : ℕ → ℕ → List ℕ
numbers_from start zero = []
numbers_from start (suc n) = start ∷ numbers_from (suc start) n

-- where a number is in a list
record Found (x : ℕ) (ys : List ℕ) : Type 0 where
  pub front : List ℕ
  pub back : List ℕ
  pub is : ys ≡ front ++ x ∷ back

same_number : (x y : ℕ) → nat_eq x y ≡ true → x ≡ y
same_number x y e = (Decides-eqb x y).0 e

find_number : (x : ℕ) (ys : List ℕ) → list_any (nat_eq x) ys ≡ true → Found x ys
find_number x [] e = absurd (true≢false (sym e))
find_number x (y ∷ ys) e = by (find_number x ys) (nat_eq x y) refl e
  where
    by : (list_any (nat_eq x) ys ≡ true → Found x ys) → (b : Bool) → nat_eq x y ≡ b → (b || list_any (nat_eq x) ys) ≡ true → Found x (y ∷ ys)
    by more true t h = record { front = []; back = ys; is = ap (λ z. z ∷ ys) (sym (same_number x y t)) }
    by more false t h =
        let rest = more h in
        record { front = y ∷ rest.front; back = rest.back; is = ap (λ zs. y ∷ zs) rest.is }

without : (i x : ℕ) (front back : List ℕ) → nat_eq i x ≡ false → list_any (nat_eq i) (front ++ x ∷ back) ≡ list_any (nat_eq i) (front ++ back)
without i x [] back e = ap (λ b. b || list_any (nat_eq i) back) e
without i x (y ∷ front) back e = ap (λ b. nat_eq i y || b) (without i x front back e)

other_number : (i x : ℕ) → x < i → nat_eq i x ≡ false
other_number i x h = by (nat_eq i x) refl
  where
    by : (b : Bool) → nat_eq i x ≡ b → b ≡ false
    by true t = let same = same_number i x t in absurd (omega (arith, same, h))
    by false t = refl

-- a list that is no longer than some numbers, and has each of them, has these alone
each_number : (n start : ℕ) (ys : List ℕ) → ((i : ℕ) → start ≤ i → i < start + n → list_any (nat_eq i) ys ≡ true) → length ys ≡ n → IsPermutation (numbers_from start n) ys
each_number zero start [] h e = IsPermutation-refl []
each_number zero start (y ∷ ys) h e = absurd (omega (arith, e))
each_number (suc n) start ys h e =
    let found = find_number start ys (h start (omega arith) (omega arith)) in
    let rest = found.front ++ found.back in
    let each : (i : ℕ) → suc start ≤ i → i < suc start + n → list_any (nat_eq i) rest ≡ true = λ i low high. sym (ap (list_any (nat_eq i)) found.is ∙ without i start found.front found.back (other_number i start (omega (arith, low)))) ∙ h i (omega (arith, low)) (omega (arith, high)) in
    let long : length rest ≡ n = omega (arith, e, ap length found.is, length-append found.front (start ∷ found.back), length-append found.front found.back) in
    subst (IsPermutation (start ∷ numbers_from (suc start) n)) (sym found.is)
    (IsPermutation-trans _ _ _
    (IsPermutation-cons start _ _ (each_number n (suc start) rest each long))
    (IsPermutation-sym _ _ (IsPermutation-middle found.front start found.back)))

pub all_numbers : (numbers : List ℕ) → HasEach numbers → IsPermutation (numbers_from 0 (length numbers)) numbers
all_numbers numbers h = each_number (length numbers) 0 numbers (λ i low high. h i (omega (arith, high))) refl

module _ {A : Type 0} where
  -- the items by their numbers
  got : (front xs : List A) (start : ℕ) → start ≡ length front → map (slice_get (front ++ xs)) (numbers_from start (length xs)) ≡ map Some xs
  got front [] start e = refl
  got front (x ∷ xs) start e = λ i. here front start e i ∷ rest (λ n long. got (front ++ x ∷ []) xs n long) i
    where
      here : (front : List A) (start : ℕ) → start ≡ length front → slice_get (front ++ x ∷ xs) start ≡ Some x
      here [] zero e = refl
      here [] (suc start) e = absurd (omega (arith, e))
      here (y ∷ front) zero e = absurd (omega (arith, e))
      here (y ∷ front) (suc start) e = here front start (omega (arith, e))

      rest : ((n : ℕ) → n ≡ length (front ++ x ∷ []) → map (slice_get ((front ++ x ∷ []) ++ xs)) (numbers_from n (length xs)) ≡ map Some xs) → map (slice_get (front ++ x ∷ xs)) (numbers_from (suc start) (length xs)) ≡ map Some xs
      rest more = ap (λ zs. map (slice_get zs) (numbers_from (suc start) (length xs))) (again front) ∙ more (suc start) (omega (arith, e, length-append front (x ∷ [])))
        where
          again : (ys : List A) → ys ++ x ∷ xs ≡ (ys ++ x ∷ []) ++ xs
          again [] = refl
          again (y ∷ ys) = ap (λ zs. y ∷ zs) (again ys)

  abbrev or_else : A → Option A → A
  or_else d None = d
  or_else d (Some x) = x

  untold : (d : A) (xs : List A) → map (or_else d) (map Some xs) ≡ xs
  untold d [] = refl
  untold d (x ∷ xs) = ap (λ ys. x ∷ ys) (untold d xs)

  pub taken_all : (d : A) (xs taken : List A) (numbers : List ℕ) → HasEach numbers → length numbers ≡ length xs → map (slice_get xs) numbers ≡ map Some taken → IsPermutation xs taken
  taken_all d xs taken numbers each long are_at =
      let order : IsPermutation (numbers_from 0 (length xs)) numbers = subst (λ n. IsPermutation (numbers_from 0 n) numbers) long (all_numbers numbers each) in
      let items : IsPermutation (map (slice_get xs) (numbers_from 0 (length xs))) (map (slice_get xs) numbers) = IsPermutation-map (slice_get xs) _ _ order in
      let some : IsPermutation (map Some xs) (map Some taken) = subst (λ ys. IsPermutation ys (map Some taken)) (got [] xs 0 refl) (subst (IsPermutation (map (slice_get xs) (numbers_from 0 (length xs)))) are_at items) in
      subst (λ ys. IsPermutation ys taken) (untold d xs) (subst (IsPermutation (map (or_else d) (map Some xs))) (untold d taken) (IsPermutation-map (or_else d) _ _ some))

-- ---- numbers that come one after the other, and then in another order

pub each_none : HasEach []
each_none i h = absurd (omega (arith, h))

any_append : (p : ℕ → Bool) (xs : List ℕ) (y : ℕ) → list_any p (xs ++ y ∷ []) ≡ (list_any p xs || p y)
any_append p [] y = or_false (p y)
  where
    or_false : (b : Bool) → (b || false) ≡ b
    or_false true = refl
    or_false false = refl
any_append p (x ∷ xs) y = ap (λ b. p x || b) (any_append p xs y) ∙ joined (p x) (list_any p xs) (p y)
  where
    joined : (a b c : Bool) → (a || (b || c)) ≡ ((a || b) || c)
    joined true b c = refl
    joined false b c = refl

itself : (n : ℕ) → nat_eq n n ≡ true
itself n = (Decides-eqb n n).1 refl

pub each_more : (numbers : List ℕ) (n : ℕ) → length numbers ≡ n → HasEach numbers → (length (numbers ++ n ∷ []) ≡ n + 1) × HasEach (numbers ++ n ∷ [])
each_more numbers n e h = (omega (arith, e, length-append numbers (n ∷ [])), each)
  where
    or_true : (a : Bool) → (a || true) ≡ true
    or_true true = refl
    or_true false = refl

    each : HasEach (numbers ++ n ∷ [])
    each i lt = any_append (nat_eq i) numbers n ∙ by (list_any (nat_eq i) numbers) refl
      where
        by : (b : Bool) → list_any (nat_eq i) numbers ≡ b → (b || nat_eq i n) ≡ true
        by true t = refl
        by false t = ⊎_elim (λ below. absurd (true≢false (sym (h i (omega (arith, e, below))) ∙ t))) (λ above. let same : i ≡ n = omega (arith, above, lt, e, length-append numbers (n ∷ [])) in ap (λ k. nat_eq k n) same ∙ itself n) (cases_lt i n)

none_any : (p : ℕ → Bool) (xs : List ℕ) → list_any p xs ≡ false → All (λ x. p x ≡ false) xs
none_any p [] e = All-nil (λ x. p x ≡ false)
none_any p (x ∷ xs) e = by (none_any p xs) (p x) refl e
  where
    by : (list_any p xs ≡ false → All (λ x. p x ≡ false) xs) → (b : Bool) → p x ≡ b → (b || list_any p xs) ≡ false → All (λ x. p x ≡ false) (x ∷ xs)
    by rest true t h = absurd (true≢false h)
    by rest false t h = All-cons (λ x. p x ≡ false) x xs t (rest h)

any_none : (p : ℕ → Bool) (xs : List ℕ) → All (λ x. p x ≡ false) xs → list_any p xs ≡ false
any_none p [] h = refl
any_none p (x ∷ xs) h = λ i. All-head (λ x. p x ≡ false) x xs h i || any_none p xs (All-tail (λ x. p x ≡ false) x xs h) i

pub each_kept : (xs ys : List ℕ) → IsPermutation xs ys → HasEach xs → HasEach ys
each_kept xs ys same h i lt = by (list_any (nat_eq i) ys) refl
  where
    long : length ys ≡ length xs
    long = length_permutation xs ys same

    by : (b : Bool) → list_any (nat_eq i) ys ≡ b → b ≡ true
    by true t = refl
    by false t = sym (any_none (nat_eq i) xs (All-permutation (λ x. nat_eq i x ≡ false) ys xs (IsPermutation-sym xs ys same) (none_any (nat_eq i) ys t))) ∙ h i (omega (arith, lt, long))
