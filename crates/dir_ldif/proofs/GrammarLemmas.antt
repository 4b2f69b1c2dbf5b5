-- Lemmas on lists of lines, each of which is read.
use Rattle.std.proofs.Common.{◌≡◌, ℕ, suc, ◌+◌, ◌-◌, ◌<◌, ◌≤◌, Bool, true, false, List, [], ◌∷◌, ◌++◌, length, get_or, take, drop, refl, sym, ap, subst, ⊎_elim, ◌∙◌, append_assoc, drop-cons, codes, Result, Ok, Err, arith}
use Rattle.std.specs.List.{list_any, onto_first}
use Rattle.std.proofs.lemmas.List.{take-append-drop, take_rest, take_all}
use Rattle.std.proofs.Math.Seq.{drop-length}
use Rattle.dir_ldif.specs.declared.faults.RecordFault.{RecordFault}
use Rattle.dir_ldif.specs.declared.faults.Refusal.{Refusal}
use Rattle.dir_ldif.specs.declared.faults.Refusal.TheVariants.{Fault, Memory}
use Rattle.dir_names.specs.declared.schema.TypeRow.{TypeRow}
use Rattle.dir_names.specs.Names.{SpelledName}
use Rattle.dir_ldif.specs.declared.records.Record.TheVariants as form
use Rattle.dir_ldif.specs.RecordGrammar.{body_of, change_of, is_keyword, try_map}
use Rattle.dir_ldif.specs.LogicalLines.{Line, cut}
use Rattle.dir_ldif.specs.AttrVal.{attrval_of}
use Rattle.dir_names.specs.Results.{and_then}
use Rattle.dir_ldif.specs.Inside.Refusals.{Refuses}
use Rattle.dir_ldif.proofs.BytesLemmas.{true_or_false}

-- what came first, and then the rest, if it is read
abbrev pub after_prefix : {B : Type 0} → List B → Result (List B) RecordFault → Result (List B) RecordFault
after_prefix front rest = and_then rest (λ ys. Ok (front ++ ys))

pub after_prefix-nil : {B : Type 0} (r : Result (List B) RecordFault) → after_prefix [] r ≡ r
after_prefix-nil (Ok ys) = refl
after_prefix-nil (Err e) = refl

pub after_prefix-more : {B : Type 0} (front : List B) (y : B) (r : Result (List B) RecordFault) → after_prefix front (and_then r (λ ys. Ok (y ∷ ys))) ≡ after_prefix (front ++ y ∷ []) r
after_prefix-more front y (Ok ys) = ap Ok (sym (append_assoc front (y ∷ []) ys))
after_prefix-more front y (Err e) = refl

module _ {A B : Type 0} (f : A → Result B RecordFault) where
  -- one more came
  pub try_map-next : (front : List B) (x : A) (xs : List A) (y : B) → f x ≡ Ok y → after_prefix front (try_map f (x ∷ xs)) ≡ after_prefix (front ++ y ∷ []) (try_map f xs)
  try_map-next front x xs y e = rw e (after_prefix-more front y (try_map f xs))

  -- one is refused
  pub try_map-refuses : (refusal : Refusal) (front : List B) (x : A) (xs : List A) → Refuses refusal (f x) → Refuses refusal (after_prefix front (try_map f (x ∷ xs)))
  try_map-refuses (Fault fault) front x xs h = rw h refl
  try_map-refuses Memory front x xs h = tt

  at_index : (xs : List A) (i : ℕ) (x : A) → i < length xs → x ≡ get_or xs i x → drop i xs ≡ x ∷ drop (i + 1) xs
  at_index xs i x lt e =
      let one : suc i ≡ i + 1 = omega arith in
      drop-cons xs i x lt ∙ ap (λ t. t ∷ drop (suc i) xs) (sym e) ∙ ap (λ n. x ∷ drop n xs) one

  pub try_map-turn : (front : List B) (xs : List A) (i : ℕ) (x : A) (y : B) (wanted : Result (List B) RecordFault) → wanted ≡ after_prefix front (try_map f (drop i xs)) → i < length xs → x ≡ get_or xs i x
      → f x ≡ Ok y → wanted ≡ after_prefix (front ++ y ∷ []) (try_map f (drop (i + 1) xs))
  try_map-turn front xs i x y wanted inv lt here e = inv ∙ ap (λ t. after_prefix front (try_map f t)) (at_index xs i x lt here) ∙ try_map-next front x (drop (i + 1) xs) y e

  pub try_map-stop : (refusal : Refusal) (front : List B) (xs : List A) (i : ℕ) (x : A) (wanted : Result (List B) RecordFault) → wanted ≡ after_prefix front (try_map f (drop i xs)) → i < length xs
      → x ≡ get_or xs i x → Refuses refusal (f x) → Refuses refusal wanted
  try_map-stop refusal front xs i x wanted inv lt here h =
      subst (Refuses refusal) (sym (inv ∙ ap (λ t. after_prefix front (try_map f t)) (at_index xs i x lt here))) (try_map-refuses refusal front x (drop (i + 1) xs) h)

-- ---- pieces

module _ {A : Type 0} (test : A → Bool) where
  pub cut-piece : (xs : List A) (y : A) (ys : List A) → list_any test xs ≡ false → test y ≡ true → cut test (xs ++ y ∷ ys) ≡ xs ∷ cut test ys
  cut-piece [] y ys lacks e = rw e refl
  cut-piece (x ∷ xs) y ys lacks e =
      ⊎_elim
      (λ (yes : test x ≡ true). let never : true ≡ false = rw yes at lacks in cc)
      (λ (other : test x ≡ false). let rest : list_any test xs ≡ false = rw other at lacks in rw (other, cut-piece xs y ys rest e) refl)
      (true_or_false (test x))

  pub cut-only : (x : A) (xs : List A) → list_any test (x ∷ xs) ≡ false → cut test (x ∷ xs) ≡ (x ∷ xs) ∷ []
  cut-only x [] lacks =
      ⊎_elim
      (λ (yes : test x ≡ true). let never : true ≡ false = rw yes at lacks in cc)
      (λ (other : test x ≡ false). rw other refl)
      (true_or_false (test x))
  cut-only x (y ∷ xs) lacks =
      ⊎_elim
      (λ (yes : test x ≡ true). let never : true ≡ false = rw yes at lacks in cc)
      (λ (other : test x ≡ false). let rest : list_any test (y ∷ xs) ≡ false = rw other at lacks in rw other (ap (onto_first x) (cut-only y xs rest)))
      (true_or_false (test x))

-- ---- bodies

-- the second line is a changetype
pub body_of-change : (rows : List TypeRow) (name : SpelledName) (lines : List Line) (second : Line) (further : List Line) (p : List ℕ × List ℕ) → lines ≡ second ∷ further → attrval_of second.1 ≡ Ok p
    → is_keyword p.0 (codes "control") ≡ false → is_keyword p.0 (codes "changetype") ≡ true
    → body_of rows name lines ≡ and_then (change_of rows p.1 further) (λ kind. Ok (form.Change (record { dn = name; kind = kind })))
body_of-change rows name lines second further p is e control change = rw (is, e, control, change) refl

-- ---- pieces by index

module _ {A : Type 0} (test : A → Bool) where
  -- the first element that passes ends the first piece
  pub cut_at_index : (xs : List A) (i : ℕ) (x : A) → i < length xs → x ≡ get_or xs i x → list_any test (take i xs) ≡ false → test x ≡ true → cut test xs ≡ take i xs ∷ cut test (drop (i + 1) xs)
  cut_at_index xs i x lt here lacks e =
      let one : suc i ≡ i + 1 = omega arith in
      let back : drop i xs ≡ x ∷ drop (i + 1) xs = drop-cons xs i x lt ∙ ap (λ t. t ∷ drop (suc i) xs) (sym here) ∙ ap (λ n. x ∷ drop n xs) one in
      let whole : xs ≡ take i xs ++ x ∷ drop (i + 1) xs = sym (take-append-drop i xs) ∙ ap (λ t. take i xs ++ t) back in
      ap (cut test) whole ∙ cut-piece test (take i xs) x (drop (i + 1) xs) lacks e

  -- where none passes, all are one piece
  pub cut_whole : (xs : List A) (i : ℕ) → length xs ≤ i → 0 < length xs → list_any test (take i xs) ≡ false → cut test xs ≡ xs ∷ cut test (take (length xs - length xs) (drop (length xs) xs))
  cut_whole [] i le some lacks = absurd (omega arith)
  cut_whole (x ∷ xs) i le some lacks =
      let all : take i (x ∷ xs) ≡ x ∷ xs = take_all i (x ∷ xs) le in
      let lacks_all : list_any test (x ∷ xs) ≡ false = ap (list_any test) (sym all) ∙ lacks in
      let none : take (length (x ∷ xs) - length (x ∷ xs)) (drop (length (x ∷ xs)) (x ∷ xs)) ≡ [] =
      take_rest (x ∷ xs) (length (x ∷ xs)) ∙ drop-length (x ∷ xs) in
      rw none (cut-only test x xs lacks_all)
