-- Lemmas on the name and the value of a line.
use Rattle.std.proofs.Common.{◌≡◌, ℕ, zero, suc, ◌<◌, Bool, true, false, eqb, List, [], ◌∷◌, length, get_or, refl, sym, ap, ⊎_elim, Option, None, Some, is_some, Ok, Err, arith}
use Rattle.std.specs.List.{list_any}
use Rattle.std.proofs.lemmas.Bool.{eqb-true}
use Rattle.memchr.specs.Find.{IsFirstByte}
use Rattle.dir_ldif.specs.declared.faults.RecordFault.TheVariants.{BadLine}
use Rattle.dir_ldif.specs.declared.faults.Refusal.{Refusal}
use Rattle.dir_ldif.specs.declared.faults.Refusal.TheVariants.{Fault, Memory}
use Rattle.dir_ldif.specs.Bytes.{cut_at}
use Rattle.dir_names.specs.Results.{and_then}
use Rattle.dir_ldif.specs.Inside.Refusals.{Refuses}
use Rattle.dir_ldif.specs.AttrVal.{attrval_of, attrval_of_cut, attrval_from, value_of, within_limit}
use Rattle.dir_ldif.proofs.BytesLemmas.{true_or_false, false_from_not}

module _ (test : ℕ → Bool) where
  list_any-none : (xs : List ℕ) → ((k : ℕ) → k < length xs → test (get_or xs k 0) ≡ false) → list_any test xs ≡ false
  list_any-none [] h = refl
  list_any-none (x ∷ xs) h =
      let first : test x ≡ false = h 0 (omega arith) in
      rw (first, list_any-none xs (λ k lt. h (suc k) (omega arith))) refl

  list_any-some : (xs : List ℕ) (k : ℕ) → k < length xs → test (get_or xs k 0) ≡ true → list_any test xs ≡ true
  list_any-some [] k lt e = absurd (omega arith)
  list_any-some (x ∷ xs) zero lt e = rw e refl
  list_any-some (x ∷ xs) (suc k) lt e =
      let rest = list_any-some xs k (omega arith) e in
      ⊎_elim (λ (yes : test x ≡ true). rw yes refl) (λ (other : test x ≡ false). rw (other, rest) refl) (true_or_false (test x))

  -- a search for a byte finds one where there is one
  pub is_some-first : (xs : List ℕ) (r : Option ℕ) → IsFirstByte test xs r → is_some r ≡ list_any test xs
  is_some-first xs None h = sym (list_any-none xs (λ k lt. false_from_not _ (λ e. h k (omega arith) lt e)))
  is_some-first xs (Some k) h = sym (list_any-some xs k h.0.high h.1)

pub attrval_of-none : (line : List ℕ) → None ≡ cut_at 58 line → attrval_of line ≡ Err BadLine
unfolding attrval_of
attrval_of-none line e = ap attrval_of_cut (sym e)

pub attrval_of-cut : (line name rest : List ℕ) → Some (name, rest) ≡ cut_at 58 line → attrval_of line ≡ attrval_from name rest
unfolding attrval_of
attrval_of-cut line name rest e = ap attrval_of_cut (sym e)

pub attrval_from-nameless : (name rest : List ℕ) → eqb (length name) 0 ≡ true → attrval_from name rest ≡ Err BadLine
attrval_from-nameless [] rest e = refl
attrval_from-nameless (b ∷ name) rest e = absurd (omega (arith, eqb-true _ _ e))

pub attrval_from-value : (name rest value : List ℕ) → eqb (length name) 0 ≡ false → and_then (value_of rest) within_limit ≡ Ok value → attrval_from name rest ≡ Ok (name, value)
attrval_from-value [] rest value e h = cc
attrval_from-value (b ∷ name) rest value e h = ap (λ r. and_then r (λ v. Ok (b ∷ name, v))) h

pub attrval_from-refuses : (name rest : List ℕ) (refusal : Refusal) → eqb (length name) 0 ≡ false → Refuses refusal (and_then (value_of rest) within_limit) → Refuses refusal (attrval_from name rest)
attrval_from-refuses [] rest refusal e h = cc
attrval_from-refuses (b ∷ name) rest (Fault fault) e h = ap (λ r. and_then r (λ v. Ok (b ∷ name, v))) h
attrval_from-refuses (b ∷ name) rest Memory e h = tt
