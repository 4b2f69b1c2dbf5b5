-- What std reads as a number of 128 bits, by the words of the definition.
use Rattle.std.proofs.Common.{◌≡◌, ℕ, zero, suc, ◌^◌, ◌<◌, Bool, true, false, cond, not, ◌&&◌, ◌==◌, List, [], ◌∷◌, length, drop, ℤ, pos, negsuc, Some, None, Result, Ok, Err, refl, sym, ap, subst, ◌∙◌, true≢false, arith}
use Rattle.std.proofs.lemmas.Bool.Decides.{nat_tests}
use Rattle.std.specs.Result.{result_ok}
use Rattle.std.specs.Str.{IsAscii, IsUtf8, all_ascii_digits}
use Rattle.std.specs.Str.Parse.{AllDigits, IsNumeral, ParsesSigned, digits_value, signed_digits_value, without_leading_sign}
use Rattle.std.specs.Int.RustNames.{FitsSigned}
use Rattle.std.proofs.lemmas.Fmt.{IsAscii-from_digits}
use Rattle.std.proofs.lemmas.Str.{IsUtf8-from_ascii}
use Rattle.std.proofs.lemmas.Str.Parse.{IsNumeralModel, numerals_by_value, tells_all_ascii_digits}
use mir.Syntax.{w128}
use Rattle.dir_change.specs.Increment.{fits_128, is_numeral, number_within}

model : IsNumeralModel (λ ds. all_ascii_digits ds ≡ true) (digits_value 10)
model = numerals_by_value (λ ds. all_ascii_digits ds ≡ true) tells_all_ascii_digits

both : (a b : Bool) → a ≡ true → b ≡ true → (a && b) ≡ true
both true b h k = k
both false b h k = h

fits_true : (z : ℤ) → FitsSigned w128 z → fits_128 z ≡ true
fits_true (pos n) h = let low : n < 2 ^ 127 = h.sfits in grind (arith, nat_tests)
fits_true (negsuc n) h = let low : n < 2 ^ 127 = h.sfits in grind (arith, nat_tests)

below : (n : ℕ) → fits_128 (pos n) ≡ true → n < 2 ^ 127
below n h = grind (arith, nat_tests)

not_above : (n : ℕ) → fits_128 (negsuc n) ≡ true → n < 2 ^ 127
not_above n h = grind (arith, nat_tests)

fits_so : (z : ℤ) → fits_128 z ≡ true → FitsSigned w128 z
fits_so (pos n) h = record { sfits = below n h }
fits_so (negsuc n) h = record { sfits = not_above n h }

not_none : (d : ℕ) (ds : List ℕ) → (length (d ∷ ds) == 0) ≡ false
not_none d ds = grind (arith, nat_tests)

digits_so : (ds : List ℕ) → (not (length ds == 0) && all_ascii_digits ds) ≡ true → IsNumeral 10 ds
digits_so [] h = absurd (true≢false (sym h))
digits_so (d ∷ ds) h = (omega arith, IsNumeralModel.to model (d ∷ ds) (sym (ap (λ b. not b && all_ascii_digits (d ∷ ds)) (not_none d ds)) ∙ h))

digits_true : (ds : List ℕ) → IsNumeral 10 ds → (not (length ds == 0) && all_ascii_digits ds) ≡ true
digits_true [] h = absurd (omega arith)
digits_true (d ∷ ds) h = ap (λ b. not b && all_ascii_digits (d ∷ ds)) (not_none d ds) ∙ IsNumeralModel.from model (d ∷ ds) h.1

-- a number that is read is the one that the text writes, and where none is read it writes none
pub parsed : {E : Type 0} (text : List ℕ) (r : Result ℤ E) → ParsesSigned w128 10 text r → result_ok r ≡ number_within text
parsed text (Ok z) h =
    let whole = both (is_numeral text) (fits_128 (signed_digits_value 10 text)) (digits_true (without_leading_sign text) h.0.0) (fits_true (signed_digits_value 10 text) h.0.1) in
    ap Some h.1 ∙ ap (λ b. cond b (Some (signed_digits_value 10 text)) None) (sym whole)
parsed text (Err e) h = by (is_numeral text) (fits_128 (signed_digits_value 10 text)) refl refl
  where
    by : (a b : Bool) → is_numeral text ≡ a → fits_128 (signed_digits_value 10 text) ≡ b → None ≡ cond (is_numeral text && fits_128 (signed_digits_value 10 text)) (Some (signed_digits_value 10 text)) None
    by false b t u = ap (λ a. cond (a && fits_128 (signed_digits_value 10 text)) (Some (signed_digits_value 10 text)) None) (sym t)
    by true false t u = λ i. cond (sym t i && sym u i) (Some (signed_digits_value 10 text)) None
    by true true t u = absurd (h (digits_so (without_leading_sign text) t, fits_so (signed_digits_value 10 text) u))

ascii_after : (b : ℕ) (bs : List ℕ) → b < 128 → IsAscii bs → IsAscii (b ∷ bs)
ascii_after b bs low rest zero = low
ascii_after b bs low rest (suc i) = rest i

ascii : (text : List ℕ) → is_numeral text ≡ true → IsAscii text
ascii [] h = absurd (true≢false (sym h))
ascii (b ∷ bs) h = by (b == 45) (b == 43) refl refl
  where
    digits : AllDigits 10 (without_leading_sign (b ∷ bs))
    digits = (digits_so (without_leading_sign (b ∷ bs)) h).1

    by : (minus plus : Bool) → (b == 45) ≡ minus → (b == 43) ≡ plus → IsAscii (b ∷ bs)
    by true plus t u = ascii_after b bs (grind (arith, nat_tests)) (IsAscii-from_digits bs (subst (AllDigits 10) (ap (λ m. cond m bs (drop (cond (b == 43) 1 0) (b ∷ bs))) t) digits))
    by false true t u = ascii_after b bs (grind (arith, nat_tests)) (IsAscii-from_digits bs (subst (AllDigits 10) (λ i. cond (t i) bs (drop (cond (u i) 1 0) (b ∷ bs))) digits))
    by false false t u = IsAscii-from_digits (b ∷ bs) (subst (AllDigits 10) (λ i. cond (t i) bs (drop (cond (u i) 1 0) (b ∷ bs))) digits)

-- a numeral is in UTF-8
pub not_in_utf8 : (text : List ℕ) → (IsUtf8 text → ⊥) → number_within text ≡ None
not_in_utf8 text never = by (is_numeral text) refl
  where
    by : (b : Bool) → is_numeral text ≡ b → cond (b && fits_128 (signed_digits_value 10 text)) (Some (signed_digits_value 10 text)) None ≡ None
    by false t = refl
    by true t = absurd (never (IsUtf8-from_ascii text (ascii text t)))
