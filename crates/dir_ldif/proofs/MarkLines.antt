-- A mark is a line of its own, and the mark that it is.
use Rattle.std.proofs.Common.{◌≡◌, ℕ, zero, suc, ◌+◌, ◌<◌, ◌≤◌, ◌^◌, ◌/◌, ◌%◌, Bool, true, false, if◌then◌else◌, eqb, nat_lt, ◌==◌, List, [], ◌∷◌, ◌++◌, length, map, get_or, decimal, refl, ap, subst, ◌∙◌, append_assoc, length-append, arith}
use Rattle.std.specs.Fmt.{digit_glyph, digits, digits_onto}
use Rattle.std.specs.Int.Digits.{digits_of, AllBelowBase}
use Rattle.std.specs.List.{list_all, list_any}
use Rattle.std.proofs.lemmas.Bool.Decides.{nat_tests}
use Rattle.std.proofs.lemmas.Fmt.{decimal-digits_of}
use Rattle.std.proofs.lemmas.Int.Digits.{all_below_base_digits_of, first_digits_of}
use Rattle.dir_names.specs.Descriptions.{is_digit}
use Rattle.dir_names.specs.ValueKeys.{is_positive}
use Rattle.dir_ldif.specs.Bytes.{is_line_break}
use Rattle.dir_ldif.specs.LogicalLines.{cut, is_lf, is_long, logical_lines, physical_lines}
use Rattle.dir_ldif.specs.MarkText.{is_mark, mark_line, mark_of}
use Rattle.dir_ldif.proofs.FoldedLines.{apart, closed, no_lf, without_last-lacks}
use Rattle.dir_ldif.proofs.LogicalLineLemmas.{cut-line}

abbrev digits_text : List ℕ → List ℕ
digits_text ds = map (λ d. 48 + d) ds

digit_is : (d : ℕ) → d < 10 → (is_digit (48 + d) ≡ true) × (is_line_break (48 + d) ≡ false)
digit_is d h = (grind (arith, nat_tests), grind (arith, nat_tests))

digits_are : (ds : List ℕ) → AllBelowBase 10 ds → (list_all is_digit (digits_text ds) ≡ true) × (list_any is_line_break (digits_text ds) ≡ false)
digits_are [] h = (refl, refl)
digits_are (d ∷ ds) h =
    let here = digit_is d h.0 in
    let rest = digits_are ds h.1 in
    (rw (here.0, rest.0) refl, rw (here.1, rest.1) refl)

positive_digits : (ds : List ℕ) → AllBelowBase 10 ds → 0 < get_or ds 0 0 → is_positive (digits_text ds) ≡ true
positive_digits [] h first = absurd (omega (arith, first))
positive_digits (d ∷ ds) h first =
    let some : eqb (48 + d) 48 ≡ false = grind (arith, nat_tests) in
    rw (some, (digit_is d h.0).0, (digits_are ds h.1).0) refl

-- ---- the text of a number: digits alone, and at most 64 of them

glyph_is : (d : ℕ) → d < 10 → is_line_break (digit_glyph false d) ≡ false
glyph_is d h = let small : nat_lt d 10 ≡ true = grind (arith, nat_tests) in rw (small) (digit_is d h).1

either_lacks : (t : Bool) (one other : List ℕ) → list_any is_line_break one ≡ false → list_any is_line_break other ≡ false → list_any is_line_break (if t then one else other) ≡ false
either_lacks true one other h k = h
either_lacks false one other h k = k

either_size : (t : Bool) (one other : List ℕ) (most : ℕ) → length one ≤ most → length other ≤ most → length (if t then one else other) ≤ most
either_size true one other most h k = h
either_size false one other most h k = k

onto_lacks : (k n : ℕ) (acc : List ℕ) → list_any is_line_break acc ≡ false → list_any is_line_break (digits_onto k 10 false n acc) ≡ false
onto_lacks zero n acc h = h
onto_lacks (suc k) n acc h =
    let here : list_any is_line_break (digit_glyph false (n % 10) ∷ acc) ≡ false = rw (glyph_is (n % 10) (omega arith)) h in
    either_lacks (n / 10 == 0) (digit_glyph false (n % 10) ∷ acc) (digits_onto k 10 false (n / 10) (digit_glyph false (n % 10) ∷ acc)) here (onto_lacks k (n / 10) (digit_glyph false (n % 10) ∷ acc) here)

onto_size : (k n : ℕ) (acc : List ℕ) → length (digits_onto k 10 false n acc) ≤ k + length acc
onto_size zero n acc = omega arith
onto_size (suc k) n acc =
    let rest = onto_size k (n / 10) (digit_glyph false (n % 10) ∷ acc) in
    either_size (n / 10 == 0) (digit_glyph false (n % 10) ∷ acc) (digits_onto k 10 false (n / 10) (digit_glyph false (n % 10) ∷ acc)) (suc k + length acc) (omega arith) (omega (arith, rest))

decimal_lacks : (n : ℕ) → list_any is_line_break (decimal n) ≡ false
unfolding digits
decimal_lacks n = onto_lacks 64 n [] refl

decimal_size : (n : ℕ) → length (decimal n) ≤ 64
unfolding digits
decimal_size n = let size = onto_size 64 n [] in omega (arith, size)

-- ---- a mark

module _ (n : ℕ) where
  pub mark_lacks : list_any is_line_break (mark_of n) ≡ false
  mark_lacks = decimal_lacks n

  -- a mark's line is one line, whatever follows, if that continues nothing
  pub mark_reads : (i : ℕ) (rest : List ℕ) → apart (cut is_lf rest) ≡ true → logical_lines (physical_lines i (cut is_lf (mark_line n ++ rest))) ≡ (i, mark_of n) ∷ logical_lines (physical_lines (i + 1) (cut is_lf rest))
  mark_reads i rest a =
      ap (λ t. logical_lines (physical_lines i (cut is_lf t))) (append_assoc (mark_of n) (10 ∷ []) rest)
      ∙ ap (λ t. logical_lines (physical_lines i t)) (cut-line (mark_of n) rest (no_lf (mark_of n) mark_lacks))
      ∙ ap (λ t. logical_lines ((i, t) ∷ physical_lines (i + 1) (cut is_lf rest))) (without_last-lacks (mark_of n) mark_lacks)
      ∙ closed i (mark_of n) (i + 1) (cut is_lf rest) a

  pub mark_short : (i : ℕ) → is_long (i, mark_of n) ≡ false
  mark_short i = let size = decimal_size n in grind (arith, nat_tests, length-append)

-- a number of 64 bits has no leading zero, nor has the one after the greatest
module _ (n : ℕ) (some : 0 < n) where
  is_mark_below : n < 2 ^ 64 → is_mark (mark_of n) ≡ true
  is_mark_below fits =
      let below : AllBelowBase 10 (digits_of 10 n) = all_below_base_digits_of 10 n (omega arith) in
      ap is_positive (decimal-digits_of n some fits) ∙ positive_digits (digits_of 10 n) below (first_digits_of 10 n (omega arith) some)

  at_most : (t : Bool) → nat_lt n (2 ^ 64) ≡ t → n ≤ 2 ^ 64 → is_mark (mark_of n) ≡ true
  unfolding digits
  at_most true less fits = is_mark_below (grind (arith, nat_tests))
  at_most false not_less fits = let last : 2 ^ 64 ≡ n = grind (arith, nat_tests) in subst (λ m. is_mark (mark_of m) ≡ true) last refl

  pub mark_is_mark : n ≤ 2 ^ 64 → is_mark (mark_of n) ≡ true
  mark_is_mark fits = at_most (nat_lt n (2 ^ 64)) refl fits
