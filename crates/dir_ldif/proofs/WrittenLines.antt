-- A written line has its name and its value.
use Rattle.std.proofs.Common.{◌≡◌, ℕ, zero, suc, ◌+◌, ◌*◌, ◌/◌, ◌%◌, ◌≤◌, Bool, true, false, not, ◌&&◌, eqb, List, [], ◌∷◌, ◌++◌, length, replicate, refl, sym, ap, ⊎_elim, ◌∙◌, Some, Ok, append-nil, arith}
use Rattle.std.specs.List.{list_any, list_all}
use Rattle.std.specs.Prelude.{slice_index, if◌then◌else◌, nat_lt}
use Rattle.std.proofs.lemmas.Bool.Decides.{nat_tests}
use Rattle.std.proofs.lemmas.List.Folds.{list_all-append, list_any-append}
use Rattle.base64.specs.Engines.{standard}
use Rattle.base64.specs.GeneralPurpose.{IsBytes}
use Rattle.base64.specs.Rfc4648.{encode_symbols, padding_len}
use Rattle.base64.proofs.EngineFacts.{decode_of-encode_of}
use Rattle.dir_ldif.specs.Bytes.{cut_at, without_leading, is_line_break}
use Rattle.dir_names.specs.Results.{and_then}
use Rattle.dir_ldif.specs.AttrVal.{base64_value, is_nul_or_cr, or_bad_base64, attrval_of, attrval_of_cut, value_of, within_limit}
use Rattle.dir_ldif.specs.LineText.{base64_of, folded_line, is_plain, is_safe, is_safe_first, line_of, value_spec}
use Rattle.dir_ldif.proofs.BytesLemmas.{true_or_false}
use Rattle.dir_ldif.proofs.FoldedLines.{or_first, or_second, line_reads}
use Rattle.dir_ldif.specs.LogicalLines.{cut, is_lf, logical_lines, physical_lines}
use Rattle.dir_ldif.specs.RoundTrip.{ends_name, WrittenLineReadsBack}

pub and_first : (v w : Bool) → (v && w) ≡ true → v ≡ true
and_first true w e = refl
and_first false w e = cc

pub and_second : (v w : Bool) → (v && w) ≡ true → w ≡ true
and_second true w e = e
and_second false w e = cc

-- ---- base64 texts

-- no space, LF or CR
abbrev is_symbol : ℕ → Bool
is_symbol b = not (is_line_break b) && not (eqb b 32)

all_at : (xs : List ℕ) (i : ℕ) → list_all is_symbol xs ≡ true → is_symbol (slice_index xs i) ≡ true
all_at [] i e = refl
all_at (x ∷ xs) zero e = and_first (is_symbol x) (list_all is_symbol xs) e
all_at (x ∷ xs) (suc i) e = all_at xs i (and_second (is_symbol x) (list_all is_symbol xs) e)

pub both : (v w : Bool) → v ≡ true → w ≡ true → (v && w) ≡ true
both v w p q = rw (p, q) refl

pub not_so : (v : Bool) → not v ≡ true → v ≡ false
not_so true e = cc
not_so false e = refl

pub if_false : {A : Type 0} (v : Bool) (x y : A) → v ≡ false → (if v then x else y) ≡ y
if_false v x y e = rw e refl

symbols : (t m : List ℕ) → list_all is_symbol t ≡ true → list_all is_symbol (encode_symbols t m) ≡ true
unfolding encode_symbols
symbols t [] e = refl
symbols t (a ∷ []) e = rw (all_at t (a / 4) e, all_at t (a % 4 * 16) e) refl
symbols t (a ∷ b ∷ []) e = rw (all_at t (a / 4) e, all_at t (a % 4 * 16 + b / 16) e, all_at t (b % 16 * 4) e) refl
symbols t (a ∷ b ∷ c ∷ rest) e =
    rw (all_at t (a / 4) e, all_at t (a % 4 * 16 + b / 16) e, all_at t (b % 16 * 4 + c / 64) e, all_at t (c % 64) e, symbols t rest e) refl

padding : (n : ℕ) → list_all is_symbol (replicate n 61) ≡ true
padding zero = refl
padding (suc n) = padding n

table : list_all is_symbol standard.encode_table ≡ true
table = refl

pub base64-symbols : (value : List ℕ) → list_all is_symbol (base64_of value) ≡ true
unfolding base64_of
base64-symbols value =
    list_all-append is_symbol (encode_symbols standard.encode_table value) (replicate (padding_len (length value)) 61)
    ∙ both (list_all is_symbol (encode_symbols standard.encode_table value)) _ (symbols standard.encode_table value table) (padding (padding_len (length value)))

-- ---- tests of values

-- a fact of each number that follows from another
all_weaker : (p q : ℕ → Bool) → ((b : ℕ) → p b ≡ true → q b ≡ false) → (xs : List ℕ) → list_all p xs ≡ true → list_any q xs ≡ false
all_weaker p q h [] e = refl
all_weaker p q h (x ∷ xs) e = rw (h x (and_first (p x) (list_all p xs) e), all_weaker p q h xs (and_second (p x) (list_all p xs) e)) refl

symbol-end : (b : ℕ) → is_symbol b ≡ true → is_line_break b ≡ false
symbol-end b e = not_so (is_line_break b) (and_first (not (is_line_break b)) _ e)

safe-end : (b : ℕ) → is_safe b ≡ true → is_line_break b ≡ false
safe-end b e = grind (arith, nat_tests)

safe-refused : (b : ℕ) → is_safe b ≡ true → is_nul_or_cr b ≡ false
safe-refused b e = grind (arith, nat_tests)

pub base64-clean : (value : List ℕ) → list_any is_line_break (base64_of value) ≡ false
base64-clean value = all_weaker is_symbol is_line_break symbol-end (base64_of value) (base64-symbols value)

no_space : (xs : List ℕ) → list_all is_symbol xs ≡ true → without_leading 32 xs ≡ xs
no_space [] e = refl
no_space (x ∷ xs) e =
    let here : eqb x 32 ≡ false = not_so (eqb x 32) (and_second (not (is_line_break x)) (not (eqb x 32)) (and_first (is_symbol x) (list_all is_symbol xs) e)) in
    rw here refl

-- ---- the value of what is written

-- what follows the first colon
abbrev pub tail_of : List ℕ → List ℕ
tail_of [] = []
tail_of (b ∷ bs) = if is_plain (b ∷ bs) then 32 ∷ b ∷ bs else (58 ∷ 32 ∷ base64_of (b ∷ bs))

pub value_spec-tail : (value : List ℕ) → value_spec value ≡ 58 ∷ tail_of value
value_spec-tail [] = refl
value_spec-tail (b ∷ bs) =
    ⊎_elim (λ (yes : is_plain (b ∷ bs) ≡ true). rw yes refl) (λ (other : is_plain (b ∷ bs) ≡ false). rw other refl) (true_or_false (is_plain (b ∷ bs)))

base64_value-base64 : (value : List ℕ) → IsBytes value → base64_value (base64_of value) ≡ Ok value
unfolding base64_value base64_of
base64_value-base64 value bytes = ap or_bad_base64 (decode_of-encode_of standard value refl bytes)

plain_value-value : (b : ℕ) (bs : List ℕ) → is_plain (b ∷ bs) ≡ true → value_of (32 ∷ b ∷ bs) ≡ Ok (b ∷ bs)
plain_value-value b bs e =
    let fronts = and_first (is_safe_first b && list_all is_safe bs) _ e in
    let first : is_safe_first b ≡ true = and_first (is_safe_first b) (list_all is_safe bs) fronts in
    let safe : is_safe b ≡ true = grind (arith, nat_tests) in
    let space : eqb b 32 ≡ false = grind (arith, nat_tests) in
    let rest : list_any is_nul_or_cr bs ≡ false = all_weaker is_safe is_nul_or_cr safe-refused bs (and_second (is_safe_first b) (list_all is_safe bs) fronts) in
    rw (space, safe-refused b safe, rest) refl

base64-value : (value : List ℕ) → IsBytes value → value_of (58 ∷ 32 ∷ base64_of value) ≡ Ok value
base64-value value bytes = ap base64_value (no_space (base64_of value) (base64-symbols value)) ∙ base64_value-base64 value bytes

pub value_of-tail : (value : List ℕ) → IsBytes value → value_of (tail_of value) ≡ Ok value
value_of-tail [] bytes = refl
value_of-tail (b ∷ bs) bytes =
    ⊎_elim
    (λ (yes : is_plain (b ∷ bs) ≡ true). ap (λ v. value_of (if v then 32 ∷ b ∷ bs else (58 ∷ 32 ∷ base64_of (b ∷ bs)))) yes ∙ plain_value-value b bs yes)
    (λ (other : is_plain (b ∷ bs) ≡ false). ap (λ v. value_of (if v then 32 ∷ b ∷ bs else (58 ∷ 32 ∷ base64_of (b ∷ bs)))) other ∙ base64-value (b ∷ bs) bytes)
    (true_or_false (is_plain (b ∷ bs)))

-- ---- lines

abbrev is_colon : ℕ → Bool
is_colon b = eqb b 58

pub cut_at-name : (name rest : List ℕ) → list_any is_colon name ≡ false → cut_at 58 (name ++ 58 ∷ rest) ≡ Some (name, rest)
cut_at-name [] rest e = refl
cut_at-name (x ∷ xs) rest e =
    let here : eqb x 58 ≡ false = or_first (eqb x 58) (list_any is_colon xs) e in
    rw (here, cut_at-name xs rest (or_second (eqb x 58) (list_any is_colon xs) e)) refl

-- a name of a line: it is not empty and has no colon, LF or CR
pub attrval_of-line : (b : ℕ) (name value : List ℕ) → list_any is_colon (b ∷ name) ≡ false → IsBytes value → length value ≤ 1048576 → attrval_of (line_of (b ∷ name) value) ≡ Ok (b ∷ name, value)
unfolding attrval_of
attrval_of-line b name value e bytes short =
    let within : nat_lt 1048576 (length value) ≡ false = grind (arith, nat_tests) in
    let kept : within_limit value ≡ Ok value = if_false _ _ _ within in
    ap (λ t. attrval_of_cut (cut_at 58 ((b ∷ name) ++ t))) (value_spec-tail value) ∙ ap attrval_of_cut (cut_at-name (b ∷ name) (tail_of value) e)
    ∙ ap (λ r. and_then (and_then r within_limit) (λ v. Ok (b ∷ name, v))) (value_of-tail value bytes) ∙ ap (λ r. and_then r (λ v. Ok (b ∷ name, v))) kept

safe_first-end : (b : ℕ) → is_safe_first b ≡ true → is_line_break b ≡ false
safe_first-end b e = grind (arith, nat_tests)

plain_value-clean : (b : ℕ) (bs : List ℕ) → is_plain (b ∷ bs) ≡ true → list_any is_line_break (b ∷ bs) ≡ false
plain_value-clean b bs e =
    let fronts = and_first (is_safe_first b && list_all is_safe bs) _ e in
    rw (safe_first-end b (and_first (is_safe_first b) (list_all is_safe bs) fronts), all_weaker is_safe is_line_break safe-end bs (and_second (is_safe_first b) (list_all is_safe bs) fronts)) refl

value_spec-clean : (value : List ℕ) → list_any is_line_break (value_spec value) ≡ false
value_spec-clean [] = refl
value_spec-clean (b ∷ bs) =
    ⊎_elim
    (λ (yes : is_plain (b ∷ bs) ≡ true). ap (λ v. list_any is_line_break (if v then 58 ∷ 32 ∷ b ∷ bs else (58 ∷ 58 ∷ 32 ∷ base64_of (b ∷ bs)))) yes ∙ plain_value-clean b bs yes)
    (λ (other : is_plain (b ∷ bs) ≡ false). ap (λ v. list_any is_line_break (if v then 58 ∷ 32 ∷ b ∷ bs else (58 ∷ 58 ∷ 32 ∷ base64_of (b ∷ bs)))) other ∙ base64-clean (b ∷ bs))
    (true_or_false (is_plain (b ∷ bs)))

pub line-clean : (name value : List ℕ) → list_any is_line_break name ≡ false → list_any is_line_break (line_of name value) ≡ false
line-clean name value e = list_any-append is_line_break name (value_spec value) ∙ rw (e, value_spec-clean value) refl

-- ---- the law

pub name-colon : (xs : List ℕ) → list_any ends_name xs ≡ false → list_any is_colon xs ≡ false
name-colon [] e = refl
name-colon (x ∷ xs) e =
    let here : eqb x 58 ≡ false = or_first (eqb x 58) (is_line_break x) (or_first (ends_name x) (list_any ends_name xs) e) in
    rw (here, name-colon xs (or_second (ends_name x) (list_any ends_name xs) e)) refl

pub name-end : (xs : List ℕ) → list_any ends_name xs ≡ false → list_any is_line_break xs ≡ false
name-end [] e = refl
name-end (x ∷ xs) e =
    let here : is_line_break x ≡ false = or_second (eqb x 58) (is_line_break x) (or_first (ends_name x) (list_any ends_name xs) e) in
    rw (here, name-end xs (or_second (ends_name x) (list_any ends_name xs) e)) refl

pub written_line-reads : WrittenLineReadsBack
written_line-reads b name value e bytes short =
    let whole = line_of (b ∷ name) value in
    let r = line_reads b (name ++ value_spec value) [] 1 (line-clean (b ∷ name) value (name-end (b ∷ name) e)) refl in
    (ap (λ t. logical_lines (physical_lines 1 (cut is_lf t))) (sym (append-nil (folded_line whole))) ∙ r.1, attrval_of-line b name value (name-colon (b ∷ name) e) bytes short)
