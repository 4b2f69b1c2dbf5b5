-- Which bytes the spelling of a description has.
use Rattle.std.proofs.Common.{◌≡◌, ℕ, ◌≤◌, Bool, true, false, not, ◌&&◌, ◌||◌, eqb, nat_le, List, [], ◌∷◌, length, codes, refl, sym, ap, ⊎_elim, ◌∙◌, Ok, IfOk, arith}
use Rattle.std.specs.List.{list_any, list_all, slice_split, onto_first}
use Rattle.std.specs.Str.{str_to_ascii_lowercase, str_eq_ignore_ascii_case}
use Rattle.std.proofs.lemmas.Bool.Decides.{nat_tests}
use Rattle.dir_names.specs.declared.schema.TypeRow.{TypeRow}
use Rattle.dir_names.specs.Cut.{parts_at}
use Rattle.dir_names.specs.Described.{Described}
use Rattle.dir_names.specs.Descriptions.{description_from, description_of, is_descr, is_digit, is_keychar, is_letter, is_number, is_numericoid, is_option, is_reserved, is_type}
use Rattle.dir_ldif.specs.RoundTrip.{ends_name}
use Rattle.dir_ldif.proofs.BytesLemmas.{true_or_false}
use Rattle.dir_ldif.proofs.WrittenLines.{and_first, and_second, both}
use Rattle.dir_ldif.proofs.FoldedLines.{or_first, or_second}
use Rattle.dir_ldif.proofs.ReadIsLegal.{chosen, known}
use Rattle.dir_ldif.specs.Bytes.{is_empty}
use Rattle.dir_names.specs.Orders.{bytes_eq_decides}
use Rattle.std.specs.Char.{to_ascii_lowercase}

onto_all : (q : ℕ → Bool) (x : ℕ) (parts : List (List ℕ)) → list_all (list_all q) (onto_first x parts) ≡ true → (q x ≡ true) × (list_all (list_all q) parts ≡ true)
onto_all q x [] e = (and_first (q x) true (and_first (q x && true) true e), refl)
onto_all q x (part ∷ parts) e =
    let first = and_first (q x && list_all q part) (list_all (list_all q) parts) e in
    (and_first (q x) (list_all q part) first, both _ _ (and_second (q x) (list_all q part) first) (and_second (q x && list_all q part) (list_all (list_all q) parts) e))

pub or_right : (v w : Bool) → w ≡ true → (v || w) ≡ true
or_right true w e = refl
or_right false w e = e

or_left : (v w : Bool) → v ≡ true → (v || w) ≡ true
or_left true w e = refl
or_left false w e = cc

-- the numbers of a list are those of its pieces, and what they were cut at
split_all : (p q : ℕ → Bool) (xs : List ℕ) → list_all (list_all q) (slice_split p xs) ≡ true → list_all (λ b. p b || q b) xs ≡ true
split_all p q [] e = refl
split_all p q (x ∷ xs) e =
    ⊎_elim
    (λ (yes : p x ≡ true). let rest : list_all (list_all q) (slice_split p xs) ≡ true = rw yes at e in rw (yes, split_all p q xs rest) refl)
    (λ (other : p x ≡ false).
    let there : list_all (list_all q) (onto_first x (slice_split p xs)) ≡ true = rw other at e in
    let parts = onto_all q x (slice_split p xs) there in
    rw (other, parts.0, split_all p q xs parts.1) refl)
    (true_or_false (p x))

letters_all : (xs : List ℕ) → list_all is_keychar xs ≡ true → list_all (λ b. eqb b 46 || is_keychar b) xs ≡ true
letters_all [] e = refl
letters_all (x ∷ xs) e = both _ _ (or_right (eqb x 46) (is_keychar x) (and_first (is_keychar x) (list_all is_keychar xs) e)) (letters_all xs (and_second (is_keychar x) (list_all is_keychar xs) e))

digit_key : (b : ℕ) → is_digit b ≡ true → is_keychar b ≡ true
digit_key b e = rw e (grind (arith, nat_tests))

letter_key : (b : ℕ) → is_letter b ≡ true → is_keychar b ≡ true
letter_key b e = rw e refl

all_digits : (xs : List ℕ) → list_all is_digit xs ≡ true → list_all is_keychar xs ≡ true
all_digits [] e = refl
all_digits (x ∷ xs) e = both _ _ (digit_key x (and_first (is_digit x) (list_all is_digit xs) e)) (all_digits xs (and_second (is_digit x) (list_all is_digit xs) e))

name_all : (xs : List ℕ) → is_descr xs ≡ true → list_all is_keychar xs ≡ true
name_all [] e = cc
name_all (x ∷ xs) e = both _ _ (letter_key x (and_first (is_letter x) (list_all is_keychar xs) e)) (and_second (is_letter x) (list_all is_keychar xs) e)

digits_all : (xs : List ℕ) → is_number xs ≡ true → list_all is_keychar xs ≡ true
digits_all [] e = cc
digits_all (x ∷ xs) e =
    let ends = and_first (is_digit x && (not (eqb x 48) || eqb (length xs) 0)) (list_all is_digit xs) e in
    both _ _ (digit_key x (and_first (is_digit x) (not (eqb x 48) || eqb (length xs) 0) ends)) (all_digits xs (and_second (is_digit x && (not (eqb x 48) || eqb (length xs) 0)) (list_all is_digit xs) e))

decimals_all : (parts : List (List ℕ)) → list_all is_number parts ≡ true → list_all (list_all is_keychar) parts ≡ true
decimals_all [] e = refl
decimals_all (part ∷ parts) e = both _ _ (digits_all part (and_first (is_number part) (list_all is_number parts) e)) (decimals_all parts (and_second (is_number part) (list_all is_number parts) e))

-- a type: keychars and dots
type_all : (kind : List ℕ) → is_type kind ≡ true → list_all (λ b. eqb b 46 || is_keychar b) kind ≡ true
type_all kind e =
    ⊎_elim
    (λ (yes : is_descr kind ≡ true). letters_all kind (name_all kind yes))
    (λ (other : is_descr kind ≡ false).
    let number : is_numericoid kind ≡ true = rw other at (and_first (is_descr kind || is_numericoid kind) (nat_le (length kind) 512) e) in
    split_all (λ b. eqb b 46) is_keychar kind (decimals_all (parts_at 46 kind) (and_second (list_any (λ b. eqb b 46) kind) (list_all is_number (parts_at 46 kind)) number)))
    (true_or_false (is_descr kind))

options_all : (options : List (List ℕ)) → list_all is_option options ≡ true → list_all (list_all (λ b. eqb b 46 || is_keychar b)) options ≡ true
options_all [] e = refl
options_all (option ∷ options) e =
    let first = and_first (is_option option) (list_all is_option options) e in
    both _ _ (letters_all option (and_second (not (eqb (length option) 0)) (list_all is_keychar option) first)) (options_all options (and_second (is_option option) (list_all is_option options) e))

-- what a spelling is made of
abbrev pub is_spelled : ℕ → Bool
is_spelled b = eqb b 59 || (eqb b 46 || is_keychar b)

pub spelled-allowed : (b : ℕ) → is_spelled b ≡ true → (ends_name b ≡ false) × (eqb b 32 ≡ false) × (eqb b 35 ≡ false)
spelled-allowed b e = (grind (arith, nat_tests), grind (arith, nat_tests), grind (arith, nat_tests))

-- ---- no keyword is a spelling

lower_semicolon : (b : ℕ) → eqb (to_ascii_lowercase b) 59 ≡ eqb b 59
lower_semicolon b = grind (arith, nat_tests)

semicolons : (xs : List ℕ) → list_any (λ b. eqb b 59) (str_to_ascii_lowercase xs) ≡ list_any (λ b. eqb b 59) xs
semicolons [] = refl
semicolons (x ∷ xs) = rw (lower_semicolon x, semicolons xs) refl

split_none : (p : ℕ → Bool) (xs : List ℕ) → list_any p xs ≡ false → slice_split p xs ≡ xs ∷ []
split_none p [] e = refl
split_none p (x ∷ xs) e =
    let here : p x ≡ false = or_first (p x) (list_any p xs) e in
    rw (here, split_none p xs (or_second (p x) (list_any p xs) e)) refl

-- a text that is a word has no option
word_alone : (text word : List ℕ) → list_any (λ b. eqb b 59) (str_to_ascii_lowercase word) ≡ false → str_eq_ignore_ascii_case text word ≡ true → parts_at 59 text ≡ text ∷ []
word_alone text word e h =
    let same : str_to_ascii_lowercase text ≡ str_to_ascii_lowercase word = (bytes_eq_decides (str_to_ascii_lowercase text) (str_to_ascii_lowercase word)).0 h in
    split_none (λ b. eqb b 59) text (sym (semicolons text) ∙ ap (list_any (λ b. eqb b 59)) same ∙ e)

no_word : (text word kind : List ℕ) (options : List (List ℕ)) → list_any (λ b. eqb b 59) (str_to_ascii_lowercase word) ≡ false → kind ∷ options ≡ parts_at 59 text
    → (str_eq_ignore_ascii_case text word ≡ true → is_reserved text ≡ true) → is_reserved kind ≡ false → str_eq_ignore_ascii_case text word ≡ false
no_word text word kind options e parts reserved free =
    ⊎_elim
    (λ (yes : str_eq_ignore_ascii_case text word ≡ true).
    let alone : kind ∷ options ≡ text ∷ [] = parts ∙ word_alone text word e yes in
    let same : kind ≡ text = cc in
    let never : true ≡ false = sym (reserved yes) ∙ ap is_reserved (sym same) ∙ free in
    cc)
    (λ (other : str_eq_ignore_ascii_case text word ≡ false). other)
    (true_or_false (str_eq_ignore_ascii_case text word))

-- what a spelling is
abbrev pub IsSpelling : List ℕ → Type 0
IsSpelling text =
    (list_all is_spelled text ≡ true) × (is_empty text ≡ false) × (length text ≤ 512)
    × (str_eq_ignore_ascii_case text (codes "control") ≡ false) × (str_eq_ignore_ascii_case text (codes "changetype") ≡ false)

some_type : (text kind : List ℕ) (options : List (List ℕ)) → kind ∷ options ≡ parts_at 59 text → is_type kind ≡ true → is_empty text ≡ false
some_type [] kind options parts e =
    let none : kind ≡ [] = cc in
    let never : is_type [] ≡ true = ap is_type (sym none) ∙ e in
    cc
some_type (x ∷ xs) kind options parts e = refl

control_reserved : (text : List ℕ) → str_eq_ignore_ascii_case text (codes "control") ≡ true → is_reserved text ≡ true
control_reserved text e = or_right _ (str_eq_ignore_ascii_case text (codes "control")) e

changetype_reserved : (text : List ℕ) → str_eq_ignore_ascii_case text (codes "changetype") ≡ true → is_reserved text ≡ true
changetype_reserved text e = or_left _ (str_eq_ignore_ascii_case text (codes "control")) (or_right (str_eq_ignore_ascii_case text (codes "dn")) (str_eq_ignore_ascii_case text (codes "changetype")) e)

from_spelling : (rows : List TypeRow) (text : List ℕ) (parts : List (List ℕ)) → length text ≤ 512 → parts ≡ parts_at 59 text → IfOk (description_from rows text parts) (λ _. IsSpelling text)
from_spelling rows text [] short parts = tt
from_spelling rows text (kind ∷ options) short parts =
    chosen (is_type kind && list_all is_option options) _ _ (λ _. IsSpelling text)
    (λ ok. chosen (is_reserved kind) _ _ (λ _. IsSpelling text) (λ _. tt)
    (λ free.
    let pieces : list_all (list_all (λ b. eqb b 46 || is_keychar b)) (kind ∷ options) ≡ true =
    both _ _ (type_all kind (and_first (is_type kind) (list_all is_option options) ok)) (options_all options (and_second (is_type kind) (list_all is_option options) ok)) in (
      split_all (λ b. eqb b 59) (λ b. eqb b 46 || is_keychar b) text (ap (list_all (list_all (λ b. eqb b 46 || is_keychar b))) (sym parts) ∙ pieces),
      some_type text kind options parts (and_first (is_type kind) (list_all is_option options) ok),
      short,
      no_word text (codes "control") kind options refl parts (control_reserved text) free,
      no_word text (codes "changetype") kind options refl parts (changetype_reserved text) free,
    )))
    (λ _. tt)

pub spelling_of : (rows : List TypeRow) (text : List ℕ) (d : Described) → description_of rows text ≡ Ok d → IsSpelling text
spelling_of rows text d e =
    known (description_of rows text) (λ _. IsSpelling text) d
    (chosen (nat_le (length text) 512) _ _ (λ _. IsSpelling text) (λ short. let within : length text ≤ 512 = grind (arith, nat_tests) in from_spelling rows text (parts_at 59 text) within refl) (λ _. tt)) e
