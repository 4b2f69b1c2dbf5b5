-- What the tests say of single bytes.
use Rattle.std.proofs.Common.{◌≡◌, ℕ, ◌+◌, ◌*◌, ◌/◌, ◌%◌, ◌<◌, Bool, true, false, not, refl, ap, arith}
use Rattle.std.specs.Prelude.{◌==◌, ◌||◌, nat_lt}
use Rattle.std.proofs.lemmas.Bool.Decides.{nat_tests}
use Rattle.dir_names.specs.Descriptions.{is_letter, is_digit, is_keychar}
use Rattle.dir_names.specs.Names.Printing.{upper_digit, is_special}
use Rattle.dir_names.specs.Names.Escapes.{is_hex, hex_of, is_refused, is_escapable}

-- the bytes that a type may have
abbrev pub is_type_char : ℕ → Bool
is_type_char b = is_keychar b || b == 46

-- ---- hexadecimal digits

pub upper_is_hex : (n : ℕ) → n < 16 → is_hex (upper_digit n) ≡ true
upper_is_hex n h = grind (arith, nat_tests)

pub hex-upper : (n : ℕ) → n < 16 → hex_of (upper_digit n) ≡ n
hex-upper n h = grind (arith, nat_tests)

pub upper_is_plain : (n : ℕ) → n < 16 → (upper_digit n == 92) ≡ false
upper_is_plain n h = grind (arith, nat_tests)

pub upper_is_ascii : (n : ℕ) → n < 16 → nat_lt (upper_digit n) 128 ≡ true
upper_is_ascii n h = grind (arith, nat_tests)

pub halves : (b : ℕ) → b < 256 → (b / 16) * 16 + b % 16 ≡ b
halves b h = omega arith

pub high_half : (b : ℕ) → b < 256 → b / 16 < 16
high_half b h = omega arith

pub low_half : (b : ℕ) → b % 16 < 16
low_half b = omega arith

-- ---- bytes that are printed as they are

pub plain_not_escape : (b : ℕ) → is_special b ≡ false → (b == 92) ≡ false
plain_not_escape b e = grind (arith, nat_tests)

pub plain_not_refused : (b : ℕ) → is_special b ≡ false → is_refused b ≡ false
plain_not_refused b e = grind (arith, nat_tests)

pub plain_not_plus : (b : ℕ) → is_special b ≡ false → (b == 43) ≡ false
plain_not_plus b e = grind (arith, nat_tests)

pub plain_not_comma : (b : ℕ) → is_special b ≡ false → (b == 44) ≡ false
plain_not_comma b e = grind (arith, nat_tests)

pub plain_is_ascii : (b : ℕ) → is_special b ≡ false → nat_lt b 128 ≡ true
plain_is_ascii b e = grind (arith, nat_tests)

-- ---- bytes of types

pub type_not_equals : (b : ℕ) → is_type_char b ≡ true → (b == 61) ≡ false
type_not_equals b e = grind (arith, nat_tests)

pub type_not_space : (b : ℕ) → is_type_char b ≡ true → (b == 32) ≡ false
type_not_space b e = grind (arith, nat_tests)

pub type_not_plus : (b : ℕ) → is_type_char b ≡ true → (b == 43) ≡ false
type_not_plus b e = grind (arith, nat_tests)

pub type_not_comma : (b : ℕ) → is_type_char b ≡ true → (b == 44) ≡ false
type_not_comma b e = grind (arith, nat_tests)

pub type_not_escape : (b : ℕ) → is_type_char b ≡ true → (b == 92) ≡ false
type_not_escape b e = grind (arith, nat_tests)

pub type_is_ascii : (b : ℕ) → is_type_char b ≡ true → nat_lt b 128 ≡ true
type_is_ascii b e = grind (arith, nat_tests)

pub letter_is_type : (b : ℕ) → is_letter b ≡ true → is_type_char b ≡ true
letter_is_type b e = grind (arith, nat_tests)

pub keychar_is_type : (b : ℕ) → is_keychar b ≡ true → is_type_char b ≡ true
keychar_is_type b e = grind (arith, nat_tests)

pub digit_is_type : (b : ℕ) → is_digit b ≡ true → is_type_char b ≡ true
digit_is_type b e = grind (arith, nat_tests)

pub dot_is_type : (b : ℕ) → (b == 46) ≡ true → is_type_char b ≡ true
dot_is_type b e = grind (arith, nat_tests)

-- ---- signs and digits

pub sign_not_hex : (b : ℕ) → is_escapable b ≡ true → is_hex b ≡ false
sign_not_hex b e = grind (arith, nat_tests)

pub hex_not_plus : (b : ℕ) → is_hex b ≡ true → (b == 43) ≡ false
hex_not_plus b e = grind (arith, nat_tests)

pub hex_not_comma : (b : ℕ) → is_hex b ≡ true → (b == 44) ≡ false
hex_not_comma b e = grind (arith, nat_tests)

pub hex_not_escape : (b : ℕ) → is_hex b ≡ true → (b == 92) ≡ false
hex_not_escape b e = grind (arith, nat_tests)

pub legal_not_plus : (b : ℕ) → is_refused b ≡ false → (b == 43) ≡ false
legal_not_plus b e = grind (arith, nat_tests)

pub legal_not_comma : (b : ℕ) → is_refused b ≡ false → (b == 44) ≡ false
legal_not_comma b e = grind (arith, nat_tests)

pub legal_not_escape : (b : ℕ) → is_refused b ≡ false → (b == 92) ≡ false
legal_not_escape b e = grind (arith, nat_tests)

pub space_is_legal : is_refused 32 ≡ false
space_is_legal = refl

pub type_no_equals : (b : ℕ) → is_type_char b ≡ true → not (b == 61) ≡ true
type_no_equals b e = ap not (type_not_equals b e)
