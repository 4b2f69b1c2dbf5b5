-- The comparison key of a value under each matching rule (RFC 4517, section 4.2).
pub mod Pieces
pub mod Pushed
pub mod Spaces
use Rattle.std.specs.Prelude.{ℕ, Bool, false, cond, not, ◌&&◌, ◌==◌, nat_lt, List, [], ◌∷◌, length, chars, encode_utf8_all, Result, Ok, Err}
use Rattle.std.specs.List.{list_all}
use Rattle.std.specs.Str.{is_utf8, str_to_ascii_lowercase}
use Rattle.caseless.specs.Caseless.{default_case_fold}
use Rattle.unicode_normalization.specs.Forms.{nfkc}
use Rattle.dir_names.specs.declared.fault.NameFault.{NameFault}
use Rattle.dir_names.specs.declared.fault.NameFault.TheVariants.{BadValue}
use Rattle.dir_names.specs.declared.schema.Rule.{Rule}
use Rattle.dir_names.specs.declared.schema.Rule.TheVariants.{Octet, CaseIgnore, Ia5CaseIgnore, Ia5CaseExact, Telephone, Integer, Name, ObjectId}
use Rattle.dir_names.specs.Ascii.{space, hyphen, digit_zero}
use Rattle.dir_names.specs.Descriptions.{is_digit}
use Rattle.dir_names.specs.ValueKeys.Spaces.{without_extra_spaces, without_spaces_and_hyphens}

-- the default case folding of a text in UTF-8, and then its form NFKC (Unicode, sections 3.13 and 3.11; UAX 15)
abbrev pub folded_text : List ℕ → List ℕ
folded_text text = encode_utf8_all (nfkc (default_case_fold (chars text)))

abbrev pub is_ascii : List ℕ → Bool
is_ascii text = list_all (λ b. nat_lt b 128) text

-- digits that don't begin with 0
abbrev pub is_positive : List ℕ → Bool
is_positive [] = false
is_positive (b ∷ bs) = not (b == digit_zero) && list_all is_digit (b ∷ bs)

-- Integer (RFC 4517, section 3.3.16): 0, or an optional minus and digits that don't begin with 0
abbrev pub is_integer : List ℕ → Bool
is_integer [] = false
is_integer (b ∷ bs) = cond (b == digit_zero) (length bs == 0) (cond (b == hyphen) (is_positive bs) (is_positive (b ∷ bs)))

-- one or more printable ASCII characters other than space
abbrev pub is_object_id : List ℕ → Bool
is_object_id text = not (length text == 0) && list_all (λ b. nat_lt space b && nat_lt b 127) text

-- a text in UTF-8 that is not empty
abbrev pub is_text : List ℕ → Bool
is_text text = not (length text == 0) && is_utf8 text

-- the key, if the value has one
abbrev pub key_if : Bool → List ℕ → Result (List ℕ) NameFault
key_if has key = cond has (Ok key) (Err BadValue)

-- the key of a value under every rule but Name
abbrev pub text_key_of : Rule → List ℕ → Result (List ℕ) NameFault
text_key_of Octet value = Ok value
text_key_of CaseIgnore value = key_if (is_text value) (without_extra_spaces (folded_text value))
text_key_of Ia5CaseIgnore value = key_if (is_ascii value) (without_extra_spaces (str_to_ascii_lowercase value))
text_key_of Ia5CaseExact value = key_if (is_ascii value) (without_extra_spaces value)
text_key_of Telephone value = key_if (is_text value) (without_spaces_and_hyphens (folded_text value))
text_key_of Integer value = key_if (is_integer value) value
text_key_of Name value = Err BadValue
text_key_of ObjectId value = key_if (is_object_id value) (str_to_ascii_lowercase value)
