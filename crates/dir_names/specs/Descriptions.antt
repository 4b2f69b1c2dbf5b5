-- Attribute descriptions (RFC 4512, sections 1.4 and 2.5): a type, followed by options. The definitions are in the order of that grammar, and have its names.
use Rattle.std.specs.Prelude.{ℕ, Bool, false, cond, not, ◌&&◌, ◌||◌, ◌==◌, nat_le, List, [], ◌∷◌, map, length, codes, Result, Ok, Err}
use Rattle.std.specs.List.{list_all, list_any}
use Rattle.std.specs.Str.{str_to_ascii_lowercase, str_eq_ignore_ascii_case}
use Rattle.dir_names.specs.declared.fault.NameFault.{NameFault}
use Rattle.dir_names.specs.declared.fault.NameFault.TheVariants.{BadDescription, ReservedName}
use Rattle.dir_names.specs.declared.schema.TypeRow.{TypeRow}
use Rattle.dir_names.specs.Ascii.{digit_zero, hyphen, dot, semicolon}
use Rattle.dir_names.specs.Cut.{parts_at}
use Rattle.dir_names.specs.Described.{Described}
use Rattle.dir_names.specs.Orders.{bytes_cmp}
use Rattle.dir_names.specs.Sorted.{set_of}
use Rattle.dir_names.specs.Table.{type_key_of}

-- ALPHA and DIGIT
abbrev pub is_letter : ℕ → Bool
is_letter b = (nat_le 65 b && nat_le b 90) || (nat_le 97 b && nat_le b 122)

abbrev pub is_digit : ℕ → Bool
is_digit b = nat_le 48 b && nat_le b 57

-- keychar: a letter, a digit or a hyphen
abbrev pub is_keychar : ℕ → Bool
is_keychar b = (is_letter b || is_digit b) || b == hyphen

-- descr, a keystring: a letter, followed by keychars
abbrev pub is_descr : List ℕ → Bool
is_descr [] = false
is_descr (b ∷ bs) = is_letter b && list_all is_keychar bs

-- number: 0, or digits that don't begin with 0
abbrev pub is_number : List ℕ → Bool
is_number [] = false
is_number (b ∷ bs) = (is_digit b && (not (b == digit_zero) || length bs == 0)) && list_all is_digit bs

-- numericoid: two or more numbers, joined by dots
abbrev pub is_numericoid : List ℕ → Bool
is_numericoid text = list_any (λ b. b == dot) text && list_all is_number (parts_at dot text)

-- oid: a type's name or number, here of at most 512 bytes
abbrev pub is_type : List ℕ → Bool
is_type text = (is_descr text || is_numericoid text) && nat_le (length text) 512

-- option: one or more keychars
abbrev pub is_option : List ℕ → Bool
is_option text = not (length text == 0) && list_all is_keychar text

-- the words that LDIF uses for its own lines, in any ASCII case
abbrev pub is_reserved : List ℕ → Bool
is_reserved attr_type = (str_eq_ignore_ascii_case attr_type (codes "dn") || str_eq_ignore_ascii_case attr_type (codes "changetype")) || str_eq_ignore_ascii_case attr_type (codes "control")

-- the options as a set, in lower case
abbrev pub option_set : List (List ℕ) → Result (List (List ℕ)) NameFault
option_set options = cond (list_all is_option options) (Ok (set_of bytes_cmp (map str_to_ascii_lowercase options))) (Err BadDescription)

-- the description of this type and these options. BadDescription comes before ReservedName
abbrev pub description_from : List TypeRow → List ℕ → List (List ℕ) → Result Described NameFault
description_from rows text [] = Err BadDescription
description_from rows text (attr_type ∷ options) =
    cond (is_type attr_type && list_all is_option options)
    (cond (is_reserved attr_type) (Err ReservedName) (Ok (record { spelling = text; key = record { attr_type = type_key_of rows attr_type; options = set_of bytes_cmp (map str_to_ascii_lowercase options) } })))
    (Err BadDescription)

-- the description that a text spells; BadDescription, too, for a text of more than 512 bytes
abbrev pub description_of : List TypeRow → List ℕ → Result Described NameFault
description_of rows text = cond (nat_le (length text) 512) (description_from rows text (parts_at semicolon text)) (Err BadDescription)
