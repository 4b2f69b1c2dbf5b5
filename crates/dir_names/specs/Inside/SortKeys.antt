-- The key of a name that is kept as its text alone: that of the value from which it was made.
use Rattle.std.specs.Prelude.{◌≡◌, ℕ, true, nat_le, nat_lt, Ok, List, [], ◌∷◌, ◌++◌, Option, Some, None, length}
use Rattle.std.specs.List.{list_all}
use Rattle.std.specs.Str.{str_to_ascii_lowercase}
use Rattle.dir_names.specs.declared.schema.Rule.{Rule}
use Rattle.dir_names.specs.declared.schema.TypeRow.{TypeRow}
use Rattle.dir_names.specs.Attr.{Attr}
use Rattle.dir_names.specs.Ascii.{comma}
use Rattle.dir_names.specs.Inside.SortTexts.{rdn_sort}
use Rattle.dir_names.specs.Keys.{DnKeys, RdnKeys}
use Rattle.dir_names.specs.NameKeys.{name_value_key, pair_key, rdn_key}
use Rattle.dir_names.specs.Outcome.{ok_or_bad_dn}
use Rattle.dir_names.specs.ValueKeys.{text_key_of}
use Rattle.dir_names.specs.Names.{SpelledPair}
use Rattle.dir_names.specs.Names.Printing.{printed_pair}
use Rattle.dir_names.specs.Names.Sound.{is_sound_pair}

abbrev pub key_or_empty : Option DnKeys → DnKeys
key_or_empty None = []
key_or_empty (Some key) = key

abbrev pub kept_key : List TypeRow → List ℕ → DnKeys
kept_key rows value = key_or_empty (name_value_key rows value)

-- a text put together again from what is before its last comma, if it has one, and what is after it
abbrev pub with_piece : Option (List ℕ) → List ℕ → List ℕ
with_piece None piece = piece
with_piece (Some before) piece = before ++ comma ∷ piece

-- a piece of a name is the printing of an RDN of one pair within the limit, and the text of the RDN's key was appended
abbrev pub IsPlainRdn : List TypeRow → List ℕ → List ℕ → List ℕ → Type 0
IsPlainRdn rows piece old new =
    (pair : SpelledPair) × (key : RdnKeys) × (piece ≡ printed_pair pair) × (is_sound_pair pair ≡ true) × (nat_le (length piece) 4096 ≡ true)
    × (rdn_key rows (pair ∷ []) ≡ Some key) × (new ≡ old ++ 1 ∷ rdn_sort key)

-- the text of the key of the RDN that has this pair alone was appended
abbrev pub IsPairPut : List TypeRow → SpelledPair → List ℕ → List ℕ → Type 0
IsPairPut rows pair old new =
    (key : Attr × List ℕ) × (ok_or_bad_dn (pair_key rows pair) ≡ Ok key) × (new ≡ old ++ 1 ∷ rdn_sort (key ∷ []))

-- the key of a value is its text in lower case, in which no byte is marked
abbrev pub IsKeyLowercase : Rule → List ℕ → Type 0
IsKeyLowercase rule value =
    (text_key_of rule value ≡ Ok (str_to_ascii_lowercase value)) × (list_all (λ b. nat_lt 1 b) (str_to_ascii_lowercase value) ≡ true)
