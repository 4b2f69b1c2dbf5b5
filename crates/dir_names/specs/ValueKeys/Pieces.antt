-- The pieces of a substring assertion as they are looked for in the keys of values (RFC 4517, section 4.2, the substrings matching rules; RFC 4518, section 2.6.1).
use Rattle.std.specs.Prelude.{ℕ, cond, List, Option, Some, None}
use Rattle.std.specs.Str.{is_utf8, str_to_ascii_lowercase}
use Rattle.dir_names.specs.declared.schema.Rule.{Rule}
use Rattle.dir_names.specs.declared.schema.Rule.TheVariants.{Octet, CaseIgnore, Ia5CaseIgnore, Ia5CaseExact, Telephone, Integer, Name, ObjectId}
use Rattle.dir_names.specs.declared.schema.TypeRow.{TypeRow}
use Rattle.dir_names.specs.declared.value.pieces.PiecePlace.{PiecePlace}
use Rattle.dir_names.specs.declared.value.pieces.PiecePlace.TheVariants.{First, Middle, Last}
use Rattle.dir_names.specs.Attr.{Attr}
use Rattle.dir_names.specs.Table.{rule_of}
use Rattle.dir_names.specs.ValueKeys.{folded_text, is_ascii}
use Rattle.dir_names.specs.ValueKeys.Spaces.{without_leading_spaces, without_trailing_spaces, with_single_spaces, without_spaces_and_hyphens}

-- each run of spaces becomes one space; the first piece loses its leading spaces, the last one its trailing spaces
abbrev pub piece_spaces : PiecePlace → List ℕ → List ℕ
piece_spaces First text = without_leading_spaces (with_single_spaces text)
piece_spaces Middle text = with_single_spaces text
piece_spaces Last text = without_trailing_spaces (with_single_spaces text)

-- the piece under each rule that has substrings: folded as the rule folds values
abbrev pub piece_by : Rule → PiecePlace → List ℕ → Option (List ℕ)
piece_by CaseIgnore place piece = cond (is_utf8 piece) (Some (piece_spaces place (folded_text piece))) None
piece_by Telephone place piece = cond (is_utf8 piece) (Some (without_spaces_and_hyphens (folded_text piece))) None
piece_by Ia5CaseIgnore place piece = cond (is_ascii piece) (Some (piece_spaces place (str_to_ascii_lowercase piece))) None
piece_by Ia5CaseExact place piece = cond (is_ascii piece) (Some (piece_spaces place piece)) None
piece_by Octet place piece = None
piece_by Integer place piece = None
piece_by Name place piece = None
piece_by ObjectId place piece = None

-- the piece of an assertion on an attribute, if its rule has substrings and the piece is a text under it
abbrev pub piece_of : List TypeRow → Attr → PiecePlace → List ℕ → Option (List ℕ)
piece_of rows attr place piece = piece_by (rule_of rows attr) place piece
