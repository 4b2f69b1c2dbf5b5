-- The test that a text between parentheses spells: a description, an operator and a value (RFC 4515, section 3: `simple`, `present` and `substring`).
use Rattle.std.specs.Prelude.{ℕ, ◌-◌, cond, ◌==◌, List, [], ◌∷◌, length, take, Option, Some, None, option_map, option_and_then, Result, Ok, Err}
use Rattle.std.specs.List.{before_first, list_all, slice_get}
use Rattle.std.specs.Result.{result_ok}
use Rattle.dir_names.specs.declared.fault.NameFault.{NameFault}
use Rattle.dir_names.specs.declared.schema.Rule.{Rule}
use Rattle.dir_names.specs.declared.schema.Rule.TheVariants.{Octet, CaseIgnore, Ia5CaseIgnore, Ia5CaseExact, Telephone, Integer, Name, ObjectId}
use Rattle.dir_names.specs.declared.schema.TypeRow.{TypeRow}
use Rattle.dir_names.specs.declared.value.ValueKey.{ValueKey}
use Rattle.dir_names.specs.declared.value.pieces.PiecePlace.TheVariants as place
use Rattle.dir_names.specs.Ascii.{equals_sign, greater_than, less_than}
use Rattle.dir_names.specs.Attr.{Attr}
use Rattle.dir_names.specs.Cut.{parts_at, after_first_separator}
use Rattle.dir_names.specs.Described.{Described}
use Rattle.dir_names.specs.Descriptions.{description_of}
use Rattle.dir_names.specs.NameKeys.{value_key_of}
use Rattle.dir_names.specs.Results.{option_collect}
use Rattle.dir_names.specs.Table.{rule_of}
use Rattle.dir_names.specs.ValueKeys.{is_integer}
use Rattle.dir_names.specs.ValueKeys.Pieces.{piece_of}
use Rattle.dir_acl.specs.declared.filter.Matching.{Matching}
use Rattle.dir_acl.specs.declared.filter.Matching.TheVariants.{Present, Equal, AtLeast, AtMost, Substrings}
use Rattle.dir_acl.specs.declared.filter.Pieces.{Pieces}
use Rattle.dir_acl.specs.declared.filter.Test.{Test}
use Rattle.dir_acl.specs.declared.filter.assertion.Operator.{Operator}
use Rattle.dir_acl.specs.declared.filter.assertion.Operator.TheVariants as op
use Rattle.dir_acl.specs.Inside.Escapes.{unescaped_from}
use Rattle.dir_acl.specs.Signs.{asterisk, tilde}
use Rattle.dir_acl.specs.declared.filter.assertion.Escape.TheVariants.{Outside}

-- ---- values

-- the bytes that a value stands for: a backslash and two hexadecimal digits are a byte; NUL, `(`, `)`, `*` and the backslash have no other form
abbrev pub unescaped : List ℕ → Option (List ℕ)
unescaped text = unescaped_from Outside text

-- the key of an assertion's value, if it has one under the rule of the type
abbrev pub assertion_key : List TypeRow → Attr → List ℕ → Option ValueKey
assertion_key rows attr value = result_ok (value_key_of rows attr value)

-- the number to compare with, if the type's rule has an order and the value is one
abbrev pub bound_by : Rule → List ℕ → Option (List ℕ)
bound_by Integer value = cond (is_integer value) (Some value) None
bound_by Octet value = None
bound_by CaseIgnore value = None
bound_by Ia5CaseIgnore value = None
bound_by Ia5CaseExact value = None
bound_by Telephone value = None
bound_by Name value = None
bound_by ObjectId value = None

abbrev pub bound_of : List TypeRow → Attr → List ℕ → Option (List ℕ)
bound_of rows attr value = bound_by (rule_of rows attr) value

-- ---- substrings

abbrev pub pieces_with : Option (List ℕ) → Option (List (List ℕ)) → Option (List ℕ) → Option Pieces
pieces_with None middle last = None
pieces_with (Some first) None last = None
pieces_with (Some first) (Some middle) None = None
pieces_with (Some first) (Some middle) (Some last) = Some (record { first = first; middle = middle; last = last })

-- the last piece, after those in the middle
abbrev pub last_piece : List TypeRow → Attr → Option (List ℕ) → Option (List ℕ)
last_piece rows attr part = option_and_then (λ p. piece_of rows attr place.Last p) part

-- the pieces of the parts between asterisks, as they are looked for, if each is one under the rule of the type. Empty parts ask for nothing
abbrev pub pieces_of : List TypeRow → Attr → List ℕ → List (List ℕ) → Option Pieces
pieces_of rows attr first more =
    pieces_with (piece_of rows attr place.First first) (option_collect (λ p. piece_of rows attr place.Middle p) (take (length more - 1) more)) (last_piece rows attr (slice_get more (length more - 1)))

-- a value without asterisk asks for equality, asterisks alone for presence, and others for substrings
abbrev pub matching_of_more : List TypeRow → Attr → List ℕ → List (List ℕ) → Matching
matching_of_more rows attr first more =
    cond (length more == 0) (Equal (assertion_key rows attr first))
    (cond (list_all (λ part. length part == 0) (first ∷ more)) Present (Substrings (pieces_of rows attr first more)))

abbrev pub matching_of_parts : List TypeRow → Attr → List (List ℕ) → Matching
matching_of_parts rows attr [] = Present
matching_of_parts rows attr (first ∷ more) = matching_of_more rows attr first more

-- ---- tests

-- the operators, by the sign before the `=`: `~=`, `>=`, `<=`, and `=` alone
abbrev pub operator_of_sign : ℕ → Operator
operator_of_sign b = cond (b == tilde) op.Approximate (cond (b == greater_than) op.AtLeast (cond (b == less_than) op.AtMost op.Equal))

abbrev pub operator_at : Option ℕ → Operator
operator_at None = op.Equal
operator_at (Some b) = operator_of_sign b

-- the operator of what is before the `=`
abbrev pub operator_of : List ℕ → Operator
operator_of before = operator_at (slice_get before (length before - 1))

-- the text of the description: what is before the operator
abbrev pub described_by : Operator → List ℕ → List ℕ
described_by op.Equal before = before
described_by op.Approximate before = take (length before - 1) before
described_by op.AtLeast before = take (length before - 1) before
described_by op.AtMost before = take (length before - 1) before

-- what an operator asks of a value without asterisks. `~=` is taken as `=`
abbrev pub matching_with : List TypeRow → Attr → Operator → List ℕ → Matching
matching_with rows attr op.Equal bytes = Equal (assertion_key rows attr bytes)
matching_with rows attr op.Approximate bytes = Equal (assertion_key rows attr bytes)
matching_with rows attr op.AtLeast bytes = AtLeast (bound_of rows attr bytes)
matching_with rows attr op.AtMost bytes = AtMost (bound_of rows attr bytes)

-- what an operator asks of the text of a value. An asterisk is a wildcard after `=` alone
abbrev pub matching_by : List TypeRow → Attr → Operator → List ℕ → Option Matching
matching_by rows attr op.Equal value = option_map (matching_of_parts rows attr) (option_collect unescaped (parts_at asterisk value))
matching_by rows attr op.Approximate value = option_map (matching_with rows attr op.Approximate) (unescaped value)
matching_by rows attr op.AtLeast value = option_map (matching_with rows attr op.AtLeast) (unescaped value)
matching_by rows attr op.AtMost value = option_map (matching_with rows attr op.AtMost) (unescaped value)

abbrev pub test_with : List TypeRow → Operator → List ℕ → Result Described NameFault → Option Test
test_with rows operator value (Err fault) = None
test_with rows operator value (Ok description) = option_map (λ matching. record { attr = description.key; matching = matching }) (matching_by rows description.key operator value)

abbrev pub test_from : List TypeRow → List ℕ → Option (List ℕ) → Option Test
test_from rows before None = None
test_from rows before (Some value) = test_with rows (operator_of before) value (description_of rows (described_by (operator_of before) before))

-- the test, if the text is a description, an operator and a value, without spaces between
abbrev pub test_of : List TypeRow → List ℕ → Option Test
test_of rows text = test_from rows (before_first (λ b. b == equals_sign) text) (after_first_separator equals_sign text)
