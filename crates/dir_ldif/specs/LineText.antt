-- One line as it is written (RFC 2849, attrval-spec and value-spec): its value plain where it can be, else in base64; folded.
use Rattle.std.specs.Prelude.{◌≡◌, ◌⊎◌, ℕ, zero, suc, ◌≤◌, All, Bool, false, not, ◌&&◌, cond, nat_lt, ◌==◌, List, [], ◌∷◌, ◌++◌, length}
use Rattle.std.specs.List.{list_all, list_any}
use Rattle.base64.specs.Engines.{standard}
use Rattle.base64.specs.GeneralPurpose.{encode_of}
use Rattle.dir_ldif.specs.Bytes.{ends_in, is_line_break}
use Rattle.dir_ldif.specs.LogicalLines.{cut, is_lf}
use Rattle.dir_names.specs.Ascii.{carriage_return, colon, less_than, line_feed, nul, space}

-- SAFE-CHAR: ASCII without NUL, LF and CR
abbrev pub is_safe : ℕ → Bool
is_safe b = nat_lt b 128 && not (b == nul) && not (b == line_feed) && not (b == carriage_return)

-- SAFE-INIT-CHAR: no space, colon or less-than sign either
abbrev pub is_safe_first : ℕ → Bool
is_safe_first b = is_safe b && not (b == space) && not (b == colon) && not (b == less_than)

-- a value that can be written plainly: a SAFE-STRING of one byte or more, with no space at its end (note 8)
abbrev pub is_plain : List ℕ → Bool
is_plain [] = false
is_plain (b ∷ bs) = is_safe_first b && list_all is_safe bs && not (ends_in space (b ∷ bs))

-- the base64 text of a value (RFC 4648, section 4)
unfoldable pub base64_of : List ℕ → List ℕ
base64_of value = encode_of standard value

-- what follows the name (value-spec): `:` alone, `: ` and the value, or `:: ` and its base64 text
abbrev pub value_spec : List ℕ → List ℕ
value_spec [] = colon ∷ []
value_spec (b ∷ bs) = cond (is_plain (b ∷ bs)) (colon ∷ space ∷ b ∷ bs) (colon ∷ colon ∷ space ∷ base64_of (b ∷ bs))

-- a line of a name and a value, without its end
abbrev pub line_of : List ℕ → List ℕ → List ℕ
line_of name value = name ++ value_spec value

-- the rest of a line and its LF, where the first physical line has room for so many bytes: where no room is left come an
-- LF and a space, and then there is room for 75 bytes
unfoldable pub fold_from : ℕ → List ℕ → List ℕ
fold_from room [] = line_feed ∷ []
fold_from zero (b ∷ bs) = line_feed ∷ space ∷ b ∷ fold_from 74 bs
fold_from (suc room) (b ∷ bs) = b ∷ fold_from room bs

-- the line folded into physical lines of at most 76 bytes (note 2)
abbrev pub folded_line : List ℕ → List ℕ
folded_line line = fold_from 76 line

-- a line of a name and a value, as it is written
abbrev pub written_line : List ℕ → List ℕ → List ℕ
written_line name value = folded_line (line_of name value)

-- ---- the physical lines of a written line

-- one line of at most 76 bytes
abbrev pub IsOneLine : List (List ℕ) → Type 0
IsOneLine lines = (only : List ℕ) × (lines ≡ only ∷ []) × (length only ≤ 76)

-- a space and so many bytes
abbrev pub IsContinuation : ℕ → List ℕ → Type 0
IsContinuation n line = (bytes : List ℕ) × (line ≡ space ∷ bytes) × (length bytes ≡ n)

-- a line of 76 bytes, then lines of a space and 75 bytes, and a last one of a space and 1 to 75 bytes
abbrev pub IsFolded : List (List ℕ) → Type 0
IsFolded lines =
    (first : List ℕ) × (middle : List (List ℕ)) × (last : List ℕ) × (n : ℕ) × (lines ≡ (first ∷ middle) ++ last ∷ [])
    × (length first ≡ 76) × All (IsContinuation 75) middle × IsContinuation n last × (1 ≤ n) × (n ≤ 75)

-- a law: a written line is one physical line, or is folded so
abbrev pub WrittenLinesAreFolded : Type 0
WrittenLinesAreFolded = (name value : List ℕ) → list_any is_line_break name ≡ false
    → IsOneLine (cut is_lf (written_line name value)) ⊎ IsFolded (cut is_lf (written_line name value))
