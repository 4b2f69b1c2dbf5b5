-- The blocks of a text (RFC 2849, "Formal Syntax Definition of LDIF", and notes 1 to 3), said of all its lines at once, beside
-- the definition in Blocks, which goes from line to line; and the law that both say the same.
use Rattle.std.specs.Prelude.{◌≡◌, ℕ, Bool, true, false, not, if◌then◌else◌, List, [], ◌∷◌, ◌++◌, map, Ok, Err}
use Rattle.std.specs.List.{filter, list_any}
use Rattle.dir_ldif.specs.declared.faults.StreamFault.TheVariants.{LineTooLong, BadVersion}
use Rattle.dir_ldif.specs.Bytes.{is_empty}
use Rattle.dir_ldif.specs.LogicalLines.{Line, cut, lines_of, is_comment, is_long}
use Rattle.dir_ldif.specs.Blocks.{BlockResult, by_version, blocks_of, version_of}

abbrev pub is_blank : Line → Bool
is_blank line = is_empty line.1

-- the lines before the first that is too long
abbrev pub lines_before_long : List Line → List Line
lines_before_long [] = []
lines_before_long (line ∷ lines) = if is_long line then [] else (line ∷ lines_before_long lines)

abbrev pub without_comments : List Line → List Line
without_comments lines = filter (λ line. not (is_comment line)) lines

-- the lines from the first one that is not empty
abbrev pub without_leading_blanks : List Line → List Line
without_leading_blanks [] = []
without_leading_blanks (line ∷ lines) = if is_blank line then without_leading_blanks lines else (line ∷ lines)

-- the pieces with this element before the first one, if there is one
abbrev pub onto_first_piece : {A : Type 0} → A → List (List A) → List (List A)
onto_first_piece x [] = []
onto_first_piece x (piece ∷ pieces) = (x ∷ piece) ∷ pieces

-- the pieces of a list, each ended by an element that passes a test: those of `cut`, without what follows the last such
-- element
abbrev pub ended_pieces : {A : Type 0} → (A → Bool) → List A → List (List A)
ended_pieces test [] = []
ended_pieces test (x ∷ xs) = if test x then [] ∷ ended_pieces test xs else onto_first_piece x (ended_pieces test xs)

-- the pieces that have a line
abbrev pub nonempty_blocks : List (List Line) → List BlockResult
nonempty_blocks pieces = map (λ (block : List Line). Ok block) (filter (λ (piece : List Line). not (is_empty piece)) pieces)

-- empty lines end blocks. Where a line that is too long follows, a block that no empty line ended is lost
abbrev pub body_blocks : Bool → List Line → List BlockResult
body_blocks false lines = nonempty_blocks (cut is_blank lines)
body_blocks true lines = nonempty_blocks (ended_pieces is_blank lines) ++ Err LineTooLong ∷ []

-- the first line may say the version, and then belongs to no block
abbrev pub blocks_after_version : Bool → List Line → List BlockResult
blocks_after_version long [] = body_blocks long []
blocks_after_version long (first ∷ rest) =
    by_version (version_of first.1) (body_blocks long (first ∷ rest)) (body_blocks long rest) (Err BadVersion ∷ [])

-- the blocks of the lines of a text: those of the lines before the first that is too long, without comments, from the first
-- that is not empty
abbrev pub blocks_at_once : List Line → List BlockResult
blocks_at_once lines = blocks_after_version (list_any is_long lines) (without_leading_blanks (without_comments (lines_before_long lines)))

-- the definition from line to line says the same
abbrev pub TextsAreBlocks : Type 0
TextsAreBlocks = (text : List ℕ) → blocks_of text ≡ blocks_at_once (lines_of text)

-- a text in which a line is too long has such a line whatever text follows
abbrev pub LongLinesStay : Type 0
LongLinesStay = (text more : List ℕ) → list_any is_long (lines_of text) ≡ true → list_any is_long (lines_of (text ++ more)) ≡ true
