-- The blocks of a text (RFC 2849, "Formal Syntax Definition of LDIF"), and the fault in which it may end.
use Rattle.std.specs.Prelude.{◌≡◌, ℕ, Bool, true, false, if◌then◌else◌, List, [], ◌∷◌, ◌++◌, ◌<◌, length, map, Option, None, Some, Result, Ok, Err}
use Rattle.std.specs.Str.{str_eq_ignore_ascii_case, bytes_eq}
use Rattle.dir_ldif.specs.declared.faults.StreamFault.{StreamFault}
use Rattle.dir_ldif.specs.declared.faults.StreamFault.TheVariants.{LineTooLong, Read, Memory, Ended, TooManyTurns, BadVersion, BadMark}
use Rattle.dir_ldif.specs.declared.reader.version.Version.{Version}
use Rattle.dir_ldif.specs.declared.reader.version.Version.TheVariants.{Absent, One, Other}
use Rattle.dir_ldif.specs.Bytes.{is_empty, cut_at, without_leading}
use Rattle.dir_ldif.specs.LogicalLines.{Line, lines_of, is_comment, is_long}
use Rattle.dir_names.specs.Ascii.{colon, space}

-- a block of lines, or the fault in which the text ends
abbrev pub BlockResult : Type 0
BlockResult = Result (List Line) StreamFault

-- the keyword `version`
abbrev pub version_word : List ℕ
version_word = 118 ∷ 101 ∷ 114 ∷ 115 ∷ 105 ∷ 111 ∷ 110 ∷ []

-- what a line that is cut at its first colon says of the version: none, 1 (as a plain value), or another (RFC 2849,
-- version-spec)
abbrev pub version_of_cut : Option (List ℕ × List ℕ) → Version
version_of_cut None = Absent
version_of_cut (Some p) =
    if str_eq_ignore_ascii_case p.0 version_word
    then (if bytes_eq (without_leading space p.1) (49 ∷ []) then One else Other)
    else Absent

-- what a line says of the version
abbrev pub version_of : List ℕ → Version
version_of line = version_of_cut (cut_at colon line)

-- one of three values, by what a line says of the version
abbrev pub by_version : {A : Type 0} → Version → A → A → A → A
by_version Absent absent one other = absent
by_version One absent one other = one
by_version Other absent one other = other

-- a block before others, if it has a line
abbrev pub block_then : List Line → List BlockResult → List BlockResult
block_then [] rest = rest
block_then (line ∷ lines) rest = Ok (line ∷ lines) ∷ rest

-- the blocks of logical lines, where these lines of a block come first. A line that is too long ends the text; a comment is
-- dropped; an empty line ends the block; and the first line that is left, before which none has `begun`, may say the version
abbrev pub blocks_from : Bool → List Line → List Line → List BlockResult
blocks_from begun block [] = block_then block []
blocks_from begun block (line ∷ rest) =
    if is_long line then Err LineTooLong ∷ []
    else (if is_comment line then blocks_from begun block rest
    else (if is_empty line.1 then block_then block (blocks_from begun [] rest)
    else (if begun then blocks_from true (block ++ line ∷ []) rest
    else by_version (version_of line.1) (blocks_from true (block ++ line ∷ []) rest) (blocks_from true block rest) (Err BadVersion ∷ []))))

-- the blocks of a text
abbrev pub blocks_of : List ℕ → List BlockResult
blocks_of text = blocks_from false [] (lines_of text)

-- the text ends in this fault, with no block before it. That memory ran out says nothing of the text
abbrev pub EndsAtOnce : StreamFault → List BlockResult → Type 0
EndsAtOnce LineTooLong blocks = blocks ≡ Err LineTooLong ∷ []
EndsAtOnce BadVersion blocks = blocks ≡ Err BadVersion ∷ []
EndsAtOnce BadMark blocks = blocks ≡ Err BadMark ∷ []
EndsAtOnce Memory blocks = Unit {0}
EndsAtOnce Read blocks = ⊥
EndsAtOnce Ended blocks = ⊥
EndsAtOnce TooManyTurns blocks = ⊥

-- the blocks of a text that ends in no fault
abbrev pub all_blocks : List (List Line) → List BlockResult
all_blocks blocks = map (λ (block : List Line). Ok block) blocks

-- why the blocks of a text are not read: a line is too long, after some blocks; it begins with a version other than 1; it has too many bytes to be
-- read at once; or memory ran out, which says nothing of the text
abbrev pub BlocksEndIn : StreamFault → List ℕ → Type 0
BlocksEndIn LineTooLong text = (blocks : List (List Line)) × (blocks_of text ≡ all_blocks blocks ++ Err LineTooLong ∷ [])
BlocksEndIn BadVersion text = blocks_of text ≡ Err BadVersion ∷ []
BlocksEndIn TooManyTurns text = 9007199254732800 < length text
BlocksEndIn Memory text = Unit {0}
BlocksEndIn BadMark text = ⊥
BlocksEndIn Read text = ⊥
BlocksEndIn Ended text = ⊥
