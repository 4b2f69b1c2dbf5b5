-- What a reader that counts the groups of an undo text has still to read: its blocks, and how it ends.
use Rattle.std.specs.Prelude.{◌≡◌, ℕ, Bool, true, if◌then◌else◌, List, [], ◌∷◌, ◌++◌, Option, None, Some, Result, Ok, Err}
use Rattle.dir_ldif.specs.declared.faults.StreamFault.{StreamFault}
use Rattle.dir_ldif.specs.declared.faults.StreamFault.TheVariants.{LineTooLong, Read, Memory, Ended, TooManyTurns, BadVersion, BadMark}
use Rattle.dir_ldif.specs.declared.reader.marks.Marks.{Marks}
use Rattle.dir_ldif.specs.Bytes.{is_empty}
use Rattle.dir_ldif.specs.LogicalLines.{Line, is_comment, is_long}
use Rattle.dir_ldif.specs.Blocks.{BlockResult, by_version, version_of}
use Rattle.dir_ldif.specs.Marks.{after_comment, may_have_records}

-- a block and what follows it; the fault in which the text ends; or its end, after so many marks
pub data Remainder : Type 0 where
  holds : List Line → Remainder → Remainder
  fails : StreamFault → Remainder
  done : ℕ → Remainder

-- the blocks of it, and the fault in which it ends
abbrev pub blocks_in : Remainder → List BlockResult
blocks_in (holds b rest) = Ok b ∷ blocks_in rest
blocks_in (fails f) = Err f ∷ []
blocks_in (done n) = []

-- the marks that are passed at its end, if that is no fault
abbrev pub marks_in : Remainder → Option ℕ
marks_in (holds b rest) = marks_in rest
marks_in (fails f) = None
marks_in (done n) = Some n

-- no block is left
abbrev pub NoBlock : Remainder → Type 0
NoBlock (holds b rest) = ⊥
NoBlock (fails f) = Unit {0}
NoBlock (done n) = Unit {0}

-- a block before what follows it, if it has a line
abbrev pub then_rest : List Line → Remainder → Remainder
then_rest [] rest = rest
then_rest (line ∷ lines) rest = holds (line ∷ lines) rest

-- what follows a comment line that stands where a block may begin
abbrev pub after_marks : (Marks → Remainder) → Result Marks StreamFault → Remainder
after_marks rest (Ok m) = rest m
after_marks rest (Err f) = fails f

-- what is left to be read of logical lines, where these lines of a block come first: as in `blocks_from`, but nothing once a mark has ended the
-- text, and a fault at a mark that is not due, or at a record before the first
abbrev pub remainder_from : Marks → Bool → List Line → List Line → Remainder
remainder_from m begun held [] = then_rest held (done m.passed)
remainder_from m begun held (line ∷ rest) =
    if m.is_over then done m.passed
    else (if is_long line then fails LineTooLong
    else (if is_comment line then (if is_empty held then after_marks (λ m'. remainder_from m' begun [] rest) (after_comment m line.1) else remainder_from m begun held rest)
    else (if is_empty line.1 then then_rest held (remainder_from m begun [] rest)
    else (if begun then (if may_have_records m then remainder_from m true (held ++ line ∷ []) rest else fails BadMark)
    else by_version (version_of line.1) (if may_have_records m then remainder_from m true (held ++ line ∷ []) rest else fails BadMark) (remainder_from m true held rest) (fails BadVersion)))))

-- the text ends in this fault, with no block before it. That memory ran out says nothing of the text
abbrev pub FailsAtOnce : StreamFault → Remainder → Type 0
FailsAtOnce LineTooLong r = r ≡ fails LineTooLong
FailsAtOnce BadVersion r = r ≡ fails BadVersion
FailsAtOnce BadMark r = r ≡ fails BadMark
FailsAtOnce Memory r = Unit {0}
FailsAtOnce Read r = ⊥
FailsAtOnce Ended r = ⊥
FailsAtOnce TooManyTurns r = ⊥
