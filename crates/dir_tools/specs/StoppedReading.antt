-- If reading fails part-way, every complete record before the failure was right.
use Rattle.std.specs.Prelude.{◌≡◌, ℕ, ⊤, false, List, Option, Some, Ok, IfSome}
use Rattle.dir_names.specs.Keys.{DnKeys}
use Rattle.dir_ldif.specs.declared.faults.StreamFault.TheVariants as stream
use Rattle.dir_tree.specs.Dir.{Dir}
use Rattle.dir_tools.specs.declared.fault.Cause.TheVariants as cause
use Rattle.dir_tools.specs.declared.fault.Input.TheVariants as input
use Rattle.dir_tools.specs.declared.fault.ToolFault.{ToolFault}
use Rattle.dir_tools.specs.declared.fault.ToolFault.TheVariants as tool
use Rattle.dir_tools.specs.CompleteRecords.{CompleteRecordsAreAccepted, CompleteRecordsLoad, GaveBytes, answers_after, changes_after}
use Rattle.dir_tools.specs.CopyOf.{copy_of, empty_copy}
use Rattle.dir_tools.specs.Headline.{RunTerms}
use Rattle.dir_tools.specs.Suffix.{suffix_of}

-- the bytes that a source has left, before a call and after it, where it tells them
abbrev pub KnownBytes : Type 0
KnownBytes = Option (List ℕ) × Option (List ℕ)

-- the suffix is a name, and every complete record among the bytes of the copy was right
abbrev pub CopyWasRight : RunTerms → KnownBytes → Type 0
CopyWasRight q copy =
    (key : DnKeys) × (suffix_of q.rows q.suffix ≡ Some key) × GaveBytes copy.0 copy.1 (λ bytes. CompleteRecordsLoad q.rows (empty_copy key) (answers_after q.rows bytes))

-- the copy is the text of a directory; and where a refused record ends the run, every complete record among the bytes of the changes was
-- accepted
pub record ChangesWereAccepted (q : RunTerms) (copy changes : KnownBytes) : Type 0 where
  pub first : Dir
  pub suffix : suffix_of q.rows q.suffix ≡ Some first.suffix
  pub reads : IfSome copy.0 (λ text. copy_of q.rows first.suffix text ≡ Ok first)
  pub accepted : q.options.go_on ≡ false → GaveBytes changes.0 changes.1 (λ bytes. CompleteRecordsAreAccepted q.rows first (changes_after q.rows q.options.last bytes))

-- for each fault of a reader, what holds of the complete records before it
abbrev pub HeldBefore : RunTerms → KnownBytes → KnownBytes → ToolFault → Type 0
HeldBefore q copy changes (tool.Read input.Copy) = CopyWasRight q copy
HeldBefore q copy changes (tool.BadCopy line (cause.Ended stream.TooManyTurns)) = CopyWasRight q copy
HeldBefore q copy changes (tool.Read input.Changes) = ChangesWereAccepted q copy changes
HeldBefore q copy changes (tool.BadChanges stream.TooManyTurns) = ChangesWereAccepted q copy changes
HeldBefore q copy changes fault = ⊤
