-- What the writers of a run took.
use Rattle.std.specs.Prelude.{◌≡◌, ℕ, Bool, true, false, List, Option, Result, Ok, Err, ⊤}
use Rattle.std.specs.Io.KnownBytes.{Appends}
use Rattle.dir_ldif.specs.Device.{AppendsPrefix}
use Rattle.dir_tools.specs.declared.fault.ToolFault.{ToolFault}
use Rattle.dir_tools.specs.declared.fault.ToolFault.TheVariants as fault
use Rattle.dir_tools.specs.declared.fault.Output.{Output}
use Rattle.dir_tools.specs.declared.fault.Output.TheVariants as to

-- the bytes that a writer had taken before a call and has taken after it, where it tells them
abbrev pub TakenBytes : Type 0
TakenBytes = Option (List ℕ) × Option (List ℕ)

-- it took the whole text, a prefix of it, nothing
abbrev pub TookWhole : TakenBytes → List ℕ → Type 0
TookWhole tape text = Appends tape.0 tape.1 text

abbrev pub TookPrefix : TakenBytes → List ℕ → Type 0
TookPrefix tape text = (n : ℕ) × AppendsPrefix tape.0 tape.1 text n

abbrev pub TookNothing : TakenBytes → Type 0
TookNothing tape = tape.1 ≡ tape.0

-- what a run writes; a dry run leaves out the first two
pub record Texts : Type 0 where
  pub undo : List ℕ
  pub out : List ℕ
  pub report : List ℕ

-- in a dry run the undo text and the new copy are not written
abbrev pub TookFile : Bool → TakenBytes → List ℕ → Type 0
TookFile true tape text = TookNothing tape
TookFile false tape text = TookWhole tape text

-- the writer that a fault names took a prefix of its text, those before it took theirs whole, those after it nothing
abbrev pub WroteUpTo : Bool → Output → Texts → TakenBytes → TakenBytes → TakenBytes → Type 0
WroteUpTo dry to.Undo s undo out report = (dry ≡ false) × TookPrefix undo s.undo × TookNothing out × TookNothing report
WroteUpTo dry to.Out s undo out report = (dry ≡ false) × TookWhole undo s.undo × TookPrefix out s.out × TookNothing report
WroteUpTo dry to.Report s undo out report = TookFile dry undo s.undo × TookFile dry out s.out × TookPrefix report s.report

-- after any other fault nothing is written
abbrev pub WroteBefore : Bool → ToolFault → Texts → TakenBytes → TakenBytes → TakenBytes → Type 0
WroteBefore dry (fault.Write output) s undo out report = WroteUpTo dry output s undo out report
WroteBefore dry e s undo out report = TookNothing undo × TookNothing out × TookNothing report

-- the undo text, then the new copy, then the report, each whole before the next has a byte
abbrev pub WroteInOrder : {A : Type 0} → Bool → Result A ToolFault → Texts → TakenBytes → TakenBytes → TakenBytes → Type 0
WroteInOrder dry (Ok x) s undo out report = TookFile dry undo s.undo × TookFile dry out s.out × TookWhole report s.report
WroteInOrder dry (Err e) s undo out report = WroteBefore dry e s undo out report

-- in a dry run the first two are not written, and need not be flushed
abbrev pub FileFlushed : Bool → Type 0 → Type 0
FileFlushed true flushed = ⊤
FileFlushed false flushed = flushed

-- each writer was flushed before the next had a byte, and at the end the last one too
abbrev pub FlushedUpTo : Bool → Output → Type 0 → Type 0 → Type 0
FlushedUpTo dry to.Undo undo out = ⊤
FlushedUpTo dry to.Out undo out = undo
FlushedUpTo dry to.Report undo out = FileFlushed dry undo × FileFlushed dry out

abbrev pub FlushedInOrder : {A : Type 0} → Bool → Result A ToolFault → Type 0 → Type 0 → Type 0 → Type 0
FlushedInOrder dry (Ok x) undo out report = FileFlushed dry undo × FileFlushed dry out × report
FlushedInOrder dry (Err (fault.Write output)) undo out report = FlushedUpTo dry output undo out
FlushedInOrder dry (Err e) undo out report = ⊤

-- one text alone
abbrev pub WroteCopyPrefix : Output → TakenBytes → List ℕ → Type 0
WroteCopyPrefix to.Out tape text = TookPrefix tape text
WroteCopyPrefix output tape text = ⊥

abbrev pub WroteCopy : {A : Type 0} → Result A ToolFault → TakenBytes → List ℕ → Type 0
WroteCopy (Ok x) tape text = TookWhole tape text
WroteCopy (Err (fault.Write output)) tape text = WroteCopyPrefix output tape text
WroteCopy (Err fault.Memory) tape text = TookNothing tape
WroteCopy (Err e) tape text = ⊥

-- the report of slapacl, or a prefix of it after a fault of its writer; after any other fault nothing is written
abbrev pub WroteReportPrefix : Output → TakenBytes → List ℕ → Type 0
WroteReportPrefix to.Report tape text = TookPrefix tape text
WroteReportPrefix output tape text = ⊥

abbrev pub WroteReport : {A : Type 0} → Result A ToolFault → TakenBytes → List ℕ → Type 0
WroteReport (Ok x) tape text = TookWhole tape text
WroteReport (Err (fault.Write output)) tape text = WroteReportPrefix output tape text
WroteReport (Err e) tape text = TookNothing tape

-- a fault of a writer
abbrev pub IsWriteFault : ToolFault → Type 0
IsWriteFault (fault.Write output) = ⊤
IsWriteFault e = ⊥
