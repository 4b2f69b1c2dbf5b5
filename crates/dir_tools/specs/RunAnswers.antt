-- What `run_modify` answers over devices, which may tell their bytes or not.
use Rattle.std.specs.Prelude.{◌≡◌, ℕ, ◌<◌, ◌≤◌, ◌^◌, ⊤, List, length, Option, None, Some, IfSome, Result, Ok, Err}
use Rattle.dir_names.specs.Keys.{DnKeys}
use Rattle.dir_ldif.specs.declared.faults.StreamFault.{StreamFault}
use Rattle.dir_ldif.specs.declared.faults.StreamFault.TheVariants as stream
use Rattle.dir_tree.specs.Dir.{Dir}
use Rattle.dir_tools.specs.declared.fault.Cause.{Cause}
use Rattle.dir_tools.specs.declared.fault.Cause.TheVariants as cause
use Rattle.dir_tools.specs.declared.fault.Input.TheVariants as input
use Rattle.dir_tools.specs.declared.fault.Item.TheVariants as item
use Rattle.dir_tools.specs.declared.fault.ToolFault.{ToolFault}
use Rattle.dir_tools.specs.declared.fault.ToolFault.TheVariants as tool
use Rattle.dir_tools.specs.declared.run.ModifyOptions.{ModifyOptions}
use Rattle.dir_tools.specs.declared.run.Summary.{Summary}
use Rattle.dir_tools.specs.Canonical.{canonical_of}
use Rattle.dir_tools.specs.CopyFaults.{IsBadCopy}
use Rattle.dir_tools.specs.CopyOf.{copy_of}
use Rattle.dir_tools.specs.Headline.{IsTakenBack, RunTerms, RunOutput, WasThere, output_at, output_of, records_in, too_few_in}
use Rattle.dir_tools.specs.ReadCalls.{FillsReadCalls}
use Rattle.dir_tools.specs.RunOf.{AreUndos, ReadsAsGroups, RunEnd, groups_in, run_of}
use Rattle.dir_tools.specs.Suffix.{suffix_of}

-- the texts that the two sources have left, where they tell them
pub record Sources : Type 0 where
  pub copy : Option (List ℕ)
  pub changes : Option (List ℕ)

abbrev pub sources : Option (List ℕ) → Option (List ℕ) → Sources
sources copy changes = record { copy = copy; changes = changes }

-- ---- a run that came to its end

-- the run of a text of changes from a directory ends there, and has groups enough
abbrev pub RunsTo : RunTerms → Dir → List ℕ → RunEnd → Type 0
RunsTo q first text ran = (run_of q.rows q.options.go_on first (records_in q text) ≡ Ok ran) × (too_few_in q text ran ≡ None)

-- where the last accepted records, so many, were still to come, the run was at a directory to whose text so many groups of the undo text lead
-- back, whatever the other options
pub record LeadsBackBy (q : RunTerms) (known : Option (List ℕ)) (output : RunOutput) (first : Dir) (ran : RunEnd) (k : ℕ) : Type 0 where
  pub point : Dir
  pub was_there : IfSome known (λ text. WasThere q first text ran k point)
  pub taken_back : (options : ModifyOptions) → options.last ≡ Some k → IsTakenBack q output options (canonical_of point)

-- a run from the directory that its copy is the text of, over the records of its changes. Each accepted record has an undo as its group; the
-- records of the undo text are those of the groups, the last first; the whole of it takes the run back, whatever the other options; and so
-- many of its groups, as many of the accepted records
pub record IsStatedRun (q : RunTerms) (known : Sources) (output : RunOutput) : Type 0 where
  pub first : Dir
  pub ran : RunEnd
  pub suffix : suffix_of q.rows q.suffix ≡ Some first.suffix
  pub copy : IfSome known.copy (λ text. copy_of q.rows first.suffix text ≡ Ok first)
  pub changes : IfSome known.changes (λ text. RunsTo q first text ran)
  pub output_is : output ≡ output_at q ran
  pub undos : AreUndos q.rows first (groups_in ran.outcomes) ran.end
  pub undo_records : ReadsAsGroups q.rows output.texts.undo (groups_in ran.outcomes)
  pub taken_back : (options : ModifyOptions) → options.last ≡ None → IsTakenBack q output options (canonical_of first)
  pub goes_back : (k : ℕ) → k ≤ length (groups_in ran.outcomes) → k < 2 ^ 64 → LeadsBackBy q known.changes output first ran k

-- ---- a fault before the writing

-- the run from a directory comes to this fault of the text of changes; or the text has a byte or more for each read call of
-- a reader
abbrev pub IsBadText : RunTerms → Dir → List ℕ → StreamFault → Type 0
IsBadText q first text stream.TooManyTurns = FillsReadCalls text
IsBadText q first text fault = run_of q.rows q.options.go_on first (records_in q text) ≡ Err fault

-- the copy is the text of a directory, and from there the text of changes is at fault
pub record AreBadChanges (q : RunTerms) (known : Sources) (fault : StreamFault) : Type 0 where
  pub first : Dir
  pub suffix : suffix_of q.rows q.suffix ≡ Some first.suffix
  pub copy : IfSome known.copy (λ text. copy_of q.rows first.suffix text ≡ Ok first)
  pub changes : IfSome known.changes (λ text. IsBadText q first text fault)

-- the run looked at each record of the text of changes, and that has only so many groups, fewer than are wanted
pub record AreTooFewGroups (q : RunTerms) (known : Sources) (groups : ℕ) : Type 0 where
  pub first : Dir
  pub wanted : ℕ
  pub last : q.options.last ≡ Some wanted
  pub fewer : groups < wanted
  pub suffix : suffix_of q.rows q.suffix ≡ Some first.suffix
  pub copy : IfSome known.copy (λ text. copy_of q.rows first.suffix text ≡ Ok first)
  pub changes : IfSome known.changes (λ text. (ran : RunEnd) × (run_of q.rows q.options.go_on first (records_in q text) ≡ Ok ran) × (too_few_in q text ran ≡ Some groups))

-- the fault is that of the copy's text
abbrev pub HasBadCopy : RunTerms → Sources → ℕ → Cause → Type 0
HasBadCopy q known line why = (key : DnKeys) × (suffix_of q.rows q.suffix ≡ Some key) × IfSome known.copy (λ text. IsBadCopy q.rows key text line why)

-- what a fault says of the texts that were read. Out of memory says nothing of them; for a read fault see `StoppedReading`
abbrev pub IsCausedBy : RunTerms → Sources → ToolFault → Type 0
IsCausedBy q known (tool.BadQuestion item.Suffix) = suffix_of q.rows q.suffix ≡ None
IsCausedBy q known (tool.BadCopy line why) = HasBadCopy q known line why
IsCausedBy q known (tool.BadChanges fault) = AreBadChanges q known fault
IsCausedBy q known (tool.TooFewGroups groups) = AreTooFewGroups q known groups
IsCausedBy q known (tool.Read input.Copy) = ⊤
IsCausedBy q known (tool.Read input.Changes) = ⊤
IsCausedBy q known tool.Memory = ⊤
IsCausedBy q known fault = ⊥

-- ---- the answer

-- the answer of a run that has this output, if it came to one
abbrev pub AnswersRun : RunTerms → Sources → Result Summary ToolFault → RunOutput → Type 0
AnswersRun q known (Ok summary) output = (summary ≡ output.summary) × IsStatedRun q known output
AnswersRun q known (Err (tool.Write writer)) output = IsStatedRun q known output
AnswersRun q known (Err fault) output = IsCausedBy q known fault

-- the answer, and the output, are those of the definition. Where reading stopped, or memory ran out, the answer says nothing of it
abbrev pub IsAnswerOf : Result Summary ToolFault → RunOutput → Result RunOutput ToolFault → Type 0
IsAnswerOf (Ok summary) output wanted = wanted ≡ Ok output
IsAnswerOf (Err (tool.Write writer)) output wanted = wanted ≡ Ok output
IsAnswerOf (Err tool.Memory) output wanted = ⊤
IsAnswerOf (Err (tool.Read from)) output wanted = ⊤
IsAnswerOf (Err (tool.BadCopy line (cause.Ended stream.TooManyTurns))) output wanted = ⊤
IsAnswerOf (Err (tool.BadChanges stream.TooManyTurns)) output wanted = ⊤
IsAnswerOf (Err fault) output wanted = wanted ≡ Err fault

-- where both sources tell their texts, the run does as the definition says
abbrev pub IsWholeRun : RunTerms → Sources → Result Summary ToolFault → RunOutput → Type 0
IsWholeRun q known result output = IfSome known.copy (λ copy. IfSome known.changes (λ changes. IsAnswerOf result output (output_of q copy changes)))
