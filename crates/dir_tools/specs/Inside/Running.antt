-- The view of `Run`: a run as far as it has come, and how it takes a record. No public contract needs this file.
use Rattle.std.specs.Prelude.{◌≡◌, ⊤, IfSome, ℕ, ◌+◌, ◌<◌, ◌||◌, Bool, true, false, List, [], ◌∷◌, ◌++◌, length, Option, None, Some, Result, Ok, Err}
use Rattle.std.specs.List.{flat_map}
use Rattle.dir_names.specs.declared.schema.TypeRow.{TypeRow}
use Rattle.dir_ldif.specs.Device.{HasFailed}
use Rattle.dir_ldif.specs.declared.faults.RecordFault.{RecordFault}
use Rattle.dir_ldif.specs.declared.faults.StreamFault.{StreamFault}
use Rattle.dir_ldif.specs.declared.faults.StreamFault.TheVariants as stream
use Rattle.dir_ldif.specs.declared.records.Change.{Change}
use Rattle.dir_ldif.specs.declared.records.Record.{Record}
use Rattle.dir_ldif.specs.declared.records.Record.TheVariants as form
use Rattle.dir_tree.specs.Dir.{Dir}
use Rattle.dir_tools.specs.declared.fault.Cause.{Cause}
use Rattle.dir_tools.specs.declared.run.ModifyOptions.{ModifyOptions}
use Rattle.dir_change.specs.UndoText.{undo_text_of}
use Rattle.dir_tools.specs.Canonical.{canonical_of}
use Rattle.dir_tools.specs.declared.run.Files.{Files}
use Rattle.dir_tools.specs.declared.run.RunTexts.{RunTexts}
use Rattle.dir_tools.specs.declared.run.Run.{Run}
use Rattle.dir_ldif.specs.Records.{Answer, Found, all_found}
use Rattle.dir_ldif.specs.SoundRecords.{AreSoundAnswers}
use Rattle.dir_tools.specs.declared.fault.ToolFault.{ToolFault}
use Rattle.dir_tools.specs.declared.fault.ToolFault.TheVariants as tool
use Rattle.dir_tools.specs.declared.fault.Input.TheVariants as input
use Rattle.dir_tools.specs.RunOf.{Outcome, RunEnd, cause_in, causes_in, group_in, groups_in, looked_at_all, record_step, run_of, too_few_groups}
use Rattle.dir_tools.specs.Report.{numbers_line, outcome_line}

-- what a fault that ends the text of changes means
abbrev pub changes_fault : StreamFault → ToolFault
changes_fault stream.LineTooLong = tool.BadChanges stream.LineTooLong
changes_fault stream.Read = tool.Read input.Changes
changes_fault stream.Memory = tool.Memory
changes_fault stream.Ended = tool.BadChanges stream.Ended
changes_fault stream.TooManyTurns = tool.BadChanges stream.TooManyTurns
changes_fault stream.BadVersion = tool.BadChanges stream.BadVersion
changes_fault stream.BadMark = tool.BadChanges stream.BadMark

module _ {D : Type 0} where
  -- it has taken no record
  abbrev pub HasTakenNone : D → ModifyOptions → Run D → Type 0
  HasTakenNone directory options run =
      (run.directory ≡ directory) × (run.history ≡ []) × (run.report.text.items ≡ []) × (run.report.verbose ≡ options.verbose)
      × (run.summary.accepted ≡ 0) × (run.summary.refused ≡ 0) × (run.options ≡ options)

  -- the records that it has taken
  abbrev pub records_taken : Run D → ℕ
  records_taken run = run.summary.accepted + run.summary.refused

  -- the report and the numbers are as they were
  abbrev pub KeepsReport : Run D → Run D → Type 0
  KeepsReport old new = (new.report ≡ old.report) × (new.summary ≡ old.summary) × (new.options ≡ old.options)

  -- a record is accepted, and its group kept; or it is refused, and changes nothing
  abbrev pub HasOutcome : (D → Dir) → List TypeRow → Result Record RecordFault → Run D → Run D → Option Cause → Type 0
  HasOutcome state rows found old new None =
      (group : List Change) × (record_step rows (state old.directory) found ≡ Ok (state new.directory, group)) × (new.history ≡ old.history ++ group ∷ [])
  HasOutcome state rows found old new (Some why) =
      (record_step rows (state old.directory) found ≡ Err why) × (state new.directory ≡ state old.directory) × (new.history ≡ old.history)

  abbrev pub HasChangeOutcome : (D → Dir) → List TypeRow → Change → Run D → Run D → Option Cause → Type 0
  HasChangeOutcome state rows change old new why = HasOutcome state rows (Ok (form.Change change)) old new why

  -- one more outcome is reported
  abbrev pub Adds : ℕ × Outcome → Run D → Run D → Type 0
  Adds outcome old new =
      (new.history ≡ old.history ++ group_in outcome)
      × (new.report.text.items ≡ old.report.text.items ++ outcome_line old.report.verbose outcome)
      × (new.report.verbose ≡ old.report.verbose)
      × (new.summary.accepted ≡ old.summary.accepted + length (group_in outcome))
      × (new.summary.refused ≡ old.summary.refused + length (cause_in outcome))

  abbrev pub Takes : Bool → (D → Dir) → List TypeRow → ℕ → Result Record RecordFault → Run D → Run D → Type 0
  Takes true state rows line found old new =
      (group : List Change) × (record_step rows (state old.directory) found ≡ Ok (state new.directory, group)) × Adds (line, Ok group) old new
  Takes false state rows line found old new =
      (why : Cause) × (record_step rows (state old.directory) found ≡ Err why) × (state new.directory ≡ state old.directory) × Adds (line, Err why) old new

  -- what taking a record answers: whether it is accepted, or the run goes on; or memory ran out
  abbrev pub TakesRecord : (D → Dir) → List TypeRow → Found → Run D → Result Bool ToolFault → Run D → Type 0
  TakesRecord state rows found old (Ok more) new =
      (new.options ≡ old.options) × (is_accepted : Bool) × Takes is_accepted state rows found.0 found.1 old new × (more ≡ (is_accepted || old.options.go_on))
  TakesRecord state rows found old (Err fault) new = (new.options ≡ old.options) × (fault ≡ tool.Memory)

  -- outcomes are reported, one after the other
  abbrev pub AddsAll : List (ℕ × Outcome) → Run D → Run D → Type 0
  AddsAll outcomes old new =
      (new.history ≡ old.history ++ groups_in outcomes)
      × (new.report.text.items ≡ old.report.text.items ++ flat_map (outcome_line old.report.verbose) outcomes)
      × (new.report.verbose ≡ old.report.verbose)
      × (new.summary.accepted ≡ old.summary.accepted + length (groups_in outcomes))
      × (new.summary.refused ≡ old.summary.refused + length (causes_in outcomes))

  -- where a run is, with these outcomes
  abbrev pub end_at : (D → Dir) → Run D → List (ℕ × Outcome) → RunEnd
  end_at state run outcomes = record { end = state run.directory; outcomes = outcomes }

  -- the run over these answers ends there
  abbrev pub GoesTo : (D → Dir) → List TypeRow → Run D → List Answer → RunEnd → Type 0
  GoesTo state rows old answers ran = run_of rows old.options.go_on (state old.directory) answers ≡ Ok ran

  -- the run over the answers that were given ends here: it took sound records, with which the answers begin, and these have groups enough
  abbrev pub RunsOver : (D → Dir) → List TypeRow → Option (List Answer) → Option ℕ → Run D → Run D → Type 0
  RunsOver state rows given marks old new =
      (outcomes : List (ℕ × Outcome)) × (founds : List Found) × AddsAll outcomes old new × AreSoundAnswers rows (all_found founds)
      × GoesTo state rows old (all_found founds) (end_at state new outcomes)
      × IfSome given (λ answers. (rest : List Answer) × (answers ≡ all_found founds ++ rest) × GoesTo state rows old answers (end_at state new outcomes))
      × (too_few_groups old.options.last marks (looked_at_all old.options.go_on (end_at state new outcomes)) ≡ None)

  -- the run looked at each record, and these have only so many groups, fewer than are wanted
  abbrev pub HasTooFew : (D → Dir) → List TypeRow → Option (List Answer) → Option ℕ → Run D → ℕ → Type 0
  HasTooFew state rows given marks old groups =
      (wanted : ℕ) × (old.options.last ≡ Some wanted) × (groups < wanted) × IfSome marks (λ n. groups ≡ n)
      × IfSome given (λ answers. (ran : RunEnd) × (founds : List Found) × (answers ≡ all_found founds) × GoesTo state rows old answers ran × (looked_at_all old.options.go_on ran ≡ true))

  -- the run comes to the fault of the text
  abbrev pub BreaksOff : (D → Dir) → List TypeRow → Option (List Answer) → Run D → StreamFault → Type 0
  BreaksOff state rows given old fault = IfSome given (λ answers. run_of rows old.options.go_on (state old.directory) answers ≡ Err fault)

  -- why a run gives no texts: the text is at fault or has too few groups, the reader failed, or memory ran out
  abbrev pub IsChangesFaultCause : (D → Dir) → List TypeRow → Option (List Answer) → Option ℕ → ℕ → ℕ → Run D → ToolFault → Type 0
  IsChangesFaultCause state rows given marks failures failures' old (tool.BadChanges stream.LineTooLong) = BreaksOff state rows given old stream.LineTooLong
  IsChangesFaultCause state rows given marks failures failures' old (tool.BadChanges stream.BadVersion) = BreaksOff state rows given old stream.BadVersion
  IsChangesFaultCause state rows given marks failures failures' old (tool.BadChanges stream.BadMark) = BreaksOff state rows given old stream.BadMark
  IsChangesFaultCause state rows given marks failures failures' old (tool.BadChanges stream.TooManyTurns) = ⊤
  IsChangesFaultCause state rows given marks failures failures' old (tool.TooFewGroups groups) = HasTooFew state rows given marks old groups
  IsChangesFaultCause state rows given marks failures failures' old (tool.Read input.Changes) = HasFailed failures failures'
  IsChangesFaultCause state rows given marks failures failures' old tool.Memory = ⊤
  IsChangesFaultCause state rows given marks failures failures' old fault = ⊥

  -- the texts of a run, as they are made
  abbrev pub AreFilesOfRun : (D → Dir) → Run D → Option Files → Type 0
  AreFilesOfRun state run None = run.options.dry ≡ true
  AreFilesOfRun state run (Some files) =
      (run.options.dry ≡ false) × (files.undo.items ≡ undo_text_of run.history) × (files.out.items ≡ canonical_of (state run.directory))

  abbrev pub AreTextsOfRun : (D → Dir) → Run D → RunTexts → Type 0
  AreTextsOfRun state run texts =
      AreFilesOfRun state run texts.files × (texts.summary ≡ run.summary)
      × (texts.report.items ≡ run.report.text.items ++ numbers_line run.summary.accepted run.summary.refused)
