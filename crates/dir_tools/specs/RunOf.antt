-- A run of changes on a directory (slapmodify(8)): an outcome for each record that it looks at.
use Rattle.std.specs.Prelude.{ℕ, Bool, ◌&&◌, ◌||◌, nat_lt, cond, if◌then◌else◌, List, [], ◌∷◌, ◌++◌, map, reverse, Option, None, Some, Result, Ok, Err, ◌≡◌}
use Rattle.std.specs.List.{flat_map}
use Rattle.dir_names.specs.declared.schema.TypeRow.{TypeRow}
use Rattle.dir_ldif.specs.declared.faults.RecordFault.{RecordFault}
use Rattle.dir_ldif.specs.declared.faults.RecordFault.TheVariants.{BadChangetype}
use Rattle.dir_ldif.specs.declared.faults.StreamFault.{StreamFault}
use Rattle.dir_ldif.specs.declared.records.Change.{Change}
use Rattle.dir_ldif.specs.declared.records.Record.{Record}
use Rattle.dir_ldif.specs.declared.records.Record.TheVariants as form
use Rattle.dir_ldif.specs.Bytes.{is_empty}
use Rattle.dir_ldif.specs.Records.{Answer, marks_up_to, records_of, records_up_to}
use Rattle.dir_ldif.specs.RoundTrip.{without_line}
use Rattle.dir_tree.specs.Dir.{Dir}
use Rattle.dir_change.specs.declared.result_code.ResultCode.{ResultCode}
use Rattle.dir_change.specs.Operation.{step}
use Rattle.dir_change.specs.Runs.{group_of, run_to_end}
use Rattle.dir_tools.specs.declared.fault.Cause.{Cause}
use Rattle.dir_tools.specs.declared.fault.Cause.TheVariants as cause
use Rattle.dir_tree.specs.WellFormed.{Each}
use Rattle.dir_change.specs.SoundChange.{IsSoundChange}
use Rattle.dir_change.specs.Undo.{IsUndo}

-- the changes that take an accepted record back, or why a record is refused
abbrev pub Outcome : Type 0
Outcome = Result (List Change) Cause

-- where a run ends, and the outcomes of the records that it looked at, each with its line
pub record RunEnd : Type 0 where
  pub end : Dir
  pub outcomes : List (ℕ × Outcome)

-- the directory after an accepted record, with the changes that take it back; or why the record is refused
abbrev pub RecordStep : Type 0
RecordStep = Result (Dir × List Change) Cause

abbrev pub change_step : List TypeRow → Dir → Change → Result Dir ResultCode → RecordStep
change_step rows d change (Ok e) = Ok (e, group_of rows d e change)
change_step rows d change (Err code) = Err (cause.Code code)

-- a change takes its step; a content record and a faulty record are refused
abbrev pub record_step : List TypeRow → Dir → Result Record RecordFault → RecordStep
record_step rows d (Ok (form.Change change)) = change_step rows d change (step rows d change)
record_step rows d (Ok (form.Content name lines)) = Err (cause.Fault BadChangetype)
record_step rows d (Err fault) = Err (cause.Fault fault)

-- a run with the outcomes of earlier records before its own
abbrev pub with_outcomes_before : List (ℕ × Outcome) → Result RunEnd StreamFault → Result RunEnd StreamFault
with_outcomes_before before (Ok ran) = Ok (record { end = ran.end; outcomes = before ++ ran.outcomes })
with_outcomes_before before (Err fault) = Err fault

abbrev pub ended_run : Dir → Result RunEnd StreamFault
ended_run d = Ok (record { end = d; outcomes = [] })

abbrev pub run_after : RecordStep → ℕ → (Dir → Result RunEnd StreamFault) → Result RunEnd StreamFault → Result RunEnd StreamFault
run_after (Ok p) line on refused = with_outcomes_before ((line, Ok p.1) ∷ []) (on p.0)
run_after (Err why) line on refused = with_outcomes_before ((line, Err why) ∷ []) refused

-- the run continues from the directory after an accepted record. A refused record leaves the directory, and ends a run that
-- doesn't go on. A fault of the text is the answer of a run that comes to it
abbrev pub run_of : List TypeRow → Bool → Dir → List Answer → Result RunEnd StreamFault
run_of rows go_on d [] = ended_run d
run_of rows go_on d (Err fault ∷ rest) = Err fault
run_of rows go_on d (Ok found ∷ rest) =
    run_after (record_step rows d found.1) found.0 (λ e. run_of rows go_on e rest) (cond go_on (run_of rows go_on d rest) (ended_run d))

abbrev pub group_in : ℕ × Outcome → List (List Change)
group_in (line, Ok group) = group ∷ []
group_in (line, Err why) = []

abbrev pub cause_in : ℕ × Outcome → List Cause
cause_in (line, Ok group) = []
cause_in (line, Err why) = why ∷ []

-- the groups of the accepted records, and why the others were refused
abbrev pub groups_in : List (ℕ × Outcome) → List (List Change)
groups_in outcomes = flat_map group_in outcomes

abbrev pub causes_in : List (ℕ × Outcome) → List Cause
causes_in outcomes = flat_map cause_in outcomes

-- ---- the first groups of an undo text

-- the records of a text of changes that a run takes: all of them, or those of the first groups of an undo text, so many
abbrev pub records_at : List TypeRow → Option ℕ → List ℕ → List Answer
records_at rows None text = records_of rows text
records_at rows (Some groups) text = records_up_to rows groups text

-- the marks of groups that it passes, where they are counted and the text ends in no fault
abbrev pub marks_at : Option ℕ → List ℕ → Option ℕ
marks_at None text = None
marks_at (Some groups) text = marks_up_to groups text

-- a run has looked at each record: it goes on after a refused one, or it refused none
abbrev pub looked_at_all : Bool → RunEnd → Bool
looked_at_all go_on ran = go_on || is_empty (causes_in ran.outcomes)

-- how many groups there are, where a run that has looked at each record wants more
abbrev pub too_few_groups : Option ℕ → Option ℕ → Bool → Option ℕ
too_few_groups None marks at_end = None
too_few_groups (Some wanted) None at_end = None
too_few_groups (Some wanted) (Some marks) at_end = if at_end && nat_lt marks wanted then Some marks else None

-- ---- the accepted changes

-- the outcomes of a run from one directory to another: their groups are those of sound changes that were accepted one after the other
abbrev pub HasAccepted : List TypeRow → Dir → List (ℕ × Outcome) → Dir → Type 0
HasAccepted rows first outcomes last =
    (changes : List Change) × Each (IsSoundChange rows) changes × (run_to_end rows first changes ≡ record { end = last; groups = groups_in outcomes })

-- each group is an undo of a sound change, and these changes lead from one directory to the other
abbrev pub AreUndos : List TypeRow → Dir → List (List Change) → Dir → Type 0
AreUndos rows d [] last = d ≡ last
AreUndos rows d (group ∷ groups) last = (change : Change) × (next : Dir) × IsSoundChange rows change × IsUndo rows d next change group × AreUndos rows next groups last

-- the records of the undo text are the changes of the groups, those of the last accepted record first, and none is faulty
abbrev pub ReadsAsGroups : List TypeRow → List ℕ → List (List Change) → Type 0
ReadsAsGroups rows undo groups = map without_line (records_of rows undo) ≡ map (λ c. Ok (Ok (form.Change c))) (flat_map (λ group. group) (reverse groups))
