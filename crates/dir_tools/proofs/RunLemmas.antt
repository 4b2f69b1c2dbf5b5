-- A run's outcomes, one after the other.
use Rattle.std.proofs.Common.{◌≡◌, ℕ, ◌+◌, ◌<◌, Bool, true, false, ◌||◌, cond, List, [], ◌∷◌, ◌++◌, length, refl, sym, ap, subst, ◌∙◌, Option, None, Some, Result, Ok, Err, IfSome, arith, append_assoc, length-append}
use Rattle.std.proofs.lemmas.List.{append-nil}
use Rattle.std.specs.List.{flat_map}
use Rattle.dir_names.specs.declared.schema.TypeRow.{TypeRow}
use Rattle.dir_ldif.specs.declared.faults.StreamFault.{StreamFault}
use Rattle.dir_ldif.specs.declared.records.Change.{Change}
use Rattle.dir_ldif.specs.declared.faults.StreamFault.TheVariants as stream
use Rattle.dir_ldif.specs.declared.reader.RecordReader.{RecordReader}
use Rattle.dir_ldif.specs.Bytes.{is_empty}
use Rattle.dir_ldif.specs.Reader.{answers_to_come, marks_at_end, marks_passed, source_of}
use Rattle.dir_ldif.specs.Records.{Answer, Found, all_found}
use Rattle.dir_tree.specs.Dir.{Dir}
use Rattle.dir_tools.specs.declared.fault.Cause.{Cause}
use Rattle.dir_tools.specs.declared.fault.Input.TheVariants as input
use Rattle.dir_tools.specs.declared.fault.ToolFault.{ToolFault}
use Rattle.dir_tools.specs.declared.fault.ToolFault.TheVariants as tool
use Rattle.dir_tools.specs.declared.run.Run.{Run}
use Rattle.dir_tools.specs.RunOf.{Outcome, RecordStep, RunEnd, cause_in, causes_in, change_step, ended_run, group_in, looked_at_all, record_step, run_after, run_of, too_few_groups, with_outcomes_before, HasAccepted}
use Rattle.dir_tools.specs.Report.{outcome_line}
use Rattle.dir_ldif.specs.SoundRecords.{AreSoundAnswers, IsSoundFound}
use Rattle.dir_change.specs.declared.result_code.ResultCode.{ResultCode}
use Rattle.dir_change.specs.Operation.{step}
use Rattle.dir_change.specs.Runs.{accepted_or, group_of, run_to_end, with_group_first}
use Rattle.dir_tools.specs.Inside.Running.{Adds, AddsAll, BreaksOff, GoesTo, HasTooFew, IsChangesFaultCause, RunsOver, Takes, TakesRecord, changes_fault, end_at}
use Rattle.dir_tools.specs.CompleteRecords.{AcceptsTo, CompleteRecordsAreAccepted, GaveBytesTo, IsReaderFault}
use Rattle.dir_tools.specs.Inside.Taking.{BreaksAfter, EndsIn, TakesAll, TakesUpTo}
use Rattle.dir_tools.proofs.CompleteRecords.{IsReaders}
use Rattle.dir_tools.proofs.TakingLemmas.{found_then, gave_complete, takes_induct}
use Rattle.dir_tools.proofs.Small.{known}
use Rattle.dir_tools.specs.declared.taking.End.{End}
use Rattle.dir_tools.specs.declared.taking.End.TheVariants as end

flat_map_snoc : {A B : Type 0} (f : A → List B) (xs : List A) (x : A) → flat_map f (xs ++ x ∷ []) ≡ flat_map f xs ++ f x
flat_map_snoc f [] x = append-nil (f x)
flat_map_snoc f (y ∷ xs) x = ap (λ t. f y ++ t) (flat_map_snoc f xs x) ∙ sym (append_assoc (f y) (flat_map f xs) (f x))

-- ---- what a run tells

pub adds_none : {D : Type 0} (run : Run D) → AddsAll [] run run
adds_none run = (sym (append-nil run.history), sym (append-nil run.report.text.items), refl, grind (arith), grind (arith))

-- one list longer, step by step
longer : {A B : Type 0} (f : A → List B) (os : List A) (o : A) (first then_ last : List B) → then_ ≡ first ++ flat_map f os → last ≡ then_ ++ f o → last ≡ first ++ flat_map f (os ++ o ∷ [])
longer f os o first then_ last e1 e2 =
    e2 ∙ ap (λ t. t ++ f o) e1 ∙ append_assoc first (flat_map f os) (f o) ∙ ap (λ t. first ++ t) (sym (flat_map_snoc f os o))

more : {A B : Type 0} (f : A → List B) (os : List A) (o : A) (first then_ last : ℕ) → then_ ≡ first + length (flat_map f os) → last ≡ then_ + length (f o) → last ≡ first + length (flat_map f (os ++ o ∷ []))
more f os o first then_ last e1 e2 =
    let e3 : length (flat_map f (os ++ o ∷ [])) ≡ length (flat_map f os) + length (f o) = ap length (flat_map_snoc f os o) ∙ length-append (flat_map f os) (f o) in
    grind (arith)

pub adds_one : {D : Type 0} (os : List (ℕ × Outcome)) (o : ℕ × Outcome) (first between last : Run D) → AddsAll os first between → Adds o between last → AddsAll (os ++ o ∷ []) first last
adds_one os o first between last a b =
    let same : last.report.verbose ≡ first.report.verbose = b.2 ∙ a.2 in
    let line : last.report.text.items ≡ between.report.text.items ++ outcome_line first.report.verbose o = b.1 ∙ ap (λ v. between.report.text.items ++ outcome_line v o) a.2 in (
      longer group_in os o first.history between.history last.history a.0 b.0,
      longer (outcome_line first.report.verbose) os o first.report.text.items between.report.text.items last.report.text.items a.1 line,
      same,
      more group_in os o first.summary.accepted between.summary.accepted last.summary.accepted a.3 b.3,
      more cause_in os o first.summary.refused between.summary.refused last.summary.refused a.4 b.4,
    )

-- ---- where a run leads

onto_onto : (os ps : List (ℕ × Outcome)) (r : Result RunEnd StreamFault) → with_outcomes_before os (with_outcomes_before ps r) ≡ with_outcomes_before (os ++ ps) r
onto_onto os ps (Ok ran) = ap (λ t. Ok (record { end = ran.end; outcomes = t })) (sym (append_assoc os ps ran.outcomes))
onto_onto os ps (Err fault) = refl

pub onto_none : (r : Result RunEnd StreamFault) → r ≡ with_outcomes_before [] r
onto_none (Ok ran) = refl
onto_none (Err fault) = refl

-- where a record leads the run
pub goes : (rows : List TypeRow) (go_on : Bool) (d : Dir) (found : Found) (l : RecordStep) (rest : List Answer)
    → record_step rows d found.1 ≡ l
    → run_of rows go_on d (Ok found ∷ rest) ≡ run_after l found.0 (λ x. run_of rows go_on x rest) (cond go_on (run_of rows go_on d rest) (ended_run d))
goes rows go_on d found l rest is = ap (λ (l : RecordStep). run_after l found.0 (λ x. run_of rows go_on x rest) (cond go_on (run_of rows go_on d rest) (ended_run d))) is

-- ---- the answer on one record

module _ (rows : List TypeRow) (go_on : Bool) (d e : Dir) (os : List (ℕ × Outcome)) (found : Found) (rest : List Answer) where
  -- what an accepted record leads on to, and a refused one of a run that goes on
  on_accepted : (group : List Change) → record_step rows d found.1 ≡ Ok (e, group)
      → with_outcomes_before os (run_of rows go_on d (Ok found ∷ rest)) ≡ with_outcomes_before (os ++ (found.0, Ok group) ∷ []) (run_of rows go_on e rest)
  on_accepted group is = ap (with_outcomes_before os) (goes rows go_on d found (Ok (e, group)) rest is) ∙ onto_onto os ((found.0, Ok group) ∷ []) (run_of rows go_on e rest)

  on_refused : (why : Cause) → go_on ≡ true → record_step rows d found.1 ≡ Err why → e ≡ d
      → with_outcomes_before os (run_of rows go_on d (Ok found ∷ rest)) ≡ with_outcomes_before (os ++ (found.0, Err why) ∷ []) (run_of rows go_on e rest)
  on_refused why on is same =
      ap (with_outcomes_before os) (goes rows go_on d found (Err why) rest is) ∙ onto_onto os ((found.0, Err why) ∷ []) _
      ∙ ap (λ (b : Bool). with_outcomes_before (os ++ (found.0, Err why) ∷ []) (cond b (run_of rows go_on d rest) (ended_run d))) on
      ∙ ap (λ x. with_outcomes_before (os ++ (found.0, Err why) ∷ []) (run_of rows go_on x rest)) (sym same)

  -- where a run ends
  on_stopped : (why : Cause) → go_on ≡ false → record_step rows d found.1 ≡ Err why → e ≡ d
      → with_outcomes_before os (run_of rows go_on d (Ok found ∷ rest)) ≡ Ok (record { end = e; outcomes = os ++ (found.0, Err why) ∷ [] })
  on_stopped why off is same =
      ap (with_outcomes_before os) (goes rows go_on d found (Err why) rest is) ∙ onto_onto os ((found.0, Err why) ∷ []) _
      ∙ ap (λ (b : Bool). with_outcomes_before (os ++ (found.0, Err why) ∷ []) (cond b (run_of rows go_on d rest) (ended_run d))) off
      ∙ ap (λ t. Ok (record { end = d; outcomes = t })) (append-nil (os ++ (found.0, Err why) ∷ []))
      ∙ ap (λ x. Ok (record { end = x; outcomes = os ++ (found.0, Err why) ∷ [] })) (sym same)

-- ---- the accepted changes alone

pub goes_on_step : (rows : List TypeRow) (d : Dir) (c : Change) (cs : List Change) (r : Result Dir ResultCode) → step rows d c ≡ r
    → run_to_end rows d (c ∷ cs) ≡ accepted_or r (λ e. with_group_first (group_of rows d e c) (run_to_end rows e cs)) (run_to_end rows d cs)
goes_on_step rows d c cs r is = ap (λ z. accepted_or z (λ e. with_group_first (group_of rows d e c) (run_to_end rows e cs)) (run_to_end rows d cs)) is

pub one_further : (rows : List TypeRow) (d e : Dir) (c : Change) → step rows d c ≡ Ok e
    → run_to_end rows d (c ∷ []) ≡ record { end = e; groups = group_of rows d e c ∷ [] }
one_further rows d e c is = goes_on_step rows d c [] (Ok e) is

pub accepted_none : (rows : List TypeRow) (d : Dir) → HasAccepted rows d [] d
accepted_none rows d = ([], tt, refl)

pub accepted_step : (rows : List TypeRow) (d e : Dir) (change : Change) (r : Result Dir ResultCode) (group : List Change) → change_step rows d change r ≡ Ok (e, group) → (r ≡ Ok e) × (group_of rows d e change ≡ group)
accepted_step rows d e change (Ok f) group is =
    let pair : (f, group_of rows d f change) ≡ (e, group) = cc in
    let there : f ≡ e = ap (λ (p : Dir × List Change). p.0) pair in
    let made : group_of rows d f change ≡ group = ap (λ (p : Dir × List Change). p.1) pair in
    (ap Ok there, subst (λ z. group_of rows d z change ≡ group) there made)
accepted_step rows d e change (Err code) group is = absurd (cc)

-- ---- over the records that are taken

-- whether a run has looked at each record
any_true : (b : Bool) → (b || true) ≡ true
any_true true = refl
any_true false = refl

none_refused : (os : List (ℕ × Outcome)) (line : ℕ) (group : List Change) → causes_in (os ++ (line, Ok group) ∷ []) ≡ causes_in os
none_refused os line group = flat_map_snoc cause_in os (line, Ok group) ∙ append-nil (causes_in os)

not_empty : {A : Type 0} (xs : List A) (x : A) → is_empty (xs ++ x ∷ []) ≡ false
not_empty [] x = refl
not_empty (y ∷ xs) x = refl

one_refused : (os : List (ℕ × Outcome)) (line : ℕ) (why : Cause) → is_empty (causes_in (os ++ (line, Err why) ∷ [])) ≡ false
one_refused os line why = ap is_empty (flat_map_snoc cause_in os (line, Err why)) ∙ not_empty (causes_in os) why

sound_more : (rows : List TypeRow) (founds : List Found) (found : Found) → AreSoundAnswers rows (all_found founds) → IsSoundFound rows found → AreSoundAnswers rows (all_found (founds ++ found ∷ []))
sound_more rows [] found h k = (k, tt)
sound_more rows (f ∷ founds) found h k = (h.0, sound_more rows founds found h.1 k)

-- groups that are enough where the marks are known, and where the run hasn't come to the end
few_known : (last marks : Option ℕ) (n : ℕ) → IfSome marks (λ m. n ≡ m) → too_few_groups last (Some n) true ≡ None → too_few_groups last marks true ≡ None
few_known None marks n same enough = refl
few_known (Some wanted) None n same enough = refl
few_known (Some wanted) (Some m) n same enough = ap (λ k. too_few_groups (Some wanted) (Some k) true) (sym same) ∙ enough

before_end : (last marks : Option ℕ) → too_few_groups last marks false ≡ None
before_end None marks = refl
before_end (Some wanted) None = refl
before_end (Some wanted) (Some marks) = refl

module _ {D : Type 0} (state : D → Dir) (rows : List TypeRow) (begun : Run D) where
  -- the run so far: outcomes were told of sound records, what follows these is to be run from here, and the run goes on after each that was refused
  abbrev RunsSoFar : List Found → Run D → Type 0
  RunsSoFar founds run =
      (outcomes : List (ℕ × Outcome)) × AddsAll outcomes begun run × AreSoundAnswers rows (all_found founds) × (run.options ≡ begun.options)
      × ((rest : List Answer)
      → run_of rows begun.options.go_on (state begun.directory) (all_found founds ++ rest) ≡ with_outcomes_before outcomes (run_of rows begun.options.go_on (state run.directory) rest))
      × ((begun.options.go_on || is_empty (causes_in outcomes)) ≡ true)

  runs_begun : RunsSoFar [] begun
  runs_begun = ([], adds_none begun, tt, refl, (λ rest. onto_none (run_of rows begun.options.go_on (state begun.directory) rest)), any_true begun.options.go_on)

  runs_further : (founds : List Found) (found : Found) (run next : Run D) → IsSoundFound rows found → TakesRecord state rows found run (Ok true) next → RunsSoFar founds run → RunsSoFar (founds ++ found ∷ []) next
  runs_further founds found run next sound gives was = by gives.1 gives.2 gives.3
    where
      by : (is_accepted : Bool) → Takes is_accepted state rows found.0 found.1 run next → true ≡ (is_accepted || run.options.go_on) → RunsSoFar (founds ++ found ∷ []) next
      by true takes wants = (
        was.0 ++ (found.0, Ok takes.0) ∷ [],
        adds_one was.0 (found.0, Ok takes.0) begun run next was.1 takes.2,
        sound_more rows founds found was.2 sound,
        gives.0 ∙ was.3,
        (λ rest. ap (run_of rows begun.options.go_on (state begun.directory)) (found_then founds found rest) ∙ was.4 (Ok found ∷ rest)
            ∙ on_accepted rows begun.options.go_on (state run.directory) (state next.directory) was.0 found rest takes.0 takes.1),
        ap (λ cs. begun.options.go_on || is_empty cs) (none_refused was.0 found.0 takes.0) ∙ was.5,
      )
      by false takes wants =
          let on : begun.options.go_on ≡ true = sym (ap (λ o. o.go_on) was.3) ∙ sym wants in (
            was.0 ++ (found.0, Err takes.0) ∷ [],
            adds_one was.0 (found.0, Err takes.0) begun run next was.1 takes.3,
            sound_more rows founds found was.2 sound,
            gives.0 ∙ was.3,
            (λ rest. ap (run_of rows begun.options.go_on (state begun.directory)) (found_then founds found rest) ∙ was.4 (Ok found ∷ rest)
                ∙ on_refused rows begun.options.go_on (state run.directory) (state next.directory) was.0 found rest takes.0 on takes.1 takes.2),
            ap (λ b. b || is_empty (causes_in (was.0 ++ (found.0, Err takes.0) ∷ []))) on,
          )

  runs_all : (founds : List Found) (run : Run D) → TakesAll rows (TakesRecord state rows) founds begun run → RunsSoFar founds run
  runs_all founds run takes = takes_induct rows (TakesRecord state rows) RunsSoFar runs_further founds begun run takes runs_begun

  same_options : (founds : List Found) (run : Run D) → TakesAll rows (TakesRecord state rows) founds begun run → run.options ≡ begun.options
  same_options founds run takes = (runs_all founds run takes).3

  goes_to_end : (founds : List Found) (run : Run D) (was : RunsSoFar founds run) → GoesTo state rows begun (all_found founds) (end_at state run was.0)
  goes_to_end founds run was =
      ap (run_of rows begun.options.go_on (state begun.directory)) (sym (append-nil (all_found founds))) ∙ was.4 [] ∙ ap (λ t. Ok (record { end = state run.directory; outcomes = t })) (append-nil was.0)

  -- the run ends at the end of the text
  runs_out : (founds : List Found) (first : Option (List Answer)) (marks : Option ℕ) (run : Run D) → TakesAll rows (TakesRecord state rows) founds begun run → IfSome first (λ known. known ≡ all_found founds)
      → too_few_groups begun.options.last marks true ≡ None → RunsOver state rows first marks begun run
  runs_out founds first marks run takes given enough =
      let was = runs_all founds run takes in (
        was.0,
        founds,
        was.1,
        was.2,
        goes_to_end founds run was,
        known first (λ answers is. ([], is ∙ sym (append-nil (all_found founds)), ap (run_of rows begun.options.go_on (state begun.directory)) is ∙ goes_to_end founds run was)) given,
        ap (too_few_groups begun.options.last marks) was.5 ∙ enough,
      )

  -- or the text has too few groups
  runs_short : (founds : List Found) (first : Option (List Answer)) (marks : Option ℕ) (run : Run D) (groups wanted : ℕ) → TakesAll rows (TakesRecord state rows) founds begun run → IfSome first (λ known. known ≡ all_found founds)
      → IfSome marks (λ n. groups ≡ n) → begun.options.last ≡ Some wanted → groups < wanted → HasTooFew state rows first marks begun groups
  runs_short founds first marks run groups wanted takes given counted is fewer =
      let was = runs_all founds run takes in (
        wanted,
        is,
        fewer,
        counted,
        known first (λ answers same. (end_at state run was.0, founds, same, ap (run_of rows begun.options.go_on (state begun.directory)) same ∙ goes_to_end founds run was, was.5)) given,
      )

  -- it ends at a refused record
  runs_stopped : (first : Option (List Answer)) (marks : Option ℕ) (next : Run D) → TakesUpTo rows (TakesRecord state rows) (Ok false) first begun next → RunsOver state rows first marks begun next
  runs_stopped first marks next upto = by upto.4.1 upto.4.2 upto.4.3
    where
      by : (is_accepted : Bool) → Takes is_accepted state rows upto.1.0 upto.1.1 upto.2 next → false ≡ (is_accepted || upto.2.options.go_on) → RunsOver state rows first marks begun next
      by true takes wants = absurd (cc)
      by false takes wants =
          let was = runs_all upto.0 upto.2 upto.3 in
          let off : begun.options.go_on ≡ false = sym (ap (λ o. o.go_on) was.3) ∙ sym wants in
          let outcomes : List (ℕ × Outcome) = was.0 ++ (upto.1.0, Err takes.0) ∷ [] in
          let stops : (rest : List Answer) → run_of rows begun.options.go_on (state begun.directory) (all_found upto.0 ++ Ok upto.1 ∷ rest) ≡ Ok (end_at state next outcomes) =
          (λ rest. was.4 (Ok upto.1 ∷ rest) ∙ on_stopped rows begun.options.go_on (state upto.2.directory) (state next.directory) was.0 upto.1 rest takes.0 off takes.1 takes.2) in
          let alone : GoesTo state rows begun (all_found (upto.0 ++ upto.1 ∷ [])) (end_at state next outcomes) =
          ap (run_of rows begun.options.go_on (state begun.directory)) (sym (append-nil (all_found (upto.0 ++ upto.1 ∷ []))) ∙ found_then upto.0 upto.1 []) ∙ stops [] in
          let stays : looked_at_all begun.options.go_on (end_at state next outcomes) ≡ false = ap (λ b. b || is_empty (causes_in outcomes)) off ∙ one_refused was.0 upto.1.0 takes.0 in (
            outcomes,
            upto.0 ++ upto.1 ∷ [],
            adds_one was.0 (upto.1.0, Err takes.0) begun upto.2 next was.1 takes.3,
            sound_more rows upto.0 upto.1 was.2 upto.5,
            alone,
            known first (λ answers given. (given.0, given.1 ∙ sym (found_then upto.0 upto.1 given.0), ap (run_of rows begun.options.go_on (state begun.directory)) given.1 ∙ stops given.0)) upto.6,
            ap (too_few_groups begun.options.last marks) stays ∙ before_end begun.options.last marks,
          )

  -- it comes to the fault of the text
  runs_faulty : (founds : List Found) (fault : StreamFault) (first : Option (List Answer)) (run : Run D) → TakesAll rows (TakesRecord state rows) founds begun run
      → IfSome first (λ known. known ≡ all_found founds ++ Err fault ∷ []) → BreaksOff state rows first begun fault
  runs_faulty founds fault first run takes given =
      let was = runs_all founds run takes in known first (λ answers is. ap (run_of rows begun.options.go_on (state begun.directory)) is ∙ was.4 (Err fault ∷ [])) given

-- a run ends at the end of the text, or at a refused record; or the text has too few groups
module _ {D : Type 0} {S : Type 0} (state : D → Dir) (rows : List TypeRow) (left : S → Option (List ℕ)) (failures : S → ℕ) (begun run : Run D) (first last : RecordReader S) where
  pub run_to_end_of_text : EndsIn rows (TakesRecord state rows) left failures end.AtEnd begun run first last → too_few_groups begun.options.last (Some (marks_passed last)) true ≡ None
      → RunsOver state rows (answers_to_come left first) (marks_at_end left first) begun run
  run_to_end_of_text ends enough =
      runs_out state rows begun ends.1.0 (answers_to_come left first) (marks_at_end left first) run ends.1.1 ends.1.2 (few_known begun.options.last (marks_at_end left first) (marks_passed last) ends.2 enough)

  pub run_too_short : EndsIn rows (TakesRecord state rows) left failures end.AtEnd begun run first last → (wanted : ℕ) → begun.options.last ≡ Some wanted → marks_passed last < wanted
      → HasTooFew state rows (answers_to_come left first) (marks_at_end left first) begun (marks_passed last)
  run_too_short ends wanted is fewer = runs_short state rows begun ends.1.0 (answers_to_come left first) (marks_at_end left first) run (marks_passed last) wanted ends.1.1 ends.1.2 ends.2 is fewer

  pub run_stopped : EndsIn rows (TakesRecord state rows) left failures end.Enough begun run first last → RunsOver state rows (answers_to_come left first) (marks_at_end left first) begun run
  run_stopped ends = runs_stopped state rows begun (answers_to_come left first) (marks_at_end left first) run ends.1

pub options_stay : {D : Type 0} {S : Type 0} (state : D → Dir) (rows : List TypeRow) (left : S → Option (List ℕ)) (failures : S → ℕ) (ended : End) (begun run : Run D) (first last : RecordReader S)
    → EndsIn rows (TakesRecord state rows) left failures ended begun run first last → run.options ≡ begun.options
options_stay state rows left failures end.AtEnd begun run first last ends = same_options state rows begun ends.1.0 run ends.1.1
options_stay state rows left failures end.Enough begun run first last ends = ends.1.4.0 ∙ same_options state rows begun ends.1.0 ends.1.2 ends.1.3
options_stay state rows left failures (end.TextFault fault) begun run first last ends = same_options state rows begun ends.0 run ends.1
options_stay state rows left failures (end.TakeFault fault) begun run first last ends = ends.4.0 ∙ same_options state rows begun ends.0 ends.2 ends.3

-- where a run stops at the first refused record, each of those that were taken is accepted
accepts_all : {D : Type 0} (state : D → Dir) (rows : List TypeRow) (founds : List Found) (run next : Run D) → run.options.go_on ≡ false → TakesAll rows (TakesRecord state rows) founds run next
    → AcceptsTo rows (state run.directory) founds (state next.directory)
accepts_all state rows [] run next off takes = ap (λ r. state r.directory) takes
accepts_all state rows (found ∷ founds) run next off takes = by takes.2.1 takes.2.2 takes.2.3 (accepts_all state rows founds takes.0 next (ap (λ o. o.go_on) takes.2.0 ∙ off) takes.3)
  where
    by : (is_accepted : Bool) → Takes is_accepted state rows found.0 found.1 run takes.0 → true ≡ (is_accepted || run.options.go_on) → AcceptsTo rows (state takes.0.directory) founds (state next.directory)
        → AcceptsTo rows (state run.directory) (found ∷ founds) (state next.directory)
    by true t wants later = (state takes.0.directory, t.0, t.1, later)
    by false t wants later = absurd (cc)

of_changes : (fault : StreamFault) → IsReaderFault (changes_fault fault) → IsReaders fault
of_changes stream.Read is = tt
of_changes stream.TooManyTurns is = tt
of_changes stream.LineTooLong is = absurd (is)
of_changes stream.Memory is = absurd (is)
of_changes stream.Ended is = absurd (is)
of_changes stream.BadVersion is = absurd (is)
of_changes stream.BadMark is = absurd (is)

-- the fault of a reader
module _ {D : Type 0} {S : Type 0} (state : D → Dir) (rows : List TypeRow) (left : S → Option (List ℕ)) (failures : S → ℕ) (founds : List Found) (begun run : Run D) (first last : RecordReader S) where
  pub runs_blamed : (fault : StreamFault) → TakesAll rows (TakesRecord state rows) founds begun run → BreaksAfter rows (TakesRecord state rows) left failures founds fault begun first last
      → IsChangesFaultCause state rows (answers_to_come left first) (marks_at_end left first) (failures (source_of first)) (failures (source_of last)) begun (changes_fault fault)
  runs_blamed stream.LineTooLong takes breaks = runs_faulty state rows begun founds stream.LineTooLong (answers_to_come left first) run takes breaks
  runs_blamed stream.BadVersion takes breaks = runs_faulty state rows begun founds stream.BadVersion (answers_to_come left first) run takes breaks
  runs_blamed stream.BadMark takes breaks = runs_faulty state rows begun founds stream.BadMark (answers_to_come left first) run takes breaks
  runs_blamed stream.Read takes breaks = breaks.0
  runs_blamed stream.Memory takes breaks = tt
  runs_blamed stream.TooManyTurns takes breaks = tt
  runs_blamed stream.Ended takes breaks = absurd (breaks)

  pub runs_settled : (fault : StreamFault) → BreaksAfter rows (TakesRecord state rows) left failures founds fault begun first last → IsReaderFault (changes_fault fault) → begun.options.go_on ≡ false
      → GaveBytesTo left first last (CompleteRecordsAreAccepted rows (state begun.directory))
  runs_settled fault breaks is off =
      let gave = gave_complete rows (TakesRecord state rows) left failures founds fault begun first last (of_changes fault is) breaks in (
        gave.0,
        gave.1,
        λ settled settles. let taken = gave.2 settled settles in (state taken.0.directory, accepts_all state rows settled begun taken.0 off taken.1),
      )

-- ---- where the answers and the marks are told in other words

few_as : (last marks marks' : Option ℕ) (at_end : Bool) → ((wanted : ℕ) → last ≡ Some wanted → marks ≡ marks') → too_few_groups last marks at_end ≡ None → too_few_groups last marks' at_end ≡ None
few_as None marks marks' at_end same h = refl
few_as (Some wanted) marks marks' at_end same h = subst (λ m. too_few_groups (Some wanted) m at_end ≡ None) (same wanted refl) h

module _ {D : Type 0} (state : D → Dir) (rows : List TypeRow) (given given' : Option (List Answer)) (marks marks' : Option ℕ) (begun : Run D) (same : given ≡ given')
    (marked : (wanted : ℕ) → begun.options.last ≡ Some wanted → marks ≡ marks') where
  pub runs_over_as : (run : Run D) → RunsOver state rows given marks begun run → RunsOver state rows given' marks' begun run
  runs_over_as run over = (
    over.0,
    over.1,
    over.2,
    over.3,
    over.4,
    subst (λ (o : Option (List Answer)). IfSome o (λ answers. (rest : List Answer) × (answers ≡ all_found over.1 ++ rest) × GoesTo state rows begun answers (end_at state run over.0))) same over.5,
    few_as begun.options.last marks marks' (looked_at_all begun.options.go_on (end_at state run over.0)) marked over.6,
  )

  marks_as : (failures failures' : ℕ) (fault : ToolFault) → IsChangesFaultCause state rows given' marks failures failures' begun fault → IsChangesFaultCause state rows given' marks' failures failures' begun fault
  marks_as failures failures' (tool.TooFewGroups groups) h = (h.0, h.1, h.2, subst (λ (o : Option ℕ). IfSome o (λ n. groups ≡ n)) (marked h.0 h.1) h.3, h.4)
  marks_as failures failures' (tool.BadChanges stream.LineTooLong) h = h
  marks_as failures failures' (tool.BadChanges stream.BadVersion) h = h
  marks_as failures failures' (tool.BadChanges stream.BadMark) h = h
  marks_as failures failures' (tool.BadChanges stream.TooManyTurns) h = h
  marks_as failures failures' (tool.BadChanges stream.Read) h = h
  marks_as failures failures' (tool.BadChanges stream.Memory) h = h
  marks_as failures failures' (tool.BadChanges stream.Ended) h = h
  marks_as failures failures' (tool.Read input.Changes) h = h
  marks_as failures failures' (tool.Read input.Copy) h = h
  marks_as failures failures' (tool.Read input.Config) h = h
  marks_as failures failures' tool.Memory h = h
  marks_as failures failures' (tool.BadCopy line why) h = h
  marks_as failures failures' (tool.Write output) h = h
  marks_as failures failures' (tool.BadQuestion item) h = h
  marks_as failures failures' (tool.Config fault) h = h
  marks_as failures failures' tool.NoEntry h = h

  pub blamed_as : (failures failures' : ℕ) (fault : ToolFault) → IsChangesFaultCause state rows given marks failures failures' begun fault → IsChangesFaultCause state rows given' marks' failures failures' begun fault
  blamed_as failures failures' fault h = marks_as failures failures' fault (subst (λ (o : Option (List Answer)). IsChangesFaultCause state rows o marks failures failures' begun fault) same h)
