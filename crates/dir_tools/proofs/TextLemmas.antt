-- What a run makes, in the words of its definition.
use Rattle.std.proofs.Common.{◌≡◌, ℕ, ◌+◌, ◌-◌, ◌<◌, ◌≤◌, ◌^◌, nat_lt, Bool, true, false, List, ◌++◌, length, take, Option, None, Some, IfSome, Result, Ok, Err, refl, sym, ap, subst, ◌∙◌, arith}
use Rattle.std.proofs.lemmas.Bool.Decides.{nat_tests}
use Rattle.std.proofs.lemmas.List.{take-append-le}
use Rattle.std.specs.List.{flat_map}
use Rattle.std.specs.Option.{option_and_then, option_map}
use Rattle.dir_names.specs.declared.schema.TypeRow.{TypeRow}
use Rattle.dir_ldif.specs.declared.faults.StreamFault.{StreamFault}
use Rattle.dir_ldif.specs.declared.faults.StreamFault.TheVariants as stream
use Rattle.dir_ldif.specs.MarkedGroups.{MarksAreKnown}
use Rattle.dir_ldif.specs.Records.{Answer, Found, all_found}
use Rattle.dir_tree.specs.Dir.{Dir}
use Rattle.dir_change.specs.UndoText.{undo_text_of}
use Rattle.dir_tools.specs.declared.fault.Cause.{Cause}
use Rattle.dir_tools.specs.declared.fault.Cause.TheVariants as cause
use Rattle.dir_tools.specs.declared.fault.Input.TheVariants as input
use Rattle.dir_tools.specs.declared.fault.Item.TheVariants as item
use Rattle.dir_tools.specs.declared.fault.Output.TheVariants as to
use Rattle.dir_tools.specs.declared.fault.ToolFault.{ToolFault}
use Rattle.dir_tools.specs.declared.fault.ToolFault.TheVariants as tool
use Rattle.dir_tools.specs.declared.run.Files.{Files}
use Rattle.dir_tools.specs.declared.run.ModifyOptions.{ModifyOptions}
use Rattle.dir_tools.specs.declared.run.RunTexts.{RunTexts}
use Rattle.dir_tools.specs.declared.run.Run.{Run}
use Rattle.dir_tools.specs.Headline.{RunTerms, RunOutput, WasThere, output_at, output_of, records_in, too_few_in}
use Rattle.dir_tools.specs.Laws.{GroupsAreUndos, WrittenRunsAreTakenBack, WrittenRunsGoBack}
use Rattle.dir_tools.specs.RunAnswers.{AnswersRun, AreBadChanges, AreTooFewGroups, IsBadText, IsCausedBy, IsStatedRun, IsWholeRun, LeadsBackBy, RunsTo, Sources, sources}
use Rattle.dir_tools.specs.StoppedReading.{HeldBefore, KnownBytes}
use Rattle.dir_tools.specs.Suffix.{suffix_of}
use Rattle.dir_tools.proofs.WholeRuns.{bad_changes, bad_copy, bad_suffix, gives_back_by, gives_whole_back, too_few, whole_run}
use Rattle.dir_tools.proofs.AcceptedRuns.{runs_accept}
use Rattle.dir_tools.proofs.CutRuns.{Cut, leads_back, point, to_come}
use Rattle.dir_tools.specs.CopyOf.{copy_of, empty_copy}
use Rattle.dir_tools.specs.CompleteRecords.{CompleteRecordsAreAccepted, CompleteRecordsLoad, GaveBytes, IsReaderFault, answers_after, changes_after}
use Rattle.dir_tools.specs.CopyFaults.{HasNoEntries, IsCopyFaultCause}
use Rattle.dir_tree.specs.WellFormed.{IsWellFormed, IsWithinLimits}
use Rattle.dir_names.specs.Keys.{DnKeys}
use Rattle.dir_tools.specs.RunOf.{HasAccepted, RunEnd, causes_in, groups_in, looked_at_all, marks_at, records_at, run_of, too_few_groups}
use Rattle.dir_tools.specs.Report.{numbers_line, outcome_line}
use Rattle.dir_tools.specs.Inside.RunTexts.{AreFiles, AreTexts, is_dry, texts_of}
use Rattle.dir_tools.specs.Inside.Running.{AreFilesOfRun, AreTextsOfRun, BreaksOff, HasTakenNone, HasTooFew, IsChangesFaultCause, RunsOver}
use Rattle.dir_tools.specs.ReadCalls.{FillsReadCalls}
use Rattle.dir_tools.proofs.Small.{known}
use Rattle.dir_tools.specs.Writing.{IsWriteFault, TakenBytes, Texts, WroteInOrder}

-- of the text, what is known of its records
of_text : {A B : Type 0} (f : A → B) (P : B → Type 0) (left : Option A) → IfSome (option_map f left) P → IfSome left (λ t. P (f t))
of_text f P None h = tt
of_text f P (Some t) h = h

-- the directory that was read, where the run begins
pub read_so : (rows : List TypeRow) (copy : Option (List ℕ)) (suffix : DnKeys) (d begun : Dir) → d.suffix ≡ suffix → begun ≡ d
    → IfSome copy (λ text. copy_of rows suffix text ≡ Ok d) → IfSome copy (λ text. copy_of rows begun.suffix text ≡ Ok begun)
read_so rows copy suffix d begun same is h =
    subst (λ (z : Dir). IfSome copy (λ text. copy_of rows z.suffix text ≡ Ok z)) (sym is) (subst (λ k. IfSome copy (λ text. copy_of rows k text ≡ Ok d)) (sym same) h)

-- a copy's fault, as a fault of the copy's text
pub copy_blamed_so : (q : RunTerms) (copy left : Option (List ℕ)) (empty : Dir) (failures failures' : ℕ) (fault : ToolFault)
    → suffix_of q.rows q.suffix ≡ Some empty.suffix → HasNoEntries empty → IsCopyFaultCause q.rows empty copy failures failures' fault → IsCausedBy q (sources copy left) fault
copy_blamed_so q copy left empty failures failures' (tool.BadCopy line why) key bare h = (empty.suffix, key, h bare)
copy_blamed_so q copy left empty failures failures' (tool.Read input.Copy) key bare h = tt
copy_blamed_so q copy left empty failures failures' (tool.Read input.Changes) key bare h = absurd (h)
copy_blamed_so q copy left empty failures failures' (tool.Read input.Config) key bare h = absurd (h)
copy_blamed_so q copy left empty failures failures' tool.Memory key bare h = tt
copy_blamed_so q copy left empty failures failures' (tool.Write output) key bare h = absurd (h)
copy_blamed_so q copy left empty failures failures' (tool.BadQuestion item) key bare h = absurd (h)
copy_blamed_so q copy left empty failures failures' (tool.BadChanges fault) key bare h = absurd (h)
copy_blamed_so q copy left empty failures failures' (tool.Config fault) key bare h = absurd (h)
copy_blamed_so q copy left empty failures failures' tool.NoEntry key bare h = absurd (h)
copy_blamed_so q copy left empty failures failures' (tool.TooFewGroups groups) key bare h = absurd (h)

-- the complete records before the fault of a copy's reader
pub copy_first : (q : RunTerms) (copy copy' : Option (List ℕ)) (changes : KnownBytes) (empty : Dir) (failures failures' : ℕ) (fault : ToolFault)
    → suffix_of q.rows q.suffix ≡ Some empty.suffix → IsCopyFaultCause q.rows empty copy failures failures' fault
    → (IsReaderFault fault → GaveBytes copy copy' (λ bytes. CompleteRecordsLoad q.rows (empty_copy empty.suffix) (answers_after q.rows bytes)))
    → HeldBefore q (copy, copy') changes fault
copy_first q copy copy' changes empty failures failures' (tool.Read input.Copy) key h settled = (empty.suffix, key, settled tt)
copy_first q copy copy' changes empty failures failures' (tool.Read input.Changes) key h settled = absurd (h)
copy_first q copy copy' changes empty failures failures' (tool.Read input.Config) key h settled = absurd (h)
copy_first q copy copy' changes empty failures failures' (tool.BadCopy line (cause.Code code)) key h settled = tt
copy_first q copy copy' changes empty failures failures' (tool.BadCopy line (cause.Fault fault)) key h settled = tt
copy_first q copy copy' changes empty failures failures' (tool.BadCopy line (cause.Ended stream.TooManyTurns)) key h settled = (empty.suffix, key, settled tt)
copy_first q copy copy' changes empty failures failures' (tool.BadCopy line (cause.Ended stream.LineTooLong)) key h settled = tt
copy_first q copy copy' changes empty failures failures' (tool.BadCopy line (cause.Ended stream.Read)) key h settled = tt
copy_first q copy copy' changes empty failures failures' (tool.BadCopy line (cause.Ended stream.Memory)) key h settled = tt
copy_first q copy copy' changes empty failures failures' (tool.BadCopy line (cause.Ended stream.Ended)) key h settled = tt
copy_first q copy copy' changes empty failures failures' (tool.BadCopy line (cause.Ended stream.BadVersion)) key h settled = tt
copy_first q copy copy' changes empty failures failures' (tool.BadCopy line (cause.Ended stream.BadMark)) key h settled = tt
copy_first q copy copy' changes empty failures failures' tool.Memory key h settled = tt
copy_first q copy copy' changes empty failures failures' (tool.Write output) key h settled = absurd (h)
copy_first q copy copy' changes empty failures failures' (tool.BadQuestion item) key h settled = absurd (h)
copy_first q copy copy' changes empty failures failures' (tool.BadChanges fault) key h settled = absurd (h)
copy_first q copy copy' changes empty failures failures' (tool.Config fault) key h settled = absurd (h)
copy_first q copy copy' changes empty failures failures' tool.NoEntry key h settled = absurd (h)
copy_first q copy copy' changes empty failures failures' (tool.TooFewGroups groups) key h settled = absurd (h)

-- what is known of a text of changes that has too few groups
few_there : MarksAreKnown → (rows : List TypeRow) (go_on : Bool) (last : Option ℕ) (d : Dir) (text : List ℕ) (groups wanted : ℕ) → last ≡ Some wanted → groups < wanted → IfSome (marks_at last text) (λ n. groups ≡ n)
    → ((ran : RunEnd) × (founds : List Found) × (records_at rows last text ≡ all_found founds) × (run_of rows go_on d (records_at rows last text) ≡ Ok ran) × (looked_at_all go_on ran ≡ true))
    → (ran : RunEnd) × (run_of rows go_on d (records_at rows last text) ≡ Ok ran) × (too_few_groups last (marks_at last text) (looked_at_all go_on ran) ≡ Some groups)
few_there law rows go_on None d text groups wanted is fewer counted had = absurd (cc)
few_there law rows go_on (Some w) d text groups wanted is fewer counted had =
    let marks = law rows w text had.1 had.2 in
    let same : w ≡ wanted = cc in
    let there : groups ≡ marks.0 = subst (λ (o : Option ℕ). IfSome o (λ n. groups ≡ n)) marks.1 counted in
    let less : groups < w = subst (λ n. groups < n) (sym same) fewer in (
      had.0,
      had.3,
      ap (λ m. too_few_groups (Some w) m (looked_at_all go_on had.0)) (marks.1 ∙ ap Some (sym there)) ∙ ap (too_few_groups (Some w) (Some groups)) had.4 ∙ few_is groups w less,
    )
  where
    few_is : (n k : ℕ) → n < k → too_few_groups (Some k) (Some n) true ≡ Some n
    few_is n k less = let is_less : nat_lt n k ≡ true = grind (arith, nat_tests) in rw (is_less) refl

module _ {D : Type 0} (state : D → Dir) (q : RunTerms) (copy left : Option (List ℕ)) (begun : Run D)
    (reads : IfSome copy (λ text. copy_of q.rows (state begun.directory).suffix text ≡ Ok (state begun.directory))) where
  -- the answers on the text of changes, and its marks
  abbrev given_by : ModifyOptions → Option (List Answer)
  given_by o = option_map (records_at q.rows o.last) left

  abbrev marked_by : ModifyOptions → Option ℕ
  marked_by o = option_and_then (marks_at o.last) left

  bad : (fault : StreamFault) → ((text : List ℕ) → run_of q.rows q.options.go_on (state begun.directory) (records_in q text) ≡ Err fault → IsBadText q (state begun.directory) text fault)
      → begun.options ≡ q.options → suffix_of q.rows q.suffix ≡ Some (state begun.directory).suffix → BreaksOff state q.rows (given_by begun.options) begun fault → AreBadChanges q (sources copy left) fault
  bad fault so same key h = record {
    first = state begun.directory;
    suffix = key;
    copy = reads;
    changes = known left so
        (of_text (records_in q) (λ answers. run_of q.rows q.options.go_on (state begun.directory) answers ≡ Err fault) left
        (subst (λ (o : ModifyOptions). IfSome (given_by o) (λ answers. run_of q.rows o.go_on (state begun.directory) answers ≡ Err fault)) same h));
  }

  -- what is known of a text that has too few groups, under these options
  abbrev Short : ℕ → ℕ → ModifyOptions → Option (List ℕ) → Type 0
  Short groups wanted o text =
      (o.last ≡ Some wanted) × IfSome (option_and_then (marks_at o.last) text) (λ n. groups ≡ n)
      × IfSome (option_map (records_at q.rows o.last) text) (λ answers. (ran : RunEnd) × (founds : List Found) × (answers ≡ all_found founds)
      × (run_of q.rows o.go_on (state begun.directory) answers ≡ Ok ran) × (looked_at_all o.go_on ran ≡ true))

  short_so : MarksAreKnown → (groups wanted : ℕ) → groups < wanted → (text : Option (List ℕ)) → Short groups wanted q.options text
      → IfSome text (λ t. (ran : RunEnd) × (run_of q.rows q.options.go_on (state begun.directory) (records_in q t) ≡ Ok ran) × (too_few_in q t ran ≡ Some groups))
  short_so law groups wanted fewer None s = tt
  short_so law groups wanted fewer (Some t) s = few_there law q.rows q.options.go_on q.options.last (state begun.directory) t groups wanted s.0 fewer s.1 s.2

  too_short : MarksAreKnown → (groups : ℕ) → begun.options ≡ q.options → suffix_of q.rows q.suffix ≡ Some (state begun.directory).suffix → HasTooFew state q.rows (given_by begun.options) (marked_by begun.options) begun groups
      → AreTooFewGroups q (sources copy left) groups
  too_short law groups same key h = record {
    first = state begun.directory;
    wanted = h.0;
    last = ap (λ (o : ModifyOptions). o.last) (sym same) ∙ h.1;
    fewer = h.2;
    suffix = key;
    copy = reads;
    changes = short_so law groups h.0 h.2 left (subst (λ (o : ModifyOptions). Short groups h.0 o left) same (h.1, h.3, h.4));
  }

  -- a run's fault, as a fault of the text of changes
  pub blamed_so : MarksAreKnown → (failures failures' : ℕ) (fault : ToolFault) → begun.options ≡ q.options → suffix_of q.rows q.suffix ≡ Some (state begun.directory).suffix
      → (fault ≡ tool.BadChanges stream.TooManyTurns → IfSome left FillsReadCalls)
      → IsChangesFaultCause state q.rows (given_by begun.options) (marked_by begun.options) failures failures' begun fault → IsCausedBy q (sources copy left) fault
  blamed_so law failures failures' (tool.BadChanges stream.LineTooLong) same key long h = bad stream.LineTooLong (λ text e. e) same key h
  blamed_so law failures failures' (tool.BadChanges stream.BadVersion) same key long h = bad stream.BadVersion (λ text e. e) same key h
  blamed_so law failures failures' (tool.BadChanges stream.BadMark) same key long h = bad stream.BadMark (λ text e. e) same key h
  blamed_so law failures failures' (tool.BadChanges stream.TooManyTurns) same key long h = record { first = state begun.directory; suffix = key; copy = reads; changes = long refl }
  blamed_so law failures failures' (tool.BadChanges stream.Read) same key long h = absurd (h)
  blamed_so law failures failures' (tool.BadChanges stream.Memory) same key long h = absurd (h)
  blamed_so law failures failures' (tool.BadChanges stream.Ended) same key long h = absurd (h)
  blamed_so law failures failures' (tool.Config fault) same key long h = absurd (h)
  blamed_so law failures failures' tool.NoEntry same key long h = absurd (h)
  blamed_so law failures failures' (tool.TooFewGroups groups) same key long h = too_short law groups same key h
  blamed_so law failures failures' (tool.Read input.Changes) same key long h = tt
  blamed_so law failures failures' (tool.Read input.Copy) same key long h = absurd (h)
  blamed_so law failures failures' (tool.Read input.Config) same key long h = absurd (h)
  blamed_so law failures failures' tool.Memory same key long h = tt
  blamed_so law failures failures' (tool.BadCopy line why) same key long h = absurd (h)
  blamed_so law failures failures' (tool.Write output) same key long h = absurd (h)
  blamed_so law failures failures' (tool.BadQuestion item) same key long h = absurd (h)

  -- and before that of the changes' reader
  pub changes_first : (copy' left' : Option (List ℕ)) (failures failures' : ℕ) (fault : ToolFault) → suffix_of q.rows q.suffix ≡ Some (state begun.directory).suffix
      → IsChangesFaultCause state q.rows (given_by begun.options) (marked_by begun.options) failures failures' begun fault
      → (IsReaderFault fault → q.options.go_on ≡ false → GaveBytes left left' (λ bytes. CompleteRecordsAreAccepted q.rows (state begun.directory) (changes_after q.rows q.options.last bytes)))
      → HeldBefore q (copy, copy') (left, left') fault
  changes_first copy' left' failures failures' (tool.Read input.Changes) key h settled = record { first = state begun.directory; suffix = key; reads = reads; accepted = settled tt }
  changes_first copy' left' failures failures' (tool.Read input.Copy) key h settled = absurd (h)
  changes_first copy' left' failures failures' (tool.Read input.Config) key h settled = absurd (h)
  changes_first copy' left' failures failures' (tool.BadChanges stream.TooManyTurns) key h settled = record { first = state begun.directory; suffix = key; reads = reads; accepted = settled tt }
  changes_first copy' left' failures failures' (tool.BadChanges stream.LineTooLong) key h settled = tt
  changes_first copy' left' failures failures' (tool.BadChanges stream.BadVersion) key h settled = tt
  changes_first copy' left' failures failures' (tool.BadChanges stream.BadMark) key h settled = tt
  changes_first copy' left' failures failures' (tool.BadChanges stream.Read) key h settled = absurd (h)
  changes_first copy' left' failures failures' (tool.BadChanges stream.Memory) key h settled = absurd (h)
  changes_first copy' left' failures failures' (tool.BadChanges stream.Ended) key h settled = absurd (h)
  changes_first copy' left' failures failures' (tool.Config fault) key h settled = absurd (h)
  changes_first copy' left' failures failures' tool.NoEntry key h settled = absurd (h)
  changes_first copy' left' failures failures' (tool.TooFewGroups groups) key h settled = tt
  changes_first copy' left' failures failures' tool.Memory key h settled = tt
  changes_first copy' left' failures failures' (tool.BadCopy line why) key h settled = absurd (h)
  changes_first copy' left' failures failures' (tool.Write output) key h settled = absurd (h)
  changes_first copy' left' failures failures' (tool.BadQuestion item) key h settled = absurd (h)

  from_none : (a b n : ℕ) → a ≡ b + n → b ≡ 0 → a ≡ n
  from_none a b n e z = grind (arith)

  module _ (directory : D) (ended : Run D) (starts : HasTakenNone directory q.options begun) (over : RunsOver state q.rows (given_by begun.options) (marked_by begun.options) begun ended) where
    abbrev ran : RunEnd
    ran = record { end = state ended.directory; outcomes = over.0 }

    abbrev stated : RunOutput
    stated = output_at q ran

    history : ended.history ≡ groups_in over.0
    history = over.2.0 ∙ ap (λ z. z ++ groups_in over.0) starts.1

    accepted : ended.summary.accepted ≡ length (groups_in over.0)
    accepted = from_none ended.summary.accepted begun.summary.accepted _ over.2.3 starts.4

    refused : ended.summary.refused ≡ length (causes_in over.0)
    refused = from_none ended.summary.refused begun.summary.refused _ over.2.4 starts.5

    report : ended.report.text.items ++ numbers_line ended.summary.accepted ended.summary.refused ≡ stated.texts.report
    report =
        ap (λ z. z ++ numbers_line ended.summary.accepted ended.summary.refused)
        (over.2.1 ∙ ap (λ z. z ++ flat_map (outcome_line begun.report.verbose) over.0) starts.2 ∙ ap (λ v. flat_map (outcome_line v) over.0) starts.3)
        ∙ (λ i. flat_map (outcome_line q.options.verbose) over.0 ++ numbers_line (accepted i) (refused i))

    files : ended.options ≡ q.options → (made : Option Files) → AreFilesOfRun state ended made → AreFiles q.options.dry stated.texts made
    files same None h = ap (λ (o : ModifyOptions). o.dry) (sym same) ∙ h
    files same (Some made) h = (ap (λ (o : ModifyOptions). o.dry) (sym same) ∙ h.0, h.1 ∙ ap undo_text_of history, h.2)

    -- the run, under the options that it was begun with
    goes : run_of q.rows q.options.go_on (state begun.directory) (all_found over.1) ≡ Ok ran
    goes = subst (λ (o : ModifyOptions). run_of q.rows o.go_on (state begun.directory) (all_found over.1) ≡ Ok ran) starts.6 over.4

    was : HasAccepted q.rows (state begun.directory) over.0 (state ended.directory)
    was = runs_accept q.rows q.options.go_on (state begun.directory) (all_found over.1) ran over.3 goes

    -- what is known of the text of changes, under these options
    abbrev Known : ModifyOptions → Option (List ℕ) → Type 0
    Known o text = IfSome (option_map (records_at q.rows o.last) text) (λ answers. (rest : List Answer) × (answers ≡ all_found over.1 ++ rest) × (run_of q.rows o.go_on (state begun.directory) answers ≡ Ok ran))
        × (too_few_groups o.last (option_and_then (marks_at o.last) text) (looked_at_all o.go_on ran) ≡ None)

    known_of : Known q.options left
    known_of = subst (λ (o : ModifyOptions). Known o left) starts.6 (over.5, over.6)

    runs_to : (text : Option (List ℕ)) → Known q.options text → IfSome text (λ t. RunsTo q (state begun.directory) t ran)
    runs_to None h = tt
    runs_to (Some t) h = (h.0.2, h.1)

    module _ (law : WrittenRunsGoBack) (key : suffix_of q.rows q.suffix ≡ Some (state begun.directory).suffix) (well : IsWellFormed q.rows (state begun.directory)) (within : IsWithinLimits (state begun.directory))
        (k : ℕ) (few : k ≤ length (groups_in over.0)) (fits : k < 2 ^ 64) where
      abbrev cut : Cut q.rows q.options.go_on (state begun.directory) (all_found over.1) ran (length (groups_in over.0) - k)
      cut = point law q.rows q.options.go_on (state begun.directory) (all_found over.1) ran over.3 goes well within k few

      was_there : (text : Option (List ℕ)) → Known q.options text → IfSome text (λ t. WasThere q (state begun.directory) t ran k cut.earlier.end)
      was_there None h = tt
      was_there (Some t) h = record {
        taken = cut.taken;
        earlier = cut.earlier;
        runs = ap (λ answers. run_of q.rows q.options.go_on (state begun.directory) (take cut.taken answers)) h.0.1
            ∙ ap (run_of q.rows q.options.go_on (state begun.directory)) (take-append-le cut.taken (all_found over.1) h.0.0 cut.there) ∙ cut.runs;
        ends = refl;
        to_come = to_come law q.rows q.options.go_on (state begun.directory) (all_found over.1) ran over.3 goes well within k few;
      }

      leads_by : LeadsBackBy q left stated (state begun.directory) ran k
      leads_by = record {
        point = cut.earlier.end;
        was_there = was_there left known_of;
        taken_back = λ options last. gives_back_by q (state begun.directory) cut.earlier.end ran k key options last
            (leads_back law q.rows q.options.go_on (state begun.directory) (all_found over.1) ran over.3 goes well within k few fits options.go_on);
      }

    -- the texts and the numbers of a run that has ended
    pub told : (texts : RunTexts) → WrittenRunsAreTakenBack → WrittenRunsGoBack → GroupsAreUndos → suffix_of q.rows q.suffix ≡ Some (state begun.directory).suffix → ended.options ≡ begun.options → AreTextsOfRun state ended texts
        → IsWellFormed q.rows (state begun.directory) → IsWithinLimits (state begun.directory)
        → (output : RunOutput) × AreTexts q.options.dry output.texts texts × (texts.summary ≡ output.summary) × IsStatedRun q (sources copy left) output
    told texts law back undos key same made well within =
        let taken = law q.rows (state begun.directory) ran well within was in (
          stated,
          (files (same ∙ starts.6) texts.files made.0, made.2 ∙ report),
          made.1 ∙ (λ i. record { accepted = accepted i; refused = refused i }),
          record {
            first = state begun.directory;
            ran = ran;
            suffix = key;
            copy = reads;
            changes = runs_to left known_of;
            output_is = refl;
            undos = undos q.rows (state begun.directory) ran well within was;
            undo_records = taken.0;
            taken_back = λ options whole. gives_whole_back q (state begun.directory) ran key options whole (taken.1 options.go_on);
            goes_back = λ k few fits. leads_by back key well within k few fits;
          },
        )

-- ---- the writing

same_texts : (s : Texts) (t : RunTexts) (there : Option Files) → AreFiles false s there → t.files ≡ there → t.report.items ≡ s.report → texts_of t ≡ s
same_texts s t None h is reported = absurd (cc)
same_texts s t (Some made) h is reported =
    ap (λ (o : Option Files). texts_of (record t { files = o })) is ∙ (λ i. record { undo = h.1 i; out = h.2 i; report = reported i })

-- the stated texts with the report as it was made
abbrev report_alone : Texts → RunTexts → Texts
report_alone s t = record { undo = s.undo; out = s.out; report = t.report.items }

module _ {A : Type 0} (s : Texts) (t : RunTexts) (undo out report : TakenBytes) where
  -- a dry run writes no file, whatever its text
  dry_written : (r : Result A ToolFault) → WroteInOrder true r (texts_of t) undo out report → WroteInOrder true r (report_alone s t) undo out report
  dry_written (Ok x) h = h
  dry_written (Err (tool.Write to.Undo)) h = absurd (cc)
  dry_written (Err (tool.Write to.Out)) h = absurd (cc)
  dry_written (Err (tool.Write to.Report)) h = h
  dry_written (Err (tool.BadCopy line why)) h = h
  dry_written (Err (tool.Read input)) h = h
  dry_written (Err tool.Memory) h = h
  dry_written (Err (tool.BadQuestion item)) h = h
  dry_written (Err (tool.BadChanges fault)) h = h
  dry_written (Err (tool.Config fault)) h = h
  dry_written (Err tool.NoEntry) h = h
  dry_written (Err (tool.TooFewGroups groups)) h = h

  -- what was written of the texts as they were made, was written of the stated ones
  pub written_so : (dry : Bool) (r : Result A ToolFault) → AreTexts dry s t → is_dry t ≡ dry → WroteInOrder (is_dry t) r (texts_of t) undo out report → WroteInOrder dry r s undo out report
  written_so true r h same w =
      subst (λ text. WroteInOrder true r (record { undo = s.undo; out = s.out; report = text }) undo out report) h.1 (dry_written r (subst (λ b. WroteInOrder b r (texts_of t) undo out report) same w))
  written_so false r h same w =
      subst (λ z. WroteInOrder false r z undo out report) (same_texts s t t.files h.0 refl h.1) (subst (λ b. WroteInOrder b r (texts_of t) undo out report) same w)

pub dry_of : (dry : Bool) (s : Texts) (t : RunTexts) → AreTexts dry s t → is_dry t ≡ dry
dry_of dry s t h = by t.files refl h.0
  where
    by : (made : Option Files) → t.files ≡ made → AreFiles dry s made → is_dry t ≡ dry
    by None there h = ap (λ (o : Option Files). is_dry (record t { files = o })) there ∙ sym h
    by (Some made) there h = ap (λ (o : Option Files). is_dry (record t { files = o })) there ∙ sym h.0

-- ---- the answer

pub answers_write : (q : RunTerms) (known : Sources) (output : RunOutput) (fault : ToolFault) → IsWriteFault fault → IsStatedRun q known output → AnswersRun q known (Err fault) output
answers_write q known output (tool.Write writer) h run = run
answers_write q known output (tool.BadCopy line why) h run = absurd (h)
answers_write q known output (tool.Read from) h run = absurd (h)
answers_write q known output tool.Memory h run = absurd (h)
answers_write q known output (tool.BadQuestion item) h run = absurd (h)
answers_write q known output (tool.BadChanges fault) h run = absurd (h)
answers_write q known output (tool.Config fault) h run = absurd (h)
answers_write q known output tool.NoEntry h run = absurd (h)
answers_write q known output (tool.TooFewGroups groups) h run = absurd (h)

-- a fault before the writing
pub unwritten : (A : Type 0) (q : RunTerms) (known : Sources) (output : RunOutput) (fault : ToolFault) (u o w : TakenBytes)
    → IsCausedBy q known fault → u.1 ≡ u.0 → o.1 ≡ o.0 → w.1 ≡ w.0
    → WroteInOrder {A = A} q.options.dry (Err fault) output.texts u o w × AnswersRun q known (Err fault) output
unwritten A q known output (tool.Write writer) u o w h a b c = absurd (h)
unwritten A q known output (tool.BadCopy line why) u o w h a b c = ((a, b, c), h)
unwritten A q known output (tool.Read input.Copy) u o w h a b c = ((a, b, c), h)
unwritten A q known output (tool.Read input.Changes) u o w h a b c = ((a, b, c), h)
unwritten A q known output (tool.Read input.Config) u o w h a b c = absurd (h)
unwritten A q known output tool.Memory u o w h a b c = ((a, b, c), h)
unwritten A q known output (tool.BadQuestion item) u o w h a b c = ((a, b, c), h)
unwritten A q known output (tool.BadChanges fault) u o w h a b c = ((a, b, c), h)
unwritten A q known output (tool.Config fault) u o w h a b c = ((a, b, c), h)
unwritten A q known output tool.NoEntry u o w h a b c = ((a, b, c), h)
unwritten A q known output (tool.TooFewGroups groups) u o w h a b c = ((a, b, c), h)

-- ---- over sources that tell their texts

if_both : {A : Type 0} (a b : Option A) (P Q : A → Type 0) (R : A → A → Type 0) → IfSome a P → IfSome b Q → ((x y : A) → P x → Q y → R x y) → IfSome a (λ x. IfSome b (λ y. R x y))
if_both None b P Q R p q f = tt
if_both (Some x) None P Q R p q f = tt
if_both (Some x) (Some y) P Q R p q f = f x y p q

if_one : {A : Type 0} (a b : Option A) (P : A → Type 0) (R : A → A → Type 0) → IfSome a P → ((x y : A) → P x → R x y) → IfSome a (λ x. IfSome b (λ y. R x y))
if_one None b P R p f = tt
if_one (Some x) None P R p f = tt
if_one (Some x) (Some y) P R p f = f x y p

if_any : {A : Type 0} (a b : Option A) (R : A → A → Type 0) → ((x y : A) → R x y) → IfSome a (λ x. IfSome b (λ y. R x y))
if_any None b R f = tt
if_any (Some x) None R f = tt
if_any (Some x) (Some y) R f = f x y

module _ (q : RunTerms) (known : Sources) where
  abbrev Gives : RunOutput → Type 0
  Gives output = IfSome known.copy (λ copy. IfSome known.changes (λ changes. output_of q copy changes ≡ Ok output))

  abbrev Fails : ToolFault → Type 0
  Fails fault = IfSome known.copy (λ copy. IfSome known.changes (λ changes. output_of q copy changes ≡ Err fault))

  pub stated_whole : (output : RunOutput) → IsStatedRun q known output → Gives output
  stated_whole output run =
      if_both known.copy known.changes _ _ (λ copy changes. output_of q copy changes ≡ Ok output) run.copy run.changes
      (λ copy changes reads runs. whole_run q copy changes run.first.suffix run.suffix run.first reads run.ran runs.0 runs.1 ∙ ap Ok (sym run.output_is))

  copy_fails : (line : ℕ) (why : Cause) (key : DnKeys) → suffix_of q.rows q.suffix ≡ Some key → IfSome known.copy (λ text. copy_of q.rows key text ≡ Err (line, why)) → Fails (tool.BadCopy line why)
  copy_fails line why key named reads =
      if_one known.copy known.changes _ (λ copy changes. output_of q copy changes ≡ Err (tool.BadCopy line why)) reads (λ copy changes is. bad_copy q copy changes key named line why is)

  changes_fail : (fault : StreamFault) (first : Dir) → suffix_of q.rows q.suffix ≡ Some first.suffix → IfSome known.copy (λ text. copy_of q.rows first.suffix text ≡ Ok first)
      → IfSome known.changes (λ text. run_of q.rows q.options.go_on first (records_in q text) ≡ Err fault) → Fails (tool.BadChanges fault)
  changes_fail fault first named reads runs =
      if_both known.copy known.changes _ _ (λ copy changes. output_of q copy changes ≡ Err (tool.BadChanges fault)) reads runs
      (λ copy changes is h. bad_changes q copy changes first.suffix named first is fault h)

  pub fault_whole : (output : RunOutput) (fault : ToolFault) → IsCausedBy q known fault → IsWholeRun q known (Err fault) output
  fault_whole output (tool.BadQuestion item.Suffix) h = if_any known.copy known.changes _ (λ copy changes. bad_suffix q copy changes h)
  fault_whole output (tool.BadQuestion item.Base) h = absurd (h)
  fault_whole output (tool.BadQuestion item.Authc) h = absurd (h)
  fault_whole output (tool.BadQuestion (item.Word n)) h = absurd (h)
  fault_whole output (tool.BadCopy line (cause.Code code)) h = copy_fails line (cause.Code code) h.0 h.1 h.2
  fault_whole output (tool.BadCopy line (cause.Fault fault)) h = copy_fails line (cause.Fault fault) h.0 h.1 h.2
  fault_whole output (tool.BadCopy line (cause.Ended stream.TooManyTurns)) h = if_any known.copy known.changes _ (λ copy changes. tt)
  fault_whole output (tool.BadCopy line (cause.Ended stream.LineTooLong)) h = copy_fails line (cause.Ended stream.LineTooLong) h.0 h.1 h.2
  fault_whole output (tool.BadCopy line (cause.Ended stream.Read)) h = copy_fails line (cause.Ended stream.Read) h.0 h.1 h.2
  fault_whole output (tool.BadCopy line (cause.Ended stream.Memory)) h = copy_fails line (cause.Ended stream.Memory) h.0 h.1 h.2
  fault_whole output (tool.BadCopy line (cause.Ended stream.Ended)) h = copy_fails line (cause.Ended stream.Ended) h.0 h.1 h.2
  fault_whole output (tool.BadCopy line (cause.Ended stream.BadVersion)) h = copy_fails line (cause.Ended stream.BadVersion) h.0 h.1 h.2
  fault_whole output (tool.BadCopy line (cause.Ended stream.BadMark)) h = copy_fails line (cause.Ended stream.BadMark) h.0 h.1 h.2
  fault_whole output (tool.BadChanges stream.TooManyTurns) h = if_any known.copy known.changes _ (λ copy changes. tt)
  fault_whole output (tool.BadChanges stream.LineTooLong) h = changes_fail stream.LineTooLong h.first h.suffix h.copy h.changes
  fault_whole output (tool.BadChanges stream.Read) h = changes_fail stream.Read h.first h.suffix h.copy h.changes
  fault_whole output (tool.BadChanges stream.Memory) h = changes_fail stream.Memory h.first h.suffix h.copy h.changes
  fault_whole output (tool.BadChanges stream.Ended) h = changes_fail stream.Ended h.first h.suffix h.copy h.changes
  fault_whole output (tool.BadChanges stream.BadVersion) h = changes_fail stream.BadVersion h.first h.suffix h.copy h.changes
  fault_whole output (tool.BadChanges stream.BadMark) h = changes_fail stream.BadMark h.first h.suffix h.copy h.changes
  fault_whole output (tool.Config fault) h = absurd (h)
  fault_whole output tool.NoEntry h = absurd (h)
  fault_whole output (tool.TooFewGroups groups) h =
      if_both known.copy known.changes _ _ (λ copy changes. output_of q copy changes ≡ Err (tool.TooFewGroups groups)) h.copy h.changes
      (λ copy changes reads ran. too_few q copy changes h.first.suffix h.suffix h.first reads ran.0 groups ran.1 ran.2)
  fault_whole output (tool.Read from) h = if_any known.copy known.changes _ (λ copy changes. tt)
  fault_whole output tool.Memory h = if_any known.copy known.changes _ (λ copy changes. tt)
  fault_whole output (tool.Write writer) h = absurd (h)

  pub write_whole : (output : RunOutput) (fault : ToolFault) → IsWriteFault fault → IsStatedRun q known output → IsWholeRun q known (Err fault) output
  write_whole output (tool.Write writer) h run = stated_whole output run
  write_whole output (tool.BadCopy line why) h run = absurd (h)
  write_whole output (tool.Read from) h run = absurd (h)
  write_whole output tool.Memory h run = absurd (h)
  write_whole output (tool.BadQuestion item) h run = absurd (h)
  write_whole output (tool.BadChanges fault) h run = absurd (h)
  write_whole output (tool.Config fault) h run = absurd (h)
  write_whole output tool.NoEntry h run = absurd (h)
  write_whole output (tool.TooFewGroups groups) h run = absurd (h)
