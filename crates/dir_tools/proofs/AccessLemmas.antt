-- What `run_acl` answers, in the words of its definition.
use Rattle.std.proofs.Common.{◌≡◌, ◌≢◌, ℕ, List, [], Option, None, Some, IfSome, IfErr, OnOk, Result, Ok, Err, refl, sym, ap, subst, ◌∙◌}
use Rattle.dir_names.specs.Results.{and_then}
use Rattle.dir_acl.specs.declared.fault.ConfigFault.{ConfigFault}
use Rattle.dir_tools.specs.Headline.{ok_or_bad_copy}
use Rattle.dir_tools.specs.StoppedReading.{KnownBytes}
use Rattle.dir_tools.specs.Writing.{TookPrefix, TookWhole, WroteReport}
use Rattle.dir_names.specs.declared.schema.TypeRow.{TypeRow}
use Rattle.dir_names.specs.Keys.{DnKeys}
use Rattle.dir_ldif.specs.declared.faults.StreamFault.TheVariants as stream
use Rattle.dir_tree.specs.Content.{Content}
use Rattle.dir_tree.specs.Dir.{Dir}
use Rattle.dir_tools.specs.declared.fault.Cause.TheVariants as cause
use Rattle.dir_tools.specs.declared.fault.Input.TheVariants as input
use Rattle.dir_tools.specs.declared.fault.Output.{Output}
use Rattle.dir_tools.specs.declared.fault.Output.TheVariants as to
use Rattle.dir_tools.specs.declared.fault.ToolFault.{ToolFault}
use Rattle.dir_tools.specs.declared.fault.ToolFault.TheVariants as tool
use Rattle.dir_tools.specs.AccessAnswers.{AccessHeldBefore, AccessSources, AnswersQuestion, Asking, ComesAfterConfig, HasNoEntry, IsAccessFault, IsAsked, IsBadQuestion, IsConfigFault, IsReportAnswer, IsStatedReport, IsTextOf, IsWholeReport, access_sources}
use Rattle.dir_tools.specs.AccessReport.{AccessTerms, Configured, QuestionParts, access_terms, acl_report_of, ok_or_bad_config, parts_of, report_on, target_of}
use Rattle.dir_tools.specs.CompleteRecords.{CompleteRecordsLoad, GaveBytes, IsReaderFault, answers_after}
use Rattle.dir_tools.specs.CopyFaults.{HasNoEntries, IsBadCopy, IsCopyFaultCause}
use Rattle.dir_tools.specs.CopyOf.{CopyFault, copy_of, empty_copy}
use Rattle.dir_tools.specs.Inside.Asking.{IsNoReport, IsPartFault}

-- ---- the question

-- a faulty part of the question
pub question_blamed : (t : AccessTerms) (known : AccessSources) (c : Configured) (fault : ToolFault) → IsTextOf t.rows known.config c → IsPartFault fault (parts_of (access_terms c.rows t.question)) → IsAccessFault t known fault
question_blamed t known c (tool.BadQuestion item) reads h = record { found = c; reads = reads; parts = h }
question_blamed t known c tool.Memory reads h = tt
question_blamed t known c (tool.BadCopy line why) reads h = absurd (h)
question_blamed t known c (tool.Read from) reads h = absurd (h)
question_blamed t known c (tool.Write output) reads h = absurd (h)
question_blamed t known c (tool.BadChanges fault) reads h = absurd (h)
question_blamed t known c (tool.Config fault) reads h = absurd (h)
question_blamed t known c tool.NoEntry reads h = absurd (h)
question_blamed t known c (tool.TooFewGroups groups) reads h = absurd (h)

-- ---- the copy

-- a copy's fault, as a fault of the copy's text
pub copy_blamed : (t : AccessTerms) (known : AccessSources) (asking : Asking) (empty : Dir) (failures failures' : ℕ) (fault : ToolFault)
    → IsAsked t known.config asking → asking.config.configuration.suffix ≡ empty.suffix → HasNoEntries empty → IsCopyFaultCause asking.config.rows empty known.copy failures failures' fault → IsAccessFault t known fault
copy_blamed t known asking empty failures failures' (tool.BadCopy line why) asked named bare h =
    (asking, asked, subst (λ (k : DnKeys). IfSome known.copy (λ text. IsBadCopy asking.config.rows k text line why)) (sym named) (h bare))
copy_blamed t known asking empty failures failures' (tool.Read input.Copy) asked named bare h = tt
copy_blamed t known asking empty failures failures' (tool.Read input.Changes) asked named bare h = absurd (h)
copy_blamed t known asking empty failures failures' (tool.Read input.Config) asked named bare h = absurd (h)
copy_blamed t known asking empty failures failures' tool.Memory asked named bare h = tt
copy_blamed t known asking empty failures failures' (tool.Write output) asked named bare h = absurd (h)
copy_blamed t known asking empty failures failures' (tool.BadQuestion item) asked named bare h = absurd (h)
copy_blamed t known asking empty failures failures' (tool.BadChanges fault) asked named bare h = absurd (h)
copy_blamed t known asking empty failures failures' (tool.Config fault) asked named bare h = absurd (h)
copy_blamed t known asking empty failures failures' tool.NoEntry asked named bare h = absurd (h)
copy_blamed t known asking empty failures failures' (tool.TooFewGroups groups) asked named bare h = absurd (h)

-- the complete records before the fault of the copy's reader
pub copy_first : (t : AccessTerms) (config : Option (List ℕ)) (asking : Asking) (copy copy' : Option (List ℕ)) (empty : Dir) (failures failures' : ℕ) (fault : ToolFault)
    → IsAsked t config asking → asking.config.configuration.suffix ≡ empty.suffix → IsCopyFaultCause asking.config.rows empty copy failures failures' fault
    → (IsReaderFault fault → GaveBytes copy copy' (λ bytes. CompleteRecordsLoad asking.config.rows (empty_copy empty.suffix) (answers_after asking.config.rows bytes)))
    → AccessHeldBefore t config (copy, copy') fault
copy_first t config asking copy copy' empty failures failures' (tool.Read input.Copy) asked named h settled = record {
  asking = asking;
  asked = asked;
  loaded = subst (λ (k : DnKeys). GaveBytes copy copy' (λ bytes. CompleteRecordsLoad asking.config.rows (empty_copy k) (answers_after asking.config.rows bytes))) (sym named) (settled tt);
}
copy_first t config asking copy copy' empty failures failures' (tool.Read input.Changes) asked named h settled = absurd (h)
copy_first t config asking copy copy' empty failures failures' (tool.Read input.Config) asked named h settled = absurd (h)
copy_first t config asking copy copy' empty failures failures' (tool.BadCopy line (cause.Code code)) asked named h settled = tt
copy_first t config asking copy copy' empty failures failures' (tool.BadCopy line (cause.Fault fault)) asked named h settled = tt
copy_first t config asking copy copy' empty failures failures' (tool.BadCopy line (cause.Ended stream.TooManyTurns)) asked named h settled = record {
  asking = asking;
  asked = asked;
  loaded = subst (λ (k : DnKeys). GaveBytes copy copy' (λ bytes. CompleteRecordsLoad asking.config.rows (empty_copy k) (answers_after asking.config.rows bytes))) (sym named) (settled tt);
}
copy_first t config asking copy copy' empty failures failures' (tool.BadCopy line (cause.Ended stream.LineTooLong)) asked named h settled = tt
copy_first t config asking copy copy' empty failures failures' (tool.BadCopy line (cause.Ended stream.Read)) asked named h settled = tt
copy_first t config asking copy copy' empty failures failures' (tool.BadCopy line (cause.Ended stream.Memory)) asked named h settled = tt
copy_first t config asking copy copy' empty failures failures' (tool.BadCopy line (cause.Ended stream.Ended)) asked named h settled = tt
copy_first t config asking copy copy' empty failures failures' (tool.BadCopy line (cause.Ended stream.BadVersion)) asked named h settled = tt
copy_first t config asking copy copy' empty failures failures' (tool.BadCopy line (cause.Ended stream.BadMark)) asked named h settled = tt
copy_first t config asking copy copy' empty failures failures' tool.Memory asked named h settled = tt
copy_first t config asking copy copy' empty failures failures' (tool.Write output) asked named h settled = absurd (h)
copy_first t config asking copy copy' empty failures failures' (tool.BadQuestion item) asked named h settled = absurd (h)
copy_first t config asking copy copy' empty failures failures' (tool.BadChanges fault) asked named h settled = absurd (h)
copy_first t config asking copy copy' empty failures failures' (tool.Config fault) asked named h settled = absurd (h)
copy_first t config asking copy copy' empty failures failures' tool.NoEntry asked named h settled = absurd (h)
copy_first t config asking copy copy' empty failures failures' (tool.TooFewGroups groups) asked named h settled = absurd (h)

-- ---- a directory on which there is no report

module _ (target : Result (Option Content) ToolFault) where
  -- what is said of it is not a fault of a reader
  pub no_report_after : (e : ToolFault) → IsNoReport target e → ComesAfterConfig e
  no_report_after tool.NoEntry h = tt
  no_report_after tool.Memory h = tt
  no_report_after (tool.Config why) h = absurd h
  no_report_after (tool.BadQuestion item) h = absurd h
  no_report_after (tool.BadCopy line why) h = absurd h
  no_report_after (tool.Read from) h = absurd h
  no_report_after (tool.Write to) h = absurd h
  no_report_after (tool.BadChanges why) h = absurd h
  no_report_after (tool.TooFewGroups groups) h = absurd h

  pub no_report_unread : (e : ToolFault) → IsNoReport target e → e ≢ tool.Read input.Copy
  no_report_unread tool.NoEntry h is = cc is
  no_report_unread tool.Memory h is = cc is
  no_report_unread (tool.Config why) h is = absurd h
  no_report_unread (tool.BadQuestion item) h is = absurd h
  no_report_unread (tool.BadCopy line why) h is = absurd h
  no_report_unread (tool.Read from) h is = absurd h
  no_report_unread (tool.Write to) h is = absurd h
  no_report_unread (tool.BadChanges why) h is = absurd h
  no_report_unread (tool.TooFewGroups groups) h is = absurd h

  pub no_report_first : (t : AccessTerms) (config copy copy' : Option (List ℕ)) (e : ToolFault) → IsNoReport target e → AccessHeldBefore t config (copy, copy') e
  no_report_first t config copy copy' tool.NoEntry h = tt
  no_report_first t config copy copy' tool.Memory h = tt
  no_report_first t config copy copy' (tool.Config why) h = absurd h
  no_report_first t config copy copy' (tool.BadQuestion item) h = absurd h
  no_report_first t config copy copy' (tool.BadCopy line why) h = absurd h
  no_report_first t config copy copy' (tool.Read from) h = absurd h
  no_report_first t config copy copy' (tool.Write to) h = absurd h
  no_report_first t config copy copy' (tool.BadChanges why) h = absurd h
  no_report_first t config copy copy' (tool.TooFewGroups groups) h = absurd h

-- the base is no entry of it, or memory ran out
pub no_report_blamed : (t : AccessTerms) (known : AccessSources) (asking : Asking) → IsAsked t known.config asking → (d : Dir) (e : ToolFault)
    → IfSome known.copy (λ text. copy_of asking.config.rows asking.config.configuration.suffix text ≡ Ok d) → IsNoReport (target_of t.question.fake d asking.parts.base) e → IsAccessFault t known e
no_report_blamed t known asking asked d tool.NoEntry read h = record { asking = asking; asked = asked; directory = d; copy = read; target_is = h }
no_report_blamed t known asking asked d tool.Memory read h = tt
no_report_blamed t known asking asked d (tool.Config why) read h = absurd h
no_report_blamed t known asking asked d (tool.BadQuestion item) read h = absurd h
no_report_blamed t known asking asked d (tool.BadCopy line why) read h = absurd h
no_report_blamed t known asking asked d (tool.Read from) read h = absurd h
no_report_blamed t known asking asked d (tool.Write to) read h = absurd h
no_report_blamed t known asking asked d (tool.BadChanges why) read h = absurd h
no_report_blamed t known asking asked d (tool.TooFewGroups groups) read h = absurd h

-- ---- a fault before the report is written

-- the fault of a configuration is one
pub blamed : (t : AccessTerms) (known : AccessSources) (e : ToolFault) → IsConfigFault t.rows known.config e → IsAccessFault t known e
blamed t known (tool.Config why) h = h
blamed t known (tool.Read input.Config) h = tt
blamed t known (tool.Read input.Copy) h = absurd (h)
blamed t known (tool.Read input.Changes) h = absurd (h)
blamed t known tool.Memory h = tt
blamed t known (tool.Write to) h = absurd (h)
blamed t known (tool.BadCopy line why) h = absurd (h)
blamed t known (tool.BadQuestion item) h = absurd (h)
blamed t known (tool.BadChanges why) h = absurd (h)
blamed t known tool.NoEntry h = absurd (h)
blamed t known (tool.TooFewGroups groups) h = absurd (h)

-- nothing is written
pub nothing_written : (A : Type 0) (t : AccessTerms) (known : AccessSources) (e : ToolFault) (taken : Option (List ℕ)) → IsAccessFault t known e → WroteReport {A = A} (Err e) (taken, taken) []
nothing_written A t known (tool.Config why) taken h = refl
nothing_written A t known (tool.Read from) taken h = refl
nothing_written A t known tool.Memory taken h = refl
nothing_written A t known (tool.BadCopy line why) taken h = refl
nothing_written A t known (tool.BadQuestion item) taken h = refl
nothing_written A t known tool.NoEntry taken h = refl
nothing_written A t known (tool.TooFewGroups groups) taken h = refl
nothing_written A t known (tool.Write to) taken h = absurd (h)
nothing_written A t known (tool.BadChanges why) taken h = absurd (h)

-- the writer has no fault
pub not_writing : (t : AccessTerms) (known : AccessSources) (e : ToolFault) (to : Output) → IsAccessFault t known e → e ≢ tool.Write to
not_writing t known e to h is = subst (IsAccessFault t known) is h

-- it is the answer to the question
pub answers_so : (A : Type 0) (t : AccessTerms) (known : AccessSources) (e : ToolFault) (report : List ℕ) → IsAccessFault t known e → AnswersQuestion {A = A} t known (Err e) report
answers_so A t known (tool.Config why) report h = h
answers_so A t known (tool.Read from) report h = h
answers_so A t known tool.Memory report h = h
answers_so A t known (tool.BadCopy line why) report h = h
answers_so A t known (tool.BadQuestion item) report h = h
answers_so A t known tool.NoEntry report h = h
answers_so A t known (tool.TooFewGroups groups) report h = h
answers_so A t known (tool.Write to) report h = absurd (h)
answers_so A t known (tool.BadChanges why) report h = absurd (h)

module _ (A : Type 0) (t : AccessTerms) (config copy report : List ℕ) where
  abbrev known : AccessSources
  known = access_sources (Some config) (Some copy)

  abbrev at : Configured → AccessTerms
  at found = access_terms found.rows t.question

  abbrev under_target : Configured → Dir → QuestionParts → Result (Option Content) ToolFault → Result (List ℕ) ToolFault
  under_target c d parts target = and_then target (λ target. Ok (report_on t.question.verbose c.configuration d parts target))

  abbrev under_copy : Configured → QuestionParts → Result Dir CopyFault → Result (List ℕ) ToolFault
  under_copy c parts d = and_then (ok_or_bad_copy d) (λ d. under_target c d parts (target_of t.question.fake d parts.base))

  abbrev under_parts : Configured → Result QuestionParts ToolFault → Result (List ℕ) ToolFault
  under_parts c parts = and_then parts (λ parts. under_copy c parts (copy_of c.rows c.configuration.suffix copy))

  abbrev under_config : Result Configured ConfigFault → Result (List ℕ) ToolFault
  under_config c = and_then (ok_or_bad_config c) (λ c. under_parts c (parts_of (at c)))

  bad_question : (e : ToolFault) → IsBadQuestion t (Some config) e → acl_report_of t config copy ≡ Err e
  bad_question e h = ap under_config h.reads ∙ ap (under_parts h.found) h.parts

  bad_copy : (asking : Asking) (fault : CopyFault) → IsAsked t (Some config) asking → copy_of asking.config.rows asking.config.configuration.suffix copy ≡ Err fault → acl_report_of t config copy ≡ Err (tool.BadCopy fault.0 fault.1)
  bad_copy asking fault asked is = ap under_config asked.reads ∙ ap (under_parts asking.config) asked.parts ∙ ap (under_copy asking.config asking.parts) is

  no_entry : HasNoEntry t known → acl_report_of t config copy ≡ Err tool.NoEntry
  no_entry h =
      ap under_config h.asked.reads ∙ ap (under_parts h.asking.config) h.asked.parts ∙ ap (under_copy h.asking.config h.asking.parts) h.copy
      ∙ ap (under_target h.asking.config h.directory h.asking.parts) h.target_is

  pub stated : IsStatedReport t known report → acl_report_of t config copy ≡ Ok report
  stated h =
      ap under_config h.asked.reads ∙ ap (under_parts h.asking.config) h.asked.parts ∙ ap (under_copy h.asking.config h.asking.parts) h.copy
      ∙ ap (under_target h.asking.config h.directory h.asking.parts) h.target_is ∙ ap Ok (sym h.report_is)

  wholly : (e : ToolFault) → IsAccessFault t known e → IsReportAnswer {A = A} (Err e) report (acl_report_of t config copy)
  wholly (tool.Config why) h = ap under_config h.1
  wholly (tool.Read from) h = tt
  wholly tool.Memory h = tt
  wholly (tool.BadQuestion item) h = bad_question (tool.BadQuestion item) h
  wholly (tool.BadCopy line (cause.Code code)) h = bad_copy h.0 (line, cause.Code code) h.1 h.2
  wholly (tool.BadCopy line (cause.Fault why)) h = bad_copy h.0 (line, cause.Fault why) h.1 h.2
  wholly (tool.BadCopy line (cause.Ended stream.TooManyTurns)) h = tt
  wholly (tool.BadCopy line (cause.Ended stream.LineTooLong)) h = bad_copy h.0 (line, cause.Ended stream.LineTooLong) h.1 h.2
  wholly (tool.BadCopy line (cause.Ended stream.Read)) h = bad_copy h.0 (line, cause.Ended stream.Read) h.1 h.2
  wholly (tool.BadCopy line (cause.Ended stream.Memory)) h = bad_copy h.0 (line, cause.Ended stream.Memory) h.1 h.2
  wholly (tool.BadCopy line (cause.Ended stream.Ended)) h = bad_copy h.0 (line, cause.Ended stream.Ended) h.1 h.2
  wholly (tool.BadCopy line (cause.Ended stream.BadVersion)) h = bad_copy h.0 (line, cause.Ended stream.BadVersion) h.1 h.2
  wholly (tool.BadCopy line (cause.Ended stream.BadMark)) h = bad_copy h.0 (line, cause.Ended stream.BadMark) h.1 h.2
  wholly tool.NoEntry h = no_entry h
  wholly (tool.TooFewGroups groups) h = absurd (h)
  wholly (tool.Write to) h = absurd (h)
  wholly (tool.BadChanges why) h = absurd (h)

-- where both texts are known, it is that of the definition
pub whole_answer : (A : Type 0) (t : AccessTerms) (config copy : Option (List ℕ)) (e : ToolFault) (report : List ℕ) → IsAccessFault t (access_sources config copy) e → IsWholeReport {A = A} t (access_sources config copy) (Err e) report
whole_answer A t None copy e report h = tt
whole_answer A t (Some config) None e report h = tt
whole_answer A t (Some config) (Some copy) e report h = wholly A t config copy report e h

-- ---- a report that was made

whole_report : (A : Type 0) (t : AccessTerms) (config copy : Option (List ℕ)) (report : List ℕ) → IsStatedReport t (access_sources config copy) report → IfSome config (λ config. IfSome copy (λ copy. acl_report_of t config copy ≡ Ok report))
whole_report A t None copy report h = tt
whole_report A t (Some config) None report h = tt
whole_report A t (Some config) (Some copy) report h = stated A t config copy report h

-- it was written whole, or a prefix of it where the writer failed
pub report_written : (A : Type 0) (before after : Option (List ℕ)) (report : List ℕ) (result : Result A ToolFault) → OnOk result (TookWhole (before, after) report) → TookPrefix (before, after) report → IfErr result (λ e. e ≡ tool.Write to.Report)
    → WroteReport result (before, after) report
report_written A before after report (Ok x) whole front is = whole
report_written A before after report (Err e) whole front is = subst (λ (f : ToolFault). WroteReport {A = A} (Err f) (before, after) report) (sym is) front

-- it is the answer, whether or not it could be written
pub report_answers : (A : Type 0) (t : AccessTerms) (config copy : Option (List ℕ)) (report : List ℕ) (to : Output) (result : Result A ToolFault) → IfErr result (λ e. e ≡ tool.Write to) → IsStatedReport t (access_sources config copy) report
    → AnswersQuestion t (access_sources config copy) result report × IsWholeReport t (access_sources config copy) result report
report_answers A t config copy report to (Ok x) is h = (h, whole_report A t config copy report h)
report_answers A t config copy report to (Err e) is h =
    subst (λ (f : ToolFault). AnswersQuestion {A = A} t (access_sources config copy) (Err f) report × IsWholeReport {A = A} t (access_sources config copy) (Err f) report) (sym is) (h, whole_report A t config copy report h)

-- ---- a configuration that is read

-- what holds of the complete records before a fault of the copy's reader, under each text of the configuration
pub held_before : {A : Type 0} (t : AccessTerms) (config : Option (List ℕ)) (c : Configured) (copy : KnownBytes) (result : Result A ToolFault) → IsTextOf t.rows config c
    → IfErr result (λ e. (start : List TypeRow) (known : Option (List ℕ)) → IsTextOf start known c → AccessHeldBefore (access_terms start t.question) known copy e) → IfErr result (AccessHeldBefore t config copy)
held_before t config c copy (Ok x) is h = tt
held_before t config c copy (Err e) is h = h t.rows config is

-- its reader has not failed
pub not_before : {A : Type 0} (result : Result A ToolFault) → IfErr result ComesAfterConfig → result ≢ Err (tool.Read input.Config)
not_before (Ok x) after is = cc is
not_before {A = A} (Err e) after is = subst (λ (r : Result A ToolFault). IfErr r ComesAfterConfig) is after
