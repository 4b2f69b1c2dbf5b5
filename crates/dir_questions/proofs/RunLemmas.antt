-- What `run_questions` answers, in the words of its definition.
use Rattle.std.proofs.Common.{◌≡◌, ◌≢◌, ℕ, Bool, List, [], map, Option, None, Some, IfSome, IfErr, IfOk, Result, Ok, Err, refl, sym, ap, subst, ◌∙◌, Vec, Global}
use Rattle.dir_names.specs.Keys.{DnKeys}
use Rattle.dir_names.specs.Results.{and_then}
use Rattle.dir_names.specs.declared.schema.TypeRow.{TypeRow}
use Rattle.dir_acl.specs.declared.fault.ConfigFault.{ConfigFault}
use Rattle.dir_ldif.specs.declared.reader.unfolder.Line.{Line}
use Rattle.dir_ldif.specs.declared.faults.StreamFault.TheVariants as stream
use Rattle.dir_tree.specs.Dir.{Dir}
use Rattle.dir_tools.specs.declared.fault.Cause.{Cause}
use Rattle.dir_tools.specs.declared.fault.Cause.TheVariants as cause
use Rattle.dir_tools.specs.declared.fault.Input.TheVariants as input
use Rattle.dir_tools.specs.declared.fault.Output.TheVariants as output
use Rattle.dir_tools.specs.declared.fault.ToolFault.{ToolFault}
use Rattle.dir_tools.specs.declared.fault.ToolFault.TheVariants as tool
use Rattle.dir_tools.specs.AccessAnswers.{IsConfigFault, IsTextOf}
use Rattle.dir_tools.specs.AccessReport.{Configured, ok_or_bad_config}
use Rattle.dir_tools.specs.CompleteRecords.{CompleteRecordsLoad, GaveBytes, IsReaderFault, answers_after}
use Rattle.dir_tools.specs.CopyFaults.{HasNoEntries, IsBadCopy, IsCopyFaultCause}
use Rattle.dir_tools.specs.CopyOf.{CopyFault, copy_of, empty_copy}
use Rattle.dir_tools.specs.Headline.{ok_or_bad_copy}
use Rattle.dir_questions.specs.declared.fault.QuestionsFault.{QuestionsFault}
use Rattle.dir_questions.specs.declared.fault.QuestionsFault.TheVariants as fault
use Rattle.dir_questions.specs.declared.report.Tally.{Tally}
use Rattle.dir_questions.specs.declared.run.QuestionOptions.{QuestionOptions}
use Rattle.dir_questions.specs.declared.run.Texts.{Texts}
use Rattle.dir_questions.specs.Reading.{IsAskedFault}
use Rattle.dir_questions.specs.Inside.Running.{CopyHeldBefore, IsCopyFault, IsFaultOfCopy, IsWriterFault, MadeOver}
use Rattle.dir_questions.specs.Questions.{QuestionBlock, collect, question_blocks, read_block}
use Rattle.dir_questions.specs.Runs.{AnswersQuestions, AreAsked, AreBadQuestions, AreStatedTexts, AsksThese, ComesAfterConfig, ComesAfterQuestions, HasLines, HasNoLines, IsAnswerOf, IsFaultOfQuestions, IsWholeAnswer, QuestionSources, QuestionTexts, QuestionsHeldBefore, WroteAnswers, question_sources, questions_of, texts_on, texts_under, tool_faults}
use Rattle.dir_questions.proofs.Sources.{lines_ask, under}

-- ---- the copy

-- a copy's fault, as a fault of its text, and what holds of the complete records before it
pub fault_of_copy : (found : Configured) (empty : Dir) (copy copy' : Option (List ℕ)) (failures failures' : ℕ) (why : ToolFault)
    → found.configuration.suffix ≡ empty.suffix → HasNoEntries empty → IsCopyFaultCause found.rows empty copy failures failures' why
    → (IsReaderFault why → GaveBytes copy copy' (λ bytes. CompleteRecordsLoad found.rows (empty_copy empty.suffix) (answers_after found.rows bytes)))
    → IsFaultOfCopy found (copy, copy') why
fault_of_copy found empty copy copy' failures failures' why named bare h settled = record { blamed = blamed why h; before = before why h settled }
  where
    at_suffix : (line : ℕ) (why : Cause) → IfSome copy (λ text. IsBadCopy found.rows empty.suffix text line why) → IfSome copy (λ text. IsBadCopy found.rows found.configuration.suffix text line why)
    at_suffix line why h = subst (λ (k : DnKeys). IfSome copy (λ text. IsBadCopy found.rows k text line why)) (sym named) h

    loaded : GaveBytes copy copy' (λ bytes. CompleteRecordsLoad found.rows (empty_copy empty.suffix) (answers_after found.rows bytes)) → GaveBytes copy copy' (λ bytes. CompleteRecordsLoad found.rows (empty_copy found.configuration.suffix) (answers_after found.rows bytes))
    loaded h = subst (λ (k : DnKeys). GaveBytes copy copy' (λ bytes. CompleteRecordsLoad found.rows (empty_copy k) (answers_after found.rows bytes))) (sym named) h

    blamed : (why : ToolFault) → IsCopyFaultCause found.rows empty copy failures failures' why → IsCopyFault found copy why
    blamed (tool.BadCopy line why) h = at_suffix line why (h bare)
    blamed (tool.Read input.Copy) h = tt
    blamed (tool.Read input.Changes) h = absurd h
    blamed (tool.Read input.Config) h = absurd h
    blamed tool.Memory h = tt
    blamed (tool.Write to) h = absurd h
    blamed (tool.BadQuestion item) h = absurd h
    blamed (tool.BadChanges why) h = absurd h
    blamed (tool.Config why) h = absurd h
    blamed tool.NoEntry h = absurd h
    blamed (tool.TooFewGroups groups) h = absurd h

    before : (why : ToolFault) → IsCopyFaultCause found.rows empty copy failures failures' why
        → (IsReaderFault why → GaveBytes copy copy' (λ bytes. CompleteRecordsLoad found.rows (empty_copy empty.suffix) (answers_after found.rows bytes))) → CopyHeldBefore found (copy, copy') why
    before (tool.Read input.Copy) h settled = loaded (settled tt)
    before (tool.Read input.Changes) h settled = tt
    before (tool.Read input.Config) h settled = tt
    before (tool.BadCopy line (cause.Code code)) h settled = tt
    before (tool.BadCopy line (cause.Fault why)) h settled = tt
    before (tool.BadCopy line (cause.Ended stream.TooManyTurns)) h settled = loaded (settled tt)
    before (tool.BadCopy line (cause.Ended stream.LineTooLong)) h settled = tt
    before (tool.BadCopy line (cause.Ended stream.Read)) h settled = tt
    before (tool.BadCopy line (cause.Ended stream.Memory)) h settled = tt
    before (tool.BadCopy line (cause.Ended stream.Ended)) h settled = tt
    before (tool.BadCopy line (cause.Ended stream.BadVersion)) h settled = tt
    before (tool.BadCopy line (cause.Ended stream.BadMark)) h settled = tt
    before tool.Memory h settled = tt
    before (tool.Write to) h settled = tt
    before (tool.BadQuestion item) h settled = tt
    before (tool.BadChanges why) h settled = tt
    before (tool.Config why) h settled = tt
    before tool.NoEntry h settled = tt
    before (tool.TooFewGroups groups) h settled = tt

-- ---- what a fault says

-- of the texts, of the complete records before it, and of when it comes
abbrev pub SaysOf : List TypeRow → QuestionSources → Option (List ℕ) → QuestionsFault → Type 0
SaysOf start known copy' why = IsFaultOfQuestions start known why × QuestionsHeldBefore start known.config known.questions (known.copy, copy') why × ComesAfterConfig why

module _ (start : List TypeRow) (config questions copy copy' : Option (List ℕ)) (found : Configured) (is : IsTextOf start config found) where
  abbrev bad : (why : QuestionsFault) → IfSome questions (λ text. question_blocks found.rows text ≡ Err why) → AreBadQuestions start config questions why
  bad why h = record { found = found; reads = is; blamed = h }

  -- no blocks of lines
  pub of_no_lines : (failures failures' : ℕ) (why : QuestionsFault) → HasNoLines questions failures failures' why → SaysOf start (question_sources config questions copy) copy' why
  of_no_lines failures failures' fault.Read h = (tt, tt, tt)
  of_no_lines failures failures' fault.TooLong h = (bad fault.TooLong (under found.rows questions (λ rows. Err fault.TooLong) h), tt, tt)
  of_no_lines failures failures' (fault.Stream why) h = (bad (fault.Stream why) (under found.rows questions (λ rows. Err (fault.Stream why)) h), tt, tt)
  of_no_lines failures failures' (fault.Block line why) h = absurd h
  of_no_lines failures failures' fault.Write h = absurd h
  of_no_lines failures failures' (fault.Tool tool.Memory) h = (tt, tt, tt)
  of_no_lines failures failures' (fault.Tool (tool.BadCopy line why)) h = absurd h
  of_no_lines failures failures' (fault.Tool (tool.Read from)) h = absurd h
  of_no_lines failures failures' (fault.Tool (tool.Write to)) h = absurd h
  of_no_lines failures failures' (fault.Tool (tool.BadQuestion item)) h = absurd h
  of_no_lines failures failures' (fault.Tool (tool.BadChanges why)) h = absurd h
  of_no_lines failures failures' (fault.Tool (tool.Config why)) h = absurd h
  of_no_lines failures failures' (fault.Tool tool.NoEntry) h = absurd h
  of_no_lines failures failures' (fault.Tool (tool.TooFewGroups groups)) h = absurd h

  -- blocks of lines that ask nothing
  pub of_lines : (lines : List (Vec Line Global)) (why : QuestionsFault) → HasLines questions (map (λ block. block.items) lines)
      → IsAskedFault why (collect (λ (block : Vec Line Global). read_block found.rows block.items) lines) → SaysOf start (question_sources config questions copy) copy' why
  of_lines lines (fault.Block line why) has h = (bad (fault.Block line why) (lines_ask found.rows questions lines (Err (fault.Block line why)) has h), tt, tt)
  of_lines lines (fault.Tool tool.Memory) has h = (tt, tt, tt)
  of_lines lines fault.Read has h = absurd h
  of_lines lines fault.TooLong has h = absurd h
  of_lines lines (fault.Stream why) has h = absurd h
  of_lines lines fault.Write has h = absurd h
  of_lines lines (fault.Tool (tool.BadCopy line why)) has h = absurd h
  of_lines lines (fault.Tool (tool.Read from)) has h = absurd h
  of_lines lines (fault.Tool (tool.Write to)) has h = absurd h
  of_lines lines (fault.Tool (tool.BadQuestion item)) has h = absurd h
  of_lines lines (fault.Tool (tool.BadChanges why)) has h = absurd h
  of_lines lines (fault.Tool (tool.Config why)) has h = absurd h
  of_lines lines (fault.Tool tool.NoEntry) has h = absurd h
  of_lines lines (fault.Tool (tool.TooFewGroups groups)) has h = absurd h

  module _ (blocks : List QuestionBlock) (asks : AsksThese found.rows questions blocks) where
    abbrev asking : AreAsked start config questions
    asking = record { found = found; reads = is; blocks = blocks; asked = asks }

    -- a fault of the copy
    pub of_copy : (why : ToolFault) → IsFaultOfCopy found (copy, copy') why → SaysOf start (question_sources config questions copy) copy' (fault.Tool why)
    of_copy tool.Memory h = (tt, tt, tt)
    of_copy (tool.Read input.Copy) h = (tt, (asking, h.before), tt)
    of_copy (tool.Read input.Changes) h = absurd h.blamed
    of_copy (tool.Read input.Config) h = absurd h.blamed
    of_copy (tool.BadCopy line (cause.Code code)) h = ((asking, h.blamed), tt, tt)
    of_copy (tool.BadCopy line (cause.Fault why)) h = ((asking, h.blamed), tt, tt)
    of_copy (tool.BadCopy line (cause.Ended stream.TooManyTurns)) h = ((asking, h.blamed), (asking, h.before), tt)
    of_copy (tool.BadCopy line (cause.Ended stream.LineTooLong)) h = ((asking, h.blamed), tt, tt)
    of_copy (tool.BadCopy line (cause.Ended stream.Read)) h = ((asking, h.blamed), tt, tt)
    of_copy (tool.BadCopy line (cause.Ended stream.Memory)) h = ((asking, h.blamed), tt, tt)
    of_copy (tool.BadCopy line (cause.Ended stream.Ended)) h = ((asking, h.blamed), tt, tt)
    of_copy (tool.BadCopy line (cause.Ended stream.BadVersion)) h = ((asking, h.blamed), tt, tt)
    of_copy (tool.BadCopy line (cause.Ended stream.BadMark)) h = ((asking, h.blamed), tt, tt)
    of_copy (tool.Write to) h = absurd h.blamed
    of_copy (tool.BadQuestion item) h = absurd h.blamed
    of_copy (tool.BadChanges why) h = absurd h.blamed
    of_copy (tool.Config why) h = absurd h.blamed
    of_copy tool.NoEntry h = absurd h.blamed
    of_copy (tool.TooFewGroups groups) h = absurd h.blamed

    -- the texts that were made
    pub stated_of : (options : QuestionOptions) (made : Texts) (h : MadeOver found options copy blocks made)
        → AreStatedTexts start options (question_sources config questions copy) (texts_on options found.configuration h.directory blocks)
    stated_of options made h = record { asking = asking; directory = h.directory; copy = h.copy_is; texts_are = refl }

-- ---- a fault before the writing

pub no_texts : QuestionTexts
no_texts = record { answers = []; report = []; tally = record { expected = 0; otherwise = 0; asked = 0 } }

module _ (start : List TypeRow) (known : QuestionSources) where
  -- nothing is written
  pub nothing_written : (wanted : Bool) (why : QuestionsFault) (texts : QuestionTexts) (answers report : Option (List ℕ)) → IsFaultOfQuestions start known why → WroteAnswers {A = Tally} wanted (Err why) texts (answers, answers) (report, report)
  nothing_written wanted fault.Read texts answers report h = (refl, refl)
  nothing_written wanted fault.TooLong texts answers report h = (refl, refl)
  nothing_written wanted (fault.Stream why) texts answers report h = (refl, refl)
  nothing_written wanted (fault.Block line why) texts answers report h = (refl, refl)
  nothing_written wanted fault.Write texts answers report h = absurd h
  nothing_written wanted (fault.Tool tool.Memory) texts answers report h = (refl, refl)
  nothing_written wanted (fault.Tool (tool.BadCopy line why)) texts answers report h = (refl, refl)
  nothing_written wanted (fault.Tool (tool.Read from)) texts answers report h = (refl, refl)
  nothing_written wanted (fault.Tool (tool.Write to)) texts answers report h = absurd h
  nothing_written wanted (fault.Tool (tool.BadQuestion item)) texts answers report h = (refl, refl)
  nothing_written wanted (fault.Tool (tool.BadChanges why)) texts answers report h = (refl, refl)
  nothing_written wanted (fault.Tool (tool.Config why)) texts answers report h = (refl, refl)
  nothing_written wanted (fault.Tool tool.NoEntry) texts answers report h = (refl, refl)
  nothing_written wanted (fault.Tool (tool.TooFewGroups groups)) texts answers report h = (refl, refl)

  answers_so : (options : QuestionOptions) (why : QuestionsFault) (texts : QuestionTexts) → IsFaultOfQuestions start known why → AnswersQuestions start options known (Err why) texts
  answers_so options fault.Read texts h = h
  answers_so options fault.TooLong texts h = h
  answers_so options (fault.Stream why) texts h = h
  answers_so options (fault.Block line why) texts h = h
  answers_so options fault.Write texts h = absurd h
  answers_so options (fault.Tool tool.Memory) texts h = h
  answers_so options (fault.Tool (tool.BadCopy line why)) texts h = h
  answers_so options (fault.Tool (tool.Read from)) texts h = h
  answers_so options (fault.Tool (tool.Write to)) texts h = absurd h
  answers_so options (fault.Tool (tool.BadQuestion item)) texts h = h
  answers_so options (fault.Tool (tool.BadChanges why)) texts h = h
  answers_so options (fault.Tool (tool.Config why)) texts h = h
  answers_so options (fault.Tool tool.NoEntry) texts h = h
  answers_so options (fault.Tool (tool.TooFewGroups groups)) texts h = h

  -- no writer has failed
  pub not_writing : (why : QuestionsFault) → IsFaultOfQuestions start known why → (why ≢ fault.Write) × (why ≢ fault.Tool (tool.Write output.Report))
  not_writing why h = ((λ is. subst (IsFaultOfQuestions start known) is h), (λ is. subst (IsFaultOfQuestions start known) is h))

-- the definition, where all three texts are known
module _ (start : List TypeRow) (options : QuestionOptions) (config questions copy : List ℕ) where
  abbrev sources : QuestionSources
  sources = question_sources (Some config) (Some questions) (Some copy)

  abbrev under_config : Result Configured ConfigFault → Result QuestionTexts QuestionsFault
  under_config c = and_then (tool_faults (ok_or_bad_config c)) (λ found. texts_under options found questions copy)

  abbrev under_questions : Configured → Result (List QuestionBlock) QuestionsFault → Result QuestionTexts QuestionsFault
  under_questions found asked = and_then asked (λ blocks. and_then (tool_faults (ok_or_bad_copy (copy_of found.rows found.configuration.suffix copy))) (λ d. Ok (texts_on options found.configuration d blocks)))

  abbrev under_copy : Configured → List QuestionBlock → Result Dir CopyFault → Result QuestionTexts QuestionsFault
  under_copy found blocks d = and_then (tool_faults (ok_or_bad_copy d)) (λ d. Ok (texts_on options found.configuration d blocks))

  stated : (texts : QuestionTexts) → AreStatedTexts start options sources texts → questions_of start options config questions copy ≡ Ok texts
  stated texts h =
      ap under_config h.asking.reads ∙ ap (under_questions h.asking.found) h.asking.asked ∙ ap (under_copy h.asking.found h.asking.blocks) h.copy ∙ ap Ok (sym h.texts_are)

  bad_questions : (why : QuestionsFault) → AreBadQuestions start (Some config) (Some questions) why → questions_of start options config questions copy ≡ Err why
  bad_questions why h = ap under_config h.reads ∙ ap (under_questions h.found) h.blamed

  bad_copy : (asking : AreAsked start (Some config) (Some questions)) (line : ℕ) (why : Cause) → copy_of asking.found.rows asking.found.configuration.suffix copy ≡ Err (line, why) → questions_of start options config questions copy ≡ Err (fault.Tool (tool.BadCopy line why))
  bad_copy asking line why h = ap under_config asking.reads ∙ ap (under_questions asking.found) asking.asked ∙ ap (under_copy asking.found asking.blocks) h

  wholly : (why : QuestionsFault) (texts : QuestionTexts) → IsFaultOfQuestions start sources why → IsAnswerOf (Err why) texts (questions_of start options config questions copy)
  wholly fault.Read texts h = tt
  wholly fault.TooLong texts h = bad_questions fault.TooLong h
  wholly (fault.Stream why) texts h = bad_questions (fault.Stream why) h
  wholly (fault.Block line why) texts h = bad_questions (fault.Block line why) h
  wholly fault.Write texts h = absurd h
  wholly (fault.Tool tool.Memory) texts h = tt
  wholly (fault.Tool (tool.Read from)) texts h = tt
  wholly (fault.Tool (tool.Config why)) texts h = ap under_config h.1
  wholly (fault.Tool (tool.BadCopy line (cause.Code code))) texts h = bad_copy h.0 line (cause.Code code) h.1
  wholly (fault.Tool (tool.BadCopy line (cause.Fault why))) texts h = bad_copy h.0 line (cause.Fault why) h.1
  wholly (fault.Tool (tool.BadCopy line (cause.Ended stream.TooManyTurns))) texts h = tt
  wholly (fault.Tool (tool.BadCopy line (cause.Ended stream.LineTooLong))) texts h = bad_copy h.0 line (cause.Ended stream.LineTooLong) h.1
  wholly (fault.Tool (tool.BadCopy line (cause.Ended stream.Read))) texts h = bad_copy h.0 line (cause.Ended stream.Read) h.1
  wholly (fault.Tool (tool.BadCopy line (cause.Ended stream.Memory))) texts h = bad_copy h.0 line (cause.Ended stream.Memory) h.1
  wholly (fault.Tool (tool.BadCopy line (cause.Ended stream.Ended))) texts h = bad_copy h.0 line (cause.Ended stream.Ended) h.1
  wholly (fault.Tool (tool.BadCopy line (cause.Ended stream.BadVersion))) texts h = bad_copy h.0 line (cause.Ended stream.BadVersion) h.1
  wholly (fault.Tool (tool.BadCopy line (cause.Ended stream.BadMark))) texts h = bad_copy h.0 line (cause.Ended stream.BadMark) h.1
  wholly (fault.Tool (tool.Write to)) texts h = absurd h
  wholly (fault.Tool (tool.BadQuestion item)) texts h = absurd h
  wholly (fault.Tool (tool.BadChanges why)) texts h = absurd h
  wholly (fault.Tool tool.NoEntry) texts h = absurd h
  wholly (fault.Tool (tool.TooFewGroups groups)) texts h = absurd h

whole_fault : (start : List TypeRow) (options : QuestionOptions) (config questions copy : Option (List ℕ)) (why : QuestionsFault) (texts : QuestionTexts)
    → IsFaultOfQuestions start (question_sources config questions copy) why → IsWholeAnswer start options (question_sources config questions copy) (Err why) texts
whole_fault start options None questions copy why texts h = tt
whole_fault start options (Some config) None copy why texts h = tt
whole_fault start options (Some config) (Some questions) None why texts h = tt
whole_fault start options (Some config) (Some questions) (Some copy) why texts h = wholly start options config questions copy why texts h

pub fault_answers : (start : List TypeRow) (options : QuestionOptions) (config questions copy : Option (List ℕ)) (why : QuestionsFault) (texts : QuestionTexts)
    → IsFaultOfQuestions start (question_sources config questions copy) why
    → AnswersQuestions start options (question_sources config questions copy) (Err why) texts × IsWholeAnswer start options (question_sources config questions copy) (Err why) texts
fault_answers start options config questions copy why texts h =
    (answers_so start (question_sources config questions copy) options why texts h, whole_fault start options config questions copy why texts h)

whole_texts : (start : List TypeRow) (options : QuestionOptions) (config questions copy : Option (List ℕ)) (texts : QuestionTexts)
    → AreStatedTexts start options (question_sources config questions copy) texts
    → IfSome config (λ config. IfSome questions (λ questions. IfSome copy (λ copy. questions_of start options config questions copy ≡ Ok texts)))
whole_texts start options None questions copy texts h = tt
whole_texts start options (Some config) None copy texts h = tt
whole_texts start options (Some config) (Some questions) None texts h = tt
whole_texts start options (Some config) (Some questions) (Some copy) texts h = stated start options config questions copy texts h

whole_ok : (start : List TypeRow) (options : QuestionOptions) (config questions copy : Option (List ℕ)) (texts : QuestionTexts) (tally : Tally) → tally ≡ texts.tally
    → AreStatedTexts start options (question_sources config questions copy) texts → IsWholeAnswer start options (question_sources config questions copy) (Ok tally) texts
whole_ok start options None questions copy texts tally same h = tt
whole_ok start options (Some config) None copy texts tally same h = tt
whole_ok start options (Some config) (Some questions) None texts tally same h = tt
whole_ok start options (Some config) (Some questions) (Some copy) texts tally same h = (stated start options config questions copy texts h, same)

-- ---- after the writing

-- they are the answer, whether or not they could be written
pub texts_answer : (start : List TypeRow) (options : QuestionOptions) (config questions copy : Option (List ℕ)) (texts : QuestionTexts) (result : Result Tally QuestionsFault)
    → IfErr result IsWriterFault → IfOk result (λ tally. tally ≡ texts.tally) → AreStatedTexts start options (question_sources config questions copy) texts
    → AnswersQuestions start options (question_sources config questions copy) result texts × IsWholeAnswer start options (question_sources config questions copy) result texts
texts_answer start options config questions copy texts (Ok tally) is same h = ((h, same), whole_ok start options config questions copy texts tally same h)
texts_answer start options config questions copy texts (Err fault.Write) is same h = (h, whole_texts start options config questions copy texts h)
texts_answer start options config questions copy texts (Err (fault.Tool (tool.Write output.Report))) is same h = (h, whole_texts start options config questions copy texts h)
texts_answer start options config questions copy texts (Err (fault.Tool (tool.Write output.Undo))) is same h = absurd is
texts_answer start options config questions copy texts (Err (fault.Tool (tool.Write output.Out))) is same h = absurd is
texts_answer start options config questions copy texts (Err (fault.Tool tool.Memory)) is same h = absurd is
texts_answer start options config questions copy texts (Err (fault.Tool (tool.BadCopy line why))) is same h = absurd is
texts_answer start options config questions copy texts (Err (fault.Tool (tool.Read from))) is same h = absurd is
texts_answer start options config questions copy texts (Err (fault.Tool (tool.BadQuestion item))) is same h = absurd is
texts_answer start options config questions copy texts (Err (fault.Tool (tool.BadChanges why))) is same h = absurd is
texts_answer start options config questions copy texts (Err (fault.Tool (tool.Config why))) is same h = absurd is
texts_answer start options config questions copy texts (Err (fault.Tool tool.NoEntry)) is same h = absurd is
texts_answer start options config questions copy texts (Err (fault.Tool (tool.TooFewGroups groups))) is same h = absurd is
texts_answer start options config questions copy texts (Err fault.Read) is same h = absurd is
texts_answer start options config questions copy texts (Err fault.TooLong) is same h = absurd is
texts_answer start options config questions copy texts (Err (fault.Stream why)) is same h = absurd is
texts_answer start options config questions copy texts (Err (fault.Block line why)) is same h = absurd is

-- a writer's fault says nothing of what was read
pub says_nothing : (P : QuestionsFault → Type 0) (result : Result Tally QuestionsFault) → P fault.Write → P (fault.Tool (tool.Write output.Report)) → IfErr result IsWriterFault → IfErr result P
says_nothing P (Ok tally) write report is = tt
says_nothing P (Err fault.Write) write report is = write
says_nothing P (Err (fault.Tool (tool.Write output.Report))) write report is = report
says_nothing P (Err (fault.Tool (tool.Write output.Undo))) write report is = absurd is
says_nothing P (Err (fault.Tool (tool.Write output.Out))) write report is = absurd is
says_nothing P (Err (fault.Tool tool.Memory)) write report is = absurd is
says_nothing P (Err (fault.Tool (tool.BadCopy line why))) write report is = absurd is
says_nothing P (Err (fault.Tool (tool.Read from))) write report is = absurd is
says_nothing P (Err (fault.Tool (tool.BadQuestion item))) write report is = absurd is
says_nothing P (Err (fault.Tool (tool.BadChanges why))) write report is = absurd is
says_nothing P (Err (fault.Tool (tool.Config why))) write report is = absurd is
says_nothing P (Err (fault.Tool tool.NoEntry)) write report is = absurd is
says_nothing P (Err (fault.Tool (tool.TooFewGroups groups))) write report is = absurd is
says_nothing P (Err fault.Read) write report is = absurd is
says_nothing P (Err fault.TooLong) write report is = absurd is
says_nothing P (Err (fault.Stream why)) write report is = absurd is
says_nothing P (Err (fault.Block line why)) write report is = absurd is

-- it is no fault of a reader
pub not_reading : (result : Result Tally QuestionsFault) → IfErr result IsWriterFault → (result ≢ Err fault.Read) × (result ≢ Err (fault.Tool (tool.Read input.Copy)))
not_reading result h = ((λ is. subst (λ (r : Result Tally QuestionsFault). IfErr r IsWriterFault) is h), (λ is. subst (λ (r : Result Tally QuestionsFault). IfErr r IsWriterFault) is h))

-- ---- a configuration that is read

-- the fault of a configuration is one
pub config_blamed : (start : List TypeRow) (known : QuestionSources) (why : ToolFault) → IsConfigFault start known.config why → IsFaultOfQuestions start known (fault.Tool why)
config_blamed start known (tool.Config why) h = h
config_blamed start known (tool.Read input.Config) h = tt
config_blamed start known (tool.Read input.Copy) h = absurd h
config_blamed start known (tool.Read input.Changes) h = absurd h
config_blamed start known tool.Memory h = tt
config_blamed start known (tool.Write to) h = absurd h
config_blamed start known (tool.BadCopy line why) h = absurd h
config_blamed start known (tool.BadQuestion item) h = absurd h
config_blamed start known (tool.BadChanges why) h = absurd h
config_blamed start known tool.NoEntry h = absurd h
config_blamed start known (tool.TooFewGroups groups) h = absurd h

-- and says nothing of the copy
pub config_first : (start : List TypeRow) (config questions copy copy' : Option (List ℕ)) (why : ToolFault) → IsConfigFault start config why → QuestionsHeldBefore start config questions (copy, copy') (fault.Tool why)
config_first start config questions copy copy' (tool.Config why) h = tt
config_first start config questions copy copy' (tool.Read input.Config) h = tt
config_first start config questions copy copy' (tool.Read input.Copy) h = absurd h
config_first start config questions copy copy' (tool.Read input.Changes) h = tt
config_first start config questions copy copy' tool.Memory h = tt
config_first start config questions copy copy' (tool.Write to) h = tt
config_first start config questions copy copy' (tool.BadCopy line why) h = absurd h
config_first start config questions copy copy' (tool.BadQuestion item) h = tt
config_first start config questions copy copy' (tool.BadChanges why) h = tt
config_first start config questions copy copy' tool.NoEntry h = tt
config_first start config questions copy copy' (tool.TooFewGroups groups) h = tt

-- what holds before a fault of the copy's reader, under the text of this configuration
pub held_before : (start : List TypeRow) (config questions copy copy' : Option (List ℕ)) (found : Configured) (result : Result Tally QuestionsFault) → IsTextOf start config found
    → IfErr result (λ why. (start : List TypeRow) (known : Option (List ℕ)) → IsTextOf start known found → QuestionsHeldBefore start known questions (copy, copy') why) → IfErr result (QuestionsHeldBefore start config questions (copy, copy'))
held_before start config questions copy copy' found (Ok tally) is h = tt
held_before start config questions copy copy' found (Err why) is h = h start config is

-- where a text of the questions asks this
pub first_of : (questions copy copy' : Option (List ℕ)) (found : Configured) (blocks : List QuestionBlock) → AsksThese found.rows questions blocks → (result : Result Tally QuestionsFault)
    → IfErr result (λ why. (start : List TypeRow) (known questions : Option (List ℕ)) → IsTextOf start known found → AsksThese found.rows questions blocks → QuestionsHeldBefore start known questions (copy, copy') why)
    → IfErr result (λ why. (start : List TypeRow) (known : Option (List ℕ)) → IsTextOf start known found → QuestionsHeldBefore start known questions (copy, copy') why)
first_of questions copy copy' found blocks asks (Ok tally) h = tt
first_of questions copy copy' found blocks asks (Err why) h = λ start known is. h start known questions is asks

-- what comes after the questions comes after the configuration
pub after_both : (result : Result Tally QuestionsFault) → IfErr result ComesAfterQuestions → IfErr result ComesAfterConfig
after_both (Ok tally) h = tt
after_both (Err (fault.Tool why)) h = h
after_both (Err fault.Write) h = tt
after_both (Err fault.Read) h = tt
after_both (Err fault.TooLong) h = tt
after_both (Err (fault.Stream why)) h = tt
after_both (Err (fault.Block line why)) h = tt

-- the questions' reader has not failed
pub not_of_questions : (result : Result Tally QuestionsFault) → IfErr result ComesAfterQuestions → result ≢ Err fault.Read
not_of_questions result after is = subst (λ (r : Result Tally QuestionsFault). IfErr r ComesAfterQuestions) is after

-- the configuration's reader has not failed
pub not_before : (result : Result Tally QuestionsFault) → IfErr result ComesAfterConfig → result ≢ Err (fault.Tool (tool.Read input.Config))
not_before result after is = subst (λ (r : Result Tally QuestionsFault). IfErr r ComesAfterConfig) is after
