-- The calls of slapacl with a file of questions, one after the other.
use Rattle.std.proofs.Common.{◌≡◌, ℕ, Bool, List, [], ◌∷◌, Option, None, Some, IfErr, IfSome, Result, Ok, Err, inl, inr, refl, sym, subst}
use Rattle.std.specs.Option.{option_copied}
use Rattle.std.specs.Prelude.{⊤}
use Rattle.dir_names.specs.Table.Builtin.{builtin_rows}
use Rattle.dir_questions.specs.declared.fault.QuestionsFault.{QuestionsFault}
use Rattle.dir_questions.specs.declared.fault.QuestionsFault.TheVariants as suite
use Rattle.dir_questions.specs.declared.report.Tally.{Tally}
use Rattle.dir_questions.specs.Runs as runs
use Rattle.dir_questions.specs.declared.run.QuestionOptions.{QuestionOptions}
use Rattle.dir_questions.specs.Reading.{IsAskedFault}
use Rattle.dir_questions.specs.Runs.{AnswersQuestions, HasNoLines, IsFaultOfQuestions, IsWholeAnswer, QuestionSources, QuestionTexts, WroteAnswers, question_sources}
use Rattle.dir_questions.proofs.RunLemmas.{config_blamed, fault_answers, no_texts, nothing_written}
use Rattle.dir_acl.specs.declared.note.Note.{Note}
use Rattle.dir_tools.specs.declared.fault.Input.TheVariants as input
use Rattle.dir_tools.specs.declared.fault.Output.TheVariants as output
use Rattle.dir_tools.specs.declared.fault.ToolFault.{ToolFault}
use Rattle.dir_tools.specs.declared.fault.ToolFault.TheVariants as tool
use Rattle.dir_tools.specs.AccessAnswers as access
use Rattle.dir_tools.specs.AccessAnswers.{IsConfigFault}
use Rattle.dir_tools.specs.Writing.{TakenBytes}
use Rattle.dir_files.specs.declared.words.QuestionWords.{QuestionWords}
use Rattle.dir_files.specs.declared.fault.Fault.{Fault}
use Rattle.dir_files.specs.declared.fault.Fault.TheVariants as fault
use Rattle.dir_files.specs.declared.files.Refusal.{Refusal}
use Rattle.dir_files.specs.Faults.{FailsSo, IsExists, IsNotCreated, IsNotOpened, IsNotReported, IsQuestionsFault, IsRunFault, IsTool}
use Rattle.dir_files.specs.Files.{Call, Disk, Told, creates, discards, opens, reports}
use Rattle.dir_files.specs.Notes.{AreNotesOf, AreToldFor, AreToldOfQuestions, IsAfterNotes, MayBeAnswered, NotesOnAsked, TellsFor}
use Rattle.dir_files.specs.OneOutput.{IsUnfinished}
use Rattle.dir_files.specs.QuestionRuns.{AllQuestionCalls, AnswersAll, AnswersIntoDraft, AnswersOrStops, AnswersOver, EndsAnswering, EndsWithAnswers, EndsWithReport, IsToldAs, NamesItsAnswers, QuestionCalls, ReportsAnswers, WritesAnswers, options_of, question_sources_of}
use Rattle.dir_files.specs.Runs.{Ends, Made, Opens}
use Rattle.dir_files.proofs.CallLemmas.{Just, at_some, ends, just_none, just_one, made_as, made_none, made_then, still, tries_on, tries_refused}
use Rattle.dir_files.proofs.NoteLemmas.{all_told, none_given, none_told}

-- ---- the answer

-- what is read is at fault, or memory ran out
pub at_fault : (words : QuestionWords) (config questions copy : Option (List ℕ)) (why : QuestionsFault) (shown : Fault) (answers report : Option (List ℕ))
    → IsFaultOfQuestions builtin_rows (question_sources config questions copy) why → IsQuestionsFault why shown
    → AnswersOrStops words (question_sources config questions copy) (Err shown) (answers, answers) (report, report)
at_fault words config questions copy why shown answers report blamed is =
    let known : QuestionSources = question_sources config questions copy in
    let answer = fault_answers builtin_rows (options_of words) config questions copy why no_texts blamed in
    inr (
      Err why,
      record {
        texts = no_texts;
        wrote = nothing_written builtin_rows known (options_of words).answers why no_texts answers report blamed;
        stated = answer.0;
        whole = answer.1;
      },
      is,
    )

-- the configuration has a fault, or is not read
pub unread : (words : QuestionWords) (config questions copy : Option (List ℕ)) (e : ToolFault) (shown : Fault) (answers report : Option (List ℕ))
    → IsConfigFault builtin_rows config e → IsRunFault e shown
    → AnswersOrStops words (question_sources config questions copy) (Err shown) (answers, answers) (report, report)
unread words config questions copy e shown answers report h is =
    at_fault words config questions copy (suite.Tool e) shown answers report (config_blamed builtin_rows (question_sources config questions copy) e h) is

-- the tool answers
pub answers_over : (words : QuestionWords) (known : QuestionSources) (options : QuestionOptions) (answer : Result Tally QuestionsFault) (texts : QuestionTexts) (told : Result Tally Fault) (answers report : TakenBytes)
    → options ≡ options_of words → WroteAnswers options.answers answer texts answers report
    → AnswersQuestions builtin_rows options known answer texts × IsWholeAnswer builtin_rows options known answer texts → IsToldAs answer told → AnswersOrStops words known told answers report
answers_over words known options answer texts told answers report same wrote stated is =
    let over : AnswersOver options known answer answers report = record { texts = texts; wrote = wrote; stated = stated.0; whole = stated.1 } in
    inr (answer, subst (λ (o : QuestionOptions). AnswersOver o known answer answers report) same over, is)

-- what the tool writes into the report is what the buffer has taken
pub over_report : (words : QuestionWords) (known : QuestionSources) (told : Result Tally Fault) (answers : TakenBytes) (before after : Option (List ℕ)) (report : List ℕ)
    → AnswersOrStops words known told answers (before, after) → before ≡ Some [] → after ≡ Some report → AnswersOrStops words known told answers (Some [], Some report)
over_report words known told answers before after report h fresh taken =
    subst (λ (t : Option (List ℕ)). AnswersOrStops words known told answers (Some [], t)) taken
    (subst (λ (t : Option (List ℕ)). AnswersOrStops words known told answers (t, after)) fresh h)

-- ---- the faults and the notes

tool_after : (told : ToolFault) (e : Fault) → access.ComesAfterConfig told → IsTool told e → IsAfterNotes e
tool_after told (fault.Tool shown) h is = subst (λ (f : ToolFault). access.ComesAfterConfig f) (sym is) h
tool_after told (fault.Questions why) h is = absurd (is)
tool_after told (fault.NoWords why) h is = absurd (is)
tool_after told (fault.TooFewGroups wanted groups) h is = absurd (is)
tool_after told (fault.Conf why) h is = absurd (is)
tool_after told fault.FlatUnwritten h is = absurd (is)
tool_after told (fault.SamePath path) h is = absurd (is)
tool_after told (fault.CannotOpen path) h is = absurd (is)
tool_after told (fault.Exists path) h is = absurd (is)
tool_after told fault.HasNotes h is = absurd (is)
tool_after told fault.NotesUntold h is = absurd (is)

run_after : (told : ToolFault) (e : Fault) → runs.ComesAfterConfig (suite.Tool told) → IsRunFault told e → IsAfterNotes e
run_after (tool.Config why) e h is = absurd (h)
run_after (tool.Read input.Config) e h is = absurd (h)
run_after (tool.Read input.Copy) e h is = tool_after (tool.Read input.Copy) e tt is
run_after (tool.Read input.Changes) e h is = tool_after (tool.Read input.Changes) e tt is
run_after tool.Memory e h is = tool_after tool.Memory e tt is
run_after (tool.Write output.Report) e h is = tool_after tool.Memory e tt is
run_after (tool.Write output.Undo) e h is = tool_after (tool.Write output.Undo) e tt is
run_after (tool.Write output.Out) e h is = tool_after (tool.Write output.Out) e tt is
run_after (tool.BadCopy line why) e h is = tool_after (tool.BadCopy line why) e tt is
run_after (tool.BadQuestion item) e h is = tool_after (tool.BadQuestion item) e tt is
run_after (tool.BadChanges why) e h is = tool_after (tool.BadChanges why) e tt is
run_after tool.NoEntry e h is = tool_after tool.NoEntry e tt is
run_after (tool.TooFewGroups groups) e h is = tool_after (tool.TooFewGroups groups) e tt is

-- a fault of what is read after the questions, or of the writing, comes after the notes
pub questions_after : (why : QuestionsFault) (e : Fault) → runs.ComesAfterQuestions why → IsQuestionsFault why e → IsAfterNotes e
questions_after (suite.Tool told) e h is = run_after told e h is
questions_after suite.Write e h is = subst IsAfterNotes (sym is) tt
questions_after suite.Read e h is = absurd (h)
questions_after suite.TooLong e h is = absurd (h)
questions_after (suite.Stream why) e h is = absurd (h)
questions_after (suite.Block line why) e h is = absurd (h)

-- a fault of the questions comes before them; so does that memory ran out as they were read
abbrev IsBeforeNotes : QuestionsFault → Type 0
IsBeforeNotes suite.Write = ⊥
IsBeforeNotes (suite.Tool tool.Memory) = ⊤
IsBeforeNotes (suite.Tool why) = ⊥
IsBeforeNotes why = ⊤

pub lines_before : (text : Option (List ℕ)) (failures failures' : ℕ) (why : QuestionsFault) → HasNoLines text failures failures' why → IsBeforeNotes why
lines_before text failures failures' suite.Read h = tt
lines_before text failures failures' suite.TooLong h = tt
lines_before text failures failures' (suite.Stream why) h = tt
lines_before text failures failures' (suite.Block line why) h = tt
lines_before text failures failures' suite.Write h = absurd (h)
lines_before text failures failures' (suite.Tool tool.Memory) h = tt
lines_before text failures failures' (suite.Tool (tool.BadCopy line why)) h = absurd (h)
lines_before text failures failures' (suite.Tool (tool.Read from)) h = absurd (h)
lines_before text failures failures' (suite.Tool (tool.Write to)) h = absurd (h)
lines_before text failures failures' (suite.Tool (tool.BadQuestion item)) h = absurd (h)
lines_before text failures failures' (suite.Tool (tool.BadChanges why)) h = absurd (h)
lines_before text failures failures' (suite.Tool (tool.Config why)) h = absurd (h)
lines_before text failures failures' (suite.Tool tool.NoEntry) h = absurd (h)
lines_before text failures failures' (suite.Tool (tool.TooFewGroups groups)) h = absurd (h)

pub blocks_before : {A : Type 0} (wanted : Result A QuestionsFault) (why : QuestionsFault) → IsAskedFault why wanted → IsBeforeNotes why
blocks_before wanted (suite.Block line why) h = tt
blocks_before wanted (suite.Tool tool.Memory) h = tt
blocks_before wanted suite.Read h = absurd (h)
blocks_before wanted suite.TooLong h = absurd (h)
blocks_before wanted (suite.Stream why) h = absurd (h)
blocks_before wanted suite.Write h = absurd (h)
blocks_before wanted (suite.Tool (tool.BadCopy line why)) h = absurd (h)
blocks_before wanted (suite.Tool (tool.Read from)) h = absurd (h)
blocks_before wanted (suite.Tool (tool.Write to)) h = absurd (h)
blocks_before wanted (suite.Tool (tool.BadQuestion item)) h = absurd (h)
blocks_before wanted (suite.Tool (tool.BadChanges why)) h = absurd (h)
blocks_before wanted (suite.Tool (tool.Config why)) h = absurd (h)
blocks_before wanted (suite.Tool tool.NoEntry) h = absurd (h)
blocks_before wanted (suite.Tool (tool.TooFewGroups groups)) h = absurd (h)

module _ (asked : NotesOnAsked) (strict : Bool) (text : Option (List ℕ)) (e : Fault) (given : Option (List Note)) where
  untold_of : (why : QuestionsFault) → e ≡ fault.Questions why → AreToldOfQuestions asked strict text why [] → TellsFor {A = Tally} asked strict text (Err e) given given
  untold_of why is h = ([], none_given given, subst (λ (f : Fault). AreToldFor {A = Tally} asked strict text (Err f) []) (sym is) h)

  pub untold : (why : QuestionsFault) → IsBeforeNotes why → IsQuestionsFault why e → TellsFor {A = Tally} asked strict text (Err e) given given
  untold suite.Read h is = untold_of suite.Read is refl
  untold suite.TooLong h is = untold_of suite.TooLong is refl
  untold (suite.Stream why) h is = untold_of (suite.Stream why) is refl
  untold (suite.Block line why) h is = untold_of (suite.Block line why) is refl
  untold suite.Write h is = absurd (h)
  untold (suite.Tool tool.Memory) h is = none_told Tally asked strict text tool.Memory e given tt is
  untold (suite.Tool (tool.BadCopy line why)) h is = absurd (h)
  untold (suite.Tool (tool.Read from)) h is = absurd (h)
  untold (suite.Tool (tool.Write to)) h is = absurd (h)
  untold (suite.Tool (tool.BadQuestion item)) h is = absurd (h)
  untold (suite.Tool (tool.BadChanges why)) h is = absurd (h)
  untold (suite.Tool (tool.Config why)) h is = absurd (h)
  untold (suite.Tool tool.NoEntry) h is = absurd (h)
  untold (suite.Tool (tool.TooFewGroups groups)) h is = absurd (h)

-- the notes were told, and then the file of answers or the report could not be written
pub unfinished : (asked : NotesOnAsked) (strict : Bool) (text : Option (List ℕ)) (path : List ℕ) (notes : List Note) (e : Fault) → IsUnfinished path (fault.Questions suite.Write) e
    → AreNotesOf asked text notes × MayBeAnswered strict notes → AreToldFor {A = Tally} asked strict text (Err e) notes
unfinished asked strict text path notes e (inl same) told = subst (λ (f : Fault). AreToldFor {A = Tally} asked strict text (Err f) notes) (sym same) told
unfinished asked strict text path notes e (inr (inl exists)) told = came e exists
  where
    came : (e : Fault) → IsExists path e → AreToldFor {A = Tally} asked strict text (Err e) notes
    came (fault.Exists named) is = inr told
    came (fault.Tool shown) is = absurd (is)
    came (fault.Questions why) is = absurd (is)
    came (fault.NoWords why) is = absurd (is)
    came (fault.TooFewGroups wanted groups) is = absurd (is)
    came (fault.Conf why) is = absurd (is)
    came fault.FlatUnwritten is = absurd (is)
    came (fault.SamePath named) is = absurd (is)
    came (fault.CannotOpen named) is = absurd (is)
    came fault.HasNotes is = absurd (is)
    came fault.NotesUntold is = absurd (is)
unfinished asked strict text path notes e (inr (inr (inl is))) told = all_told {A = Tally} asked strict text notes (Err e) (tool_after tool.Memory e tt is) told.0 told.1
unfinished asked strict text path notes e (inr (inr (inr is))) told = all_told {A = Tally} asked strict text notes (Err e) (tool_after (tool.Write output.Report) e tt is) told.0 told.1

-- the answer, or the fault of the end
pub told_by_end : (asked : NotesOnAsked) (strict : Bool) (text : Option (List ℕ)) (path : List ℕ) (tally : Tally) (result : Result Tally Fault) (a b : Option (List Note))
    → TellsFor asked strict text (Ok tally) a b → IfErr result (IsUnfinished path (fault.Questions suite.Write)) → TellsFor asked strict text result a b
told_by_end asked strict text path tally (Ok answer) a b h is = (h.0, h.1, h.2)
told_by_end asked strict text path tally (Err e) a b h is = (h.0, h.1, unfinished asked strict text path h.0 e is h.2)

-- a fault that names no path
pub ends_named : (words : QuestionWords) (e : Fault) → EndsAnswering words.strict e → NamesItsAnswers words e
ends_named words (fault.Tool shown) h = h
ends_named words (fault.Questions why) h = h
ends_named words (fault.NoWords why) h = h
ends_named words (fault.TooFewGroups wanted groups) h = h
ends_named words (fault.Conf why) h = absurd (h)
ends_named words fault.FlatUnwritten h = absurd (h)
ends_named words (fault.SamePath path) h = h
ends_named words (fault.CannotOpen path) h = absurd (h)
ends_named words (fault.Exists path) h = absurd (h)
ends_named words fault.HasNotes h = h
ends_named words fault.NotesUntold h = h

-- some calls
pub later : (P : Disk → List Call → Type 0) (call : Call) (a b c : Option Disk) → Told a b call → Made b c P → Made a c (λ d calls. ⊤)
later P call a b c told made = made_then a b c call (λ d calls. ⊤) P told made (λ d after is h. tt)

-- ---- with a file of answers

module _ (path : List ℕ) (mode : ℕ) (words : QuestionWords) (known : QuestionSources) (result : Result Tally Fault) where
  -- its draft is created, and the questions are answered into it
  pub answers_into : (told : Result Tally Fault) (before answers : Option (List ℕ)) (report : List ℕ) (a b c : Option Disk) → Told a b (creates path mode None)
      → IfSome b (λ d. before ≡ Some []) → AnswersOrStops words known told (before, answers) (Some [], Some report)
      → Made b c (λ d. EndsWithAnswers path answers report told result) → Made a c (λ d. WritesAnswers path mode words known result)
  answers_into told before answers report a b c first fresh over ended =
      tries_on (creates path mode) (IsNotCreated path) [] result (AnswersIntoDraft path words known result) a b c first
      (made_as b c (λ d. EndsWithAnswers path answers report told result) (λ d. AnswersIntoDraft path words known result) ended
      (λ d calls is h. (told, answers, report, from (at_some (before ≡ Some []) b d is fresh), h)))
    where
      from : before ≡ Some [] → AnswersOrStops words known told (Some [], answers) (Some [], Some report)
      from is = subst (λ (t : Option (List ℕ)). AnswersOrStops words known told (t, answers) (Some [], Some report)) is over

  pub not_created : (a b : Option Disk) (why : Refusal) → Told a b (creates path mode (Some why)) → FailsSo (IsNotCreated path why) result
      → Made a b (λ d. WritesAnswers path mode words known result)
  not_created a b why told fails = tries_refused (creates path mode) (IsNotCreated path) [] result (λ d. AnswersIntoDraft path words known result) a b b why told (just_none b) fails

-- after a fault the draft is removed
pub draft_removed : (path : List ℕ) (answers : Option (List ℕ)) (report : List ℕ) (e : Fault) (a b : Option Disk) → Told a b (discards path)
    → Made a b (λ d. EndsWithAnswers path answers report (Err e) (Err e))
draft_removed path answers report e a b told =
    made_as a b (Just (discards path ∷ [])) (λ d. EndsWithAnswers path answers report (Err e) (Err e)) (just_one a b (discards path) told) (λ d calls is same. (same, refl))

-- ---- without one

pub reports_answers : (words : QuestionWords) (known : QuestionSources) (told : Result Tally Fault) (report : List ℕ) (result : Result Tally Fault) (a b : Option Disk)
    → AnswersOrStops words known told (None, None) (Some [], Some report) → Made a b (λ d. EndsWithReport report told result) → Made a b (λ d. ReportsAnswers words known result)
reports_answers words known told report result a b over ended =
    made_as a b (λ d. EndsWithReport report told result) (λ d. ReportsAnswers words known result) ended (λ d calls is h. (told, report, over, h))

pub no_report : (report : List ℕ) (e : Fault) (a : Option Disk) → Made a a (λ d. EndsWithReport report (Err e) (Err e))
no_report report e a = made_none a (λ d. EndsWithReport report (Err e) (Err e)) (λ d is. (refl, refl))

pub report_refused : (report : List ℕ) (tally : Tally) (why : Refusal) (e : Fault) (a b : Option Disk) → Told a b (reports report (Some why)) → IsNotReported why e
    → Made a b (λ d. EndsWithReport report (Ok tally) (Err e))
report_refused report tally why e a b told fails =
    let failed : Result Tally Fault = Err e in
    tries_refused (reports report) IsNotReported [] failed (λ d. Ends tally failed) a b b why told (just_none b) fails

pub reported : (report : List ℕ) (tally : Tally) (a b : Option Disk) → Told a b (reports report None) → Made a b (λ d. EndsWithReport report (Ok tally) (Ok tally))
reported report tally a b told =
    let done : Result Tally Fault = Ok tally in
    tries_on (reports report) IsNotReported [] done (Ends tally done) a b b told (ends b tally)

-- ---- the run from its beginning, where no path is given twice

module _ (words : QuestionWords) (repeated : Option (List ℕ)) (result : Result Tally Fault) (none : repeated ≡ None) where
  abbrev Answering : Disk → List Call → Type 0
  Answering d calls = AnswersAll (option_copied words.answers) (d.mode_at words.questions.now) words (question_sources_of words d) result calls

  abbrev Copy : Disk → List Call → Type 0
  Copy d calls = Opens words.data.now result (Answering d) calls

  abbrev Asked : Disk → List Call → Type 0
  Asked d calls = Opens words.questions.now result (Copy d) calls

  abbrev Whole : Disk → List Call → Type 0
  Whole d calls = AllQuestionCalls repeated words d result calls

  whole : (d : Disk) (calls : List Call) → QuestionCalls words d result calls → Whole d calls
  whole d calls h = subst (λ (r : Option (List ℕ)). AllQuestionCalls r words d result calls) (sym none) h

  pub no_config : (a b : Option Disk) (why : Refusal) → Told a b (opens words.config.now (Some why)) → FailsSo (IsNotOpened words.config.now why) result → Made a b Whole
  no_config a b why told fails =
      made_as a b (λ d. QuestionCalls words d result) Whole
      (tries_refused (opens words.config.now) (IsNotOpened words.config.now) [] result Asked a b b why told (just_none b) fails)
      (λ d calls is h. whole d calls h)

  opened : (a b e : Option Disk) → Told a b (opens words.config.now None) → Made b e Asked → Made a e Whole
  opened a b e first made =
      made_then a b e (opens words.config.now None) Whole Asked first made (λ d after is h. whole d (opens words.config.now None ∷ after) (inl (after, refl, h)))

  asked : (b c e : Option Disk) → Told b c (opens words.questions.now None) → Made c e Copy → Made b e Asked
  asked b c e second made = made_then b c e (opens words.questions.now None) Asked Copy second made (λ d after is h. inl (after, refl, h))

  pub no_questions : (a b c : Option Disk) (why : Refusal) → Told a b (opens words.config.now None) → Told b c (opens words.questions.now (Some why))
      → FailsSo (IsNotOpened words.questions.now why) result → Made a c Whole
  no_questions a b c why first second fails =
      opened a b c first (tries_refused (opens words.questions.now) (IsNotOpened words.questions.now) [] result Copy b c c why second (just_none c) fails)

  pub no_copy : (a b c e : Option Disk) (why : Refusal) → Told a b (opens words.config.now None) → Told b c (opens words.questions.now None) → Told c e (opens words.data.now (Some why))
      → FailsSo (IsNotOpened words.data.now why) result → Made a e Whole
  no_copy a b c e why first second third fails =
      opened a b e first (asked b c e second (tries_refused (opens words.data.now) (IsNotOpened words.data.now) [] result Answering c e e why third (just_none e) fails))

  -- all three are opened, and the questions are answered over their texts
  module _ (a b c e f : Option Disk) (config questions copy : Option (List ℕ)) (mode : ℕ)
      (first : Told a b (opens words.config.now None)) (second : Told b c (opens words.questions.now None)) (third : Told c e (opens words.data.now None))
      (config_text : IfSome b (λ d. config ≡ d.text_at words.config.now)) (questions_text : IfSome c (λ d. questions ≡ d.text_at words.questions.now))
      (questions_mode : IfSome c (λ d. mode ≡ d.mode_at words.questions.now)) (copy_text : IfSome e (λ d. copy ≡ d.text_at words.data.now)) where
    config_now : IfSome e (λ d. config ≡ d.text_at words.config.now)
    config_now = still (λ text_at mode_at typed. config ≡ text_at words.config.now) c e (opens words.data.now None) third
        (still (λ text_at mode_at typed. config ≡ text_at words.config.now) b c (opens words.questions.now None) second config_text)

    questions_now : IfSome e (λ d. questions ≡ d.text_at words.questions.now)
    questions_now = still (λ text_at mode_at typed. questions ≡ text_at words.questions.now) c e (opens words.data.now None) third questions_text

    mode_now : IfSome e (λ d. mode ≡ d.mode_at words.questions.now)
    mode_now = still (λ text_at mode_at typed. mode ≡ mode_at words.questions.now) c e (opens words.data.now None) third questions_mode

    at_disk : (P : Disk → Type 0) (d : Disk) → e ≡ Some d → IfSome e P → P d
    at_disk P d is h = subst (λ (s : Option Disk). IfSome s P) is h

    same : (d : Disk) → e ≡ Some d → question_sources config questions copy ≡ question_sources_of words d
    same d is =
        let config_is : config ≡ d.text_at words.config.now = at_disk (λ x. config ≡ x.text_at words.config.now) d is config_now in
        let questions_are : questions ≡ d.text_at words.questions.now = at_disk (λ x. questions ≡ x.text_at words.questions.now) d is questions_now in
        let copy_is : copy ≡ d.text_at words.data.now = at_disk (λ x. copy ≡ x.text_at words.data.now) d is copy_text in
        λ i. question_sources (config_is i) (questions_are i) (copy_is i)

    pub answers : Made e f (λ d. AnswersAll (option_copied words.answers) mode words (question_sources config questions copy) result) → Made a f Whole
    answers made =
        opened a b f first
        (asked b c f second
        (made_then c e f (opens words.data.now None) Copy Answering third
        (made_as e f (λ d. AnswersAll (option_copied words.answers) mode words (question_sources config questions copy) result) Answering made
        (λ d calls is h. subst (λ (k : QuestionSources). AnswersAll (option_copied words.answers) (d.mode_at words.questions.now) words k result calls) (same d is)
        (subst (λ (m : ℕ). AnswersAll (option_copied words.answers) m words (question_sources config questions copy) result calls) (at_disk (λ x. mode ≡ x.mode_at words.questions.now) d is mode_now) h)))
        (λ d after is h. inl (after, refl, h))))

-- one of the two ways to answer
pub into_file : (words : QuestionWords) (path : List ℕ) (mode : ℕ) (known : QuestionSources) (result : Result Tally Fault) (a b : Option Disk) → option_copied words.answers ≡ Some path
    → Made a b (λ d. WritesAnswers path mode words known result) → Made a b (λ d. AnswersAll (option_copied words.answers) mode words known result)
into_file words path mode known result a b is made =
    made_as a b (λ d. WritesAnswers path mode words known result) (λ d. AnswersAll (option_copied words.answers) mode words known result) made
    (λ d calls at h. subst (λ (o : Option (List ℕ)). AnswersAll o mode words known result calls) (sym is) h)

pub into_none : (words : QuestionWords) (mode : ℕ) (known : QuestionSources) (result : Result Tally Fault) (a b : Option Disk) → option_copied words.answers ≡ None
    → Made a b (λ d. ReportsAnswers words known result) → Made a b (λ d. AnswersAll (option_copied words.answers) mode words known result)
into_none words mode known result a b is made =
    made_as a b (λ d. ReportsAnswers words known result) (λ d. AnswersAll (option_copied words.answers) mode words known result) made
    (λ d calls at h. subst (λ (o : Option (List ℕ)). AnswersAll o mode words known result calls) (sym is) h)
