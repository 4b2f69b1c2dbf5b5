-- How often a file system has failed, and which device a fault of a tool tells of.
use Rattle.std.proofs.Common.{◌≡◌, ◌≤◌, ◌⊎◌, ℕ, inl, inr, List, Option, None, Some, Result, Err, true, refl, subst, arith}
use Rattle.dir_ldif.specs.Device.{HasFailed}
use Rattle.dir_names.specs.declared.schema.TypeRow.{TypeRow}
use Rattle.dir_questions.specs.declared.fault.QuestionsFault.{QuestionsFault}
use Rattle.dir_questions.specs.declared.fault.QuestionsFault.TheVariants as questions
use Rattle.dir_questions.specs.declared.report.Tally.{Tally}
use Rattle.dir_questions.specs.declared.run.QuestionOptions.{QuestionOptions}
use Rattle.dir_questions.specs.Reading.{IsAskedFault}
use Rattle.dir_questions.specs.Runs.{AnswersQuestions, ComesAfterQuestions, HasNoLines, QuestionSources, QuestionTexts, WroteAnswers}
use Rattle.dir_tools.specs.declared.fault.Input.TheVariants as input
use Rattle.dir_tools.specs.declared.fault.Output.TheVariants as to
use Rattle.dir_tools.specs.declared.fault.ToolFault.{ToolFault}
use Rattle.dir_tools.specs.declared.fault.ToolFault.TheVariants as tool
use Rattle.dir_tools.specs.declared.run.Summary.{Summary}
use Rattle.dir_tools.specs.AccessAnswers.{AccessSources, ComesAfterConfig, IsConfigFault}
use Rattle.dir_tools.specs.AccessAnswers as access
use Rattle.dir_tools.specs.AccessReport.{AccessTerms}
use Rattle.dir_tools.specs.Headline.{RunOutput, RunTerms}
use Rattle.dir_tools.specs.RunAnswers.{AnswersRun, Sources}
use Rattle.dir_tools.specs.Writing.{TakenBytes, WroteReport}
use Rattle.dir_files.specs.declared.fault.Fault.{Fault}
use Rattle.dir_files.specs.declared.fault.Fault.TheVariants as fault
use Rattle.dir_files.specs.Failures.{CountsDevice, IsOfDevice, TellsOfDevice}
use Rattle.dir_files.specs.Faults.{IsModifyFault, IsQuestionsFault, IsRunFault, IsTool, IsTooFew}

-- ---- the count

pub later : (a b c : ℕ) → HasFailed a b → b ≤ c → HasFailed a c
later a b c failed grows = omega (arith, failed, grows)

pub earlier : (a b c : ℕ) → a ≤ b → HasFailed b c → HasFailed a c
earlier a b c grows failed = omega (arith, failed, grows)

-- a device that has failed since it was fresh is handed back
pub device_back : (old mid new start n : ℕ) → old ≤ mid → start ≡ 0 → HasFailed start n → CountsDevice n mid new → HasFailed old new
device_back old mid new start n grows fresh failed back = earlier old mid new grows (back.counts (subst (λ (s : ℕ). HasFailed s n) fresh failed))

-- so is a draft that has failed, as it does where it would stall
pub draft_back : (old mid new start n : ℕ) (stalls : Type 0) → (stalls → ⊥) → old ≤ mid → start ≡ 0 → CountsDevice n mid new → HasFailed start n ⊎ stalls → HasFailed old new
draft_back old mid new start n stalls never grows fresh back (inl failed) = device_back old mid new start n grows fresh failed back
draft_back old mid new start n stalls never grows fresh back (inr stalled) = absurd (never stalled)

-- a draft is handed back, and what was written into it failed, or other devices did
pub into_draft : (other wanted stalls : Type 0) (old mid new start n : ℕ) → (stalls → ⊥) → old ≤ mid → start ≡ 0 → CountsDevice n mid new
    → other ⊎ (wanted × (HasFailed start n ⊎ stalls)) → HasFailed old new ⊎ other
into_draft other wanted stalls old mid new start n never grows fresh back (inl found) = inr found
into_draft other wanted stalls old mid new start n never grows fresh back (inr both) = inl (draft_back old mid new start n stalls never grows fresh back both.1)

-- a sink that counts no failures has not failed
pub never_fails : HasFailed 0 0 ⊎ ⊥ → ⊥
never_fails (inl failed) = omega (arith, failed)
never_fails (inr none) = none

-- ---- the faults

-- the tool's own fault tells of a device where that does
pub of_tool : (told : ToolFault) (e : Fault) → IsTool told e → TellsOfDevice e → IsOfDevice told
of_tool told (fault.Tool own) is tells = subst IsOfDevice is tells
of_tool told e is tells = absurd (is)

-- a fault of writing the report is told as out of memory
pub of_run : (told : ToolFault) (e : Fault) → IsRunFault told e → TellsOfDevice e → IsOfDevice told
of_run (tool.Write to.Report) e is tells = tt
of_run told e is tells = of_tool told e is tells

of_too_few : (last : Option ℕ) (groups : ℕ) (e : Fault) → IsTooFew last groups e → TellsOfDevice e → IsOfDevice (tool.TooFewGroups groups)
of_too_few (Some wanted) groups (fault.TooFewGroups asked there) is tells = tells
of_too_few (Some wanted) groups e is tells = absurd (is)
of_too_few None groups e is tells = of_tool (tool.TooFewGroups groups) e is tells

-- the report is in memory: its fault is told as out of memory
never_report : (e : Fault) → IsTool tool.Memory e → TellsOfDevice e → ⊥
never_report e is tells = of_tool tool.Memory e is tells

-- a fault of a run that tells of a device is that of reading the copy or the changes, or of writing the undo file or the new copy
pub by_device : (P : Type 0) (last : Option ℕ) (q : RunTerms) (known : Sources) (output : RunOutput) (told : ToolFault) (e : Fault) → IsModifyFault last told e
    → AnswersRun q known (Err told) output → TellsOfDevice e
    → (told ≡ tool.Read input.Copy → P) → (told ≡ tool.Read input.Changes → P) → (told ≡ tool.Write to.Undo → P) → (told ≡ tool.Write to.Out → P) → P
by_device P last q known output (tool.Read input.Copy) e is answers tells copy changes undo out = copy refl
by_device P last q known output (tool.Read input.Changes) e is answers tells copy changes undo out = changes refl
by_device P last q known output (tool.Read input.Config) e is answers tells copy changes undo out = absurd (answers)
by_device P last q known output (tool.Write to.Undo) e is answers tells copy changes undo out = undo refl
by_device P last q known output (tool.Write to.Out) e is answers tells copy changes undo out = out refl
by_device P last q known output (tool.Write to.Report) e is answers tells copy changes undo out = absurd (never_report e is tells)
by_device P last q known output (tool.TooFewGroups groups) e is answers tells copy changes undo out = absurd (of_too_few last groups e is tells)
by_device P last q known output told e is answers tells copy changes undo out = absurd (of_tool told e is tells)

-- a fault of a configuration that tells of a device is that of reading it
pub by_config : (P : Type 0) (rows : List TypeRow) (text : Option (List ℕ)) (told : ToolFault) (e : Fault) → IsRunFault told e → IsConfigFault rows text told → TellsOfDevice e
    → (told ≡ tool.Read input.Config → P) → P
by_config P rows text (tool.Read input.Config) e is blamed tells config = config refl
by_config P rows text (tool.Read input.Copy) e is blamed tells config = absurd (blamed)
by_config P rows text (tool.Read input.Changes) e is blamed tells config = absurd (blamed)
by_config P rows text (tool.Write to) e is blamed tells config = absurd (blamed)
by_config P rows text told e is blamed tells config = absurd (of_tool told e is tells)

-- one of a question is that of reading the copy
pub by_question : (P : Type 0) (t : AccessTerms) (known : AccessSources) (tape : TakenBytes) (text : List ℕ) (told : ToolFault) (e : Fault) → IsRunFault told e
    → WroteReport {A = Unit} (Err told) tape text → access.AnswersQuestion {A = Unit} t known (Err told) text → ComesAfterConfig told → TellsOfDevice e
    → (told ≡ tool.Read input.Copy → P) → P
by_question P t known tape text (tool.Read input.Copy) e is wrote answers after tells copy = copy refl
by_question P t known tape text (tool.Read input.Config) e is wrote answers after tells copy = absurd (after)
by_question P t known tape text (tool.Read input.Changes) e is wrote answers after tells copy = absurd (answers)
by_question P t known tape text (tool.Write to.Report) e is wrote answers after tells copy = absurd (never_report e is tells)
by_question P t known tape text (tool.Write to.Undo) e is wrote answers after tells copy = absurd (wrote)
by_question P t known tape text (tool.Write to.Out) e is wrote answers after tells copy = absurd (wrote)
by_question P t known tape text told e is wrote answers after tells copy = absurd (of_tool told e is tells)

-- one of the lines of a file of questions is that of reading it
pub by_lines : (P : Type 0) (text : Option (List ℕ)) (old new : ℕ) (why : QuestionsFault) (e : Fault) → IsQuestionsFault why e → HasNoLines text old new why → TellsOfDevice e
    → (HasFailed old new → P) → P
by_lines P text old new questions.Read e is blamed tells failed = failed blamed
by_lines P text old new questions.Write e is blamed tells failed = absurd (blamed)
by_lines P text old new questions.TooLong e is blamed tells failed = absurd (subst TellsOfDevice is tells)
by_lines P text old new (questions.Stream why) e is blamed tells failed = absurd (subst TellsOfDevice is tells)
by_lines P text old new (questions.Block line why) e is blamed tells failed = absurd (blamed)
by_lines P text old new (questions.Tool (tool.Read from)) e is blamed tells failed = absurd (blamed)
by_lines P text old new (questions.Tool (tool.Write to)) e is blamed tells failed = absurd (blamed)
by_lines P text old new (questions.Tool told) e is blamed tells failed = absurd (of_tool told e is tells)

-- one of what the blocks ask is none
pub by_blocks : {A : Type 0} (wanted : Result A QuestionsFault) (why : QuestionsFault) (e : Fault) → IsQuestionsFault why e → IsAskedFault why wanted → TellsOfDevice e → ⊥
by_blocks wanted (questions.Block line why) e is blamed tells = subst TellsOfDevice is tells
by_blocks wanted questions.Read e is blamed tells = blamed
by_blocks wanted questions.Write e is blamed tells = blamed
by_blocks wanted questions.TooLong e is blamed tells = blamed
by_blocks wanted (questions.Stream why) e is blamed tells = blamed
by_blocks wanted (questions.Tool (tool.Read from)) e is blamed tells = blamed
by_blocks wanted (questions.Tool (tool.Write to)) e is blamed tells = blamed
by_blocks wanted (questions.Tool told) e is blamed tells = of_tool told e is tells

-- one of the answers is that of reading the copy, or of writing the file of answers where one is wanted
pub by_questions : (P : Type 0) (start : List TypeRow) (options : QuestionOptions) (known : QuestionSources) (texts : QuestionTexts) (answers report : TakenBytes) (why : QuestionsFault) (e : Fault)
    → IsQuestionsFault why e → WroteAnswers {A = Tally} options.answers (Err why) texts answers report → AnswersQuestions start options known (Err why) texts → ComesAfterQuestions why
    → TellsOfDevice e → (why ≡ questions.Tool (tool.Read input.Copy) → P) → (options.answers ≡ true → why ≡ questions.Write → P) → P
by_questions P start options known texts answers report (questions.Tool (tool.Read input.Copy)) e is wrote stated after tells copy file = copy refl
by_questions P start options known texts answers report (questions.Tool (tool.Read input.Config)) e is wrote stated after tells copy file = absurd (after)
by_questions P start options known texts answers report (questions.Tool (tool.Read input.Changes)) e is wrote stated after tells copy file = absurd (stated)
by_questions P start options known texts answers report (questions.Tool (tool.Write to.Report)) e is wrote stated after tells copy file = absurd (never_report e is tells)
by_questions P start options known texts answers report (questions.Tool (tool.Write to.Undo)) e is wrote stated after tells copy file = absurd (wrote)
by_questions P start options known texts answers report (questions.Tool (tool.Write to.Out)) e is wrote stated after tells copy file = absurd (wrote)
by_questions P start options known texts answers report (questions.Tool told) e is wrote stated after tells copy file = absurd (of_tool told e is tells)
by_questions P start options known texts answers report questions.Write e is wrote stated after tells copy file = file wrote.0 refl
by_questions P start options known texts answers report questions.Read e is wrote stated after tells copy file = absurd (after)
by_questions P start options known texts answers report questions.TooLong e is wrote stated after tells copy file = absurd (after)
by_questions P start options known texts answers report (questions.Stream why) e is wrote stated after tells copy file = absurd (after)
by_questions P start options known texts answers report (questions.Block line why) e is wrote stated after tells copy file = absurd (after)
