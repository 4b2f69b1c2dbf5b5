-- The calls of a run on its file system, and what goes through the files.
use Rattle.std.specs.Prelude.{◌≡◌, ◌⊎◌, ℕ, List, [], ◌∷◌, ◌++◌, Option, None, Some, IfSome, Result, Ok, Err, ⊤}
use Rattle.std.specs.Option.{option_copied}
use Rattle.dir_names.specs.Table.Builtin.{builtin_rows}
use Rattle.dir_names.specs.declared.schema.TypeRow.{TypeRow}
use Rattle.dir_acl.specs.Config.{config_types}
use Rattle.dir_tools.specs.AccessAnswers.{IsTypesFault}
use Rattle.dir_tools.specs.declared.fault.Output.TheVariants as to
use Rattle.dir_tools.specs.declared.fault.ToolFault.{ToolFault}
use Rattle.dir_tools.specs.declared.fault.ToolFault.TheVariants.{Memory}
use Rattle.dir_tools.specs.declared.run.Summary.{Summary}
use Rattle.dir_tools.specs.Headline.{RunTerms, RunOutput, terms}
use Rattle.dir_tools.specs.RunAnswers.{AnswersRun, IsWholeRun, Sources, sources}
use Rattle.dir_tools.specs.Writing.{TakenBytes, WroteInOrder}
use Rattle.dir_files.specs.declared.words.ModifyWords.{ModifyWords}
use Rattle.dir_files.specs.declared.words.OutputPaths.{OutputPaths}
use Rattle.dir_files.specs.declared.fault.Fault.{Fault}
use Rattle.dir_files.specs.declared.files.Refusal.{Refusal}
use Rattle.dir_files.specs.Faults.{FailsSo, IsModifyFault, IsNotCreated, IsNotOpened, IsNotReported, IsNotWritten, IsRunFault}
use Rattle.dir_files.specs.Files.{Call, Disk, creates, discards, opens, publishes, reports, standard_input, syncs, withdraws}
use Rattle.dir_files.specs.Paths.{outputs_of}

-- ---- calls in a row

-- the calls from some point on
abbrev pub Calls : Type 1
Calls = List Call → Type 0

-- this call, and then those
abbrev pub Then : Call → Calls → Calls
Then call rest calls = (after : List Call) × (calls ≡ call ∷ after) × rest after

-- the call is made, and the run goes on; or it is refused, what the run has made is removed by these last calls, and it ends in the fault that this means
abbrev pub Tries : {A : Type 0} → (Option Refusal → Call) → (Refusal → Fault → Type 0) → List Call → Result A Fault → Calls → Calls
Tries call fault removed result rest calls = Then (call None) rest calls
    ⊎ ((why : Refusal) × (calls ≡ call (Some why) ∷ removed) × FailsSo (fault why) result)

-- no call is left, and this is the answer
abbrev pub Ends : {A : Type 0} → A → Result A Fault → Calls
Ends answer result calls = (calls ≡ []) × (result ≡ Ok answer)

abbrev pub Opens : {A : Type 0} → List ℕ → Result A Fault → Calls → Calls
Opens path = Tries (opens path) (IsNotOpened path) []

-- the file of changes, or the standard input where none is named
abbrev pub OpensChanges : {A : Type 0} → Option (List ℕ) → Result A Fault → Calls → Calls
OpensChanges (Some path) result rest calls = Opens path result rest calls
OpensChanges None result rest calls = Then standard_input rest calls

-- ---- the attribute types

-- the built-in types with all that the text of a configuration defines, where it is known
abbrev pub AreTypesOf : Option (List ℕ) → List TypeRow → Type 0
AreTypesOf text rows = IfSome text (λ text. config_types builtin_rows text ≡ Ok rows)

-- such types are found, and the run goes on under them; or the tool has such a fault, and no call is left
abbrev pub FindsTypes : {A : Type 0} → (List TypeRow → Type 0) → (ToolFault → Type 0) → Result A Fault → (List TypeRow → Calls) → Calls
FindsTypes types fault result rest calls = ((rows : List TypeRow) × types rows × rest rows calls)
    ⊎ ((why : ToolFault) × fault why × (calls ≡ []) × FailsSo (IsRunFault why) result)

-- the configuration is opened, and its types are read; where none is named, they are the built-in ones, for which memory may run out
abbrev pub ReadsTypes : {A : Type 0} → Option (List ℕ) → Disk → Result A Fault → (List TypeRow → Calls) → Calls
ReadsTypes (Some path) d result rest = Opens path result (FindsTypes (AreTypesOf (d.text_at path)) (IsTypesFault builtin_rows (d.text_at path)) result rest)
ReadsTypes None d result rest = FindsTypes (λ rows. rows ≡ builtin_rows) (λ why. why ≡ Memory) result rest

-- ---- the tool's run over the files

-- the terms of the run that a command line asks for: with these types, and the words' own suffix and options
abbrev pub terms_of : List TypeRow → ModifyWords → RunTerms
terms_of rows words = terms rows words.suffix.now words.options

-- what the tool answers over these texts, and what it writes into the undo file, the new copy and the report
pub record RunsOver (q : RunTerms) (known : Sources) (answer : Result Summary ToolFault) (undo out report : TakenBytes) : Type 0 where
  pub output : RunOutput
  pub wrote : WroteInOrder q.options.dry answer output.texts undo out report
  pub answers : AnswersRun q known answer output
  pub whole : IsWholeRun q known answer output

abbrev pub text_of_changes : (List ℕ → Option (List ℕ)) → List ℕ → Option (List ℕ) → Option (List ℕ)
text_of_changes text_at typed (Some path) = text_at path
text_of_changes text_at typed None = Some typed

-- the text of the changes: that of their file, or of the standard input where none is named
abbrev pub changes_text : Disk → Option (List ℕ) → Option (List ℕ)
changes_text d path = text_of_changes d.text_at d.typed path

-- the texts of the copy and of the changes
abbrev pub sources_of : ModifyWords → Disk → Sources
sources_of words d = sources (d.text_at words.data.now) (changes_text d (option_copied words.changes))

-- ---- the end of a run

-- the undo file gets its name, then the new copy, and the report comes last. Where that is refused, what has a name loses it again: the
-- new copy first
abbrev pub Publishes : OutputPaths → Option (List ℕ) → Option (List ℕ) → List ℕ → Summary → Result Summary Fault → Calls
Publishes paths undo out report summary result =
    Tries (publishes paths.undo.now undo) (IsNotWritten paths.undo.now to.Undo) (discards paths.out.now ∷ []) result
    (Tries (publishes paths.out.now out) (IsNotWritten paths.out.now to.Out) (withdraws paths.undo.now ∷ []) result
    (Tries (reports report) IsNotReported (withdraws paths.out.now ∷ withdraws paths.undo.now ∷ []) result (Ends summary result)))

-- the drafts are removed
abbrev pub both_discarded : OutputPaths → List Call
both_discarded paths = discards paths.out.now ∷ discards paths.undo.now ∷ []

-- both texts are synced before one of the files gets its name
abbrev pub Syncs : OutputPaths → Option (List ℕ) → Option (List ℕ) → List ℕ → Summary → Result Summary Fault → Calls
Syncs paths undo out report summary result =
    Tries (syncs paths.undo.now undo) (IsNotWritten paths.undo.now to.Undo) (both_discarded paths) result
    (Tries (syncs paths.out.now out) (IsNotWritten paths.out.now to.Out) (both_discarded paths) result (Publishes paths undo out report summary result))

-- after the tool's own fault the drafts are removed
abbrev pub EndsWithOutputs : Option ℕ → OutputPaths → Option (List ℕ) → Option (List ℕ) → List ℕ → Result Summary ToolFault → Result Summary Fault → Calls
EndsWithOutputs last paths undo out report (Ok summary) result calls = Syncs paths undo out report summary result calls
EndsWithOutputs last paths undo out report (Err e) result calls = (calls ≡ both_discarded paths) × FailsSo (IsModifyFault last e) result

-- a tool that makes no files: its report is written, or it has a fault of its own, which is told so
abbrev pub EndsWithoutOutputs : {A : Type 0} → (ToolFault → Fault → Type 0) → List ℕ → Result A ToolFault → Result A Fault → Calls
EndsWithoutOutputs tells report (Ok answer) result calls = Tries (reports report) IsNotReported [] result (Ends answer result) calls
EndsWithoutOutputs tells report (Err e) result calls = (calls ≡ []) × FailsSo (tells e) result

-- ---- the whole run

-- the tool runs over the drafts, and the run ends
abbrev pub RunsOverDrafts : OutputPaths → RunTerms → Sources → Result Summary Fault → Calls
RunsOverDrafts paths q known result calls = (answer : Result Summary ToolFault) × (undo : Option (List ℕ)) × (out : Option (List ℕ)) × (report : List ℕ)
    × RunsOver q known answer (Some [], undo) (Some [], out) (Some [], Some report) × EndsWithOutputs q.options.last paths undo out report answer result calls

-- the draft of the undo file is created, then that of the new copy, with the mode of the copy; and the tool runs over them
abbrev pub WritesOutputs : OutputPaths → ℕ → RunTerms → Sources → Result Summary Fault → Calls
WritesOutputs paths mode q known result =
    Tries (creates paths.undo.now mode) (IsNotCreated paths.undo.now) [] result
    (Tries (creates paths.out.now mode) (IsNotCreated paths.out.now) (discards paths.undo.now ∷ []) result (RunsOverDrafts paths q known result))

-- the tool runs, and nothing but the report is written
abbrev pub WritesReport : RunTerms → Sources → Result Summary Fault → Calls
WritesReport q known result calls = (answer : Result Summary ToolFault) × (report : List ℕ)
    × RunsOver q known answer (None, None) (None, None) (Some [], Some report) × EndsWithoutOutputs (IsModifyFault q.options.last) report answer result calls

abbrev pub WritesAll : Option OutputPaths → ℕ → RunTerms → Sources → Result Summary Fault → Calls
WritesAll (Some paths) mode q known result calls = WritesOutputs paths mode q known result calls
WritesAll None mode q known result calls = WritesReport q known result calls

-- under these types: the copy is opened, then the changes, then the files to be written are made
abbrev pub CallsUnder : List TypeRow → ModifyWords → Disk → Result Summary Fault → Calls
CallsUnder rows words d result = Opens words.data.now result (OpensChanges (option_copied words.changes) result
    (WritesAll (outputs_of words) (d.mode_at words.data.now) (terms_of rows words) (sources_of words d) result))

-- the types are read first, and then the run goes on under them
abbrev pub RunCalls : ModifyWords → Disk → Result Summary Fault → Calls
RunCalls words d result = ReadsTypes (option_copied words.config) d result (λ rows. CallsUnder rows words d result)

-- where a path is given twice there is no call
abbrev pub AllCalls : Option (List ℕ) → ModifyWords → Disk → Result Summary Fault → Calls
AllCalls (Some path) words d result calls = calls ≡ []
AllCalls None words d result calls = RunCalls words d result calls

-- these calls are made, and no others
abbrev pub Made : Option Disk → Option Disk → (Disk → Calls) → Type 0
Made before None made = ⊤
Made None (Some after) made = ⊥
Made (Some before) (Some after) made = (calls : List Call) × (after.calls ≡ before.calls ++ calls) × made before calls
