-- The notes that are told before slapacl answers.
use Rattle.std.proofs.Common.{◌≡◌, ◌≢◌, ℕ, Bool, cond, List, [], ◌++◌, codes, Option, None, Some, IfSome, IfErr, Result, IsOk, Ok, Err, inl, inr, refl, sym, ap, subst, ◌∙◌, append-nil}
use Rattle.std.specs.declared.fmt.Error.{Error}
use Rattle.std.specs.declared.fmt.Formatter.{Formatter}
use Rattle.std.specs.Fmt.{HasWritten, WritesOnOk}
use Rattle.std.specs.Str.{IsUtf8}
use Rattle.std.proofs.lemmas.Str.{is_utf8-from_IsUtf8}
use Rattle.std.proofs.Output.{has_written_append, has_written_of_eq}
use Rattle.dir_names.proofs.AsciiFolding.{not_utf8}
use Rattle.dir_names.specs.Results.{and_then}
use Rattle.dir_names.specs.declared.schema.TypeRow.{TypeRow}
use Rattle.dir_names.specs.Table.Builtin.{builtin_rows}
use Rattle.dir_acl.specs.declared.fault.ConfigFault.{ConfigFault}
use Rattle.dir_conf_text.specs.declared.text.ConfigLine.{ConfigLine}
use Rattle.dir_acl.specs.Config.{bounded_lines, config_of_lines, config_types, types_after}
use Rattle.dir_acl.specs.Notes.{notes_of}
use Rattle.dir_acl.specs.Rules.{Configuration}
use Rattle.dir_acl.specs.declared.note.Note.{Note}
use Rattle.dir_tools.specs.declared.fault.Input.TheVariants as input
use Rattle.dir_tools.specs.declared.fault.ToolFault.{ToolFault}
use Rattle.dir_tools.specs.declared.fault.ToolFault.TheVariants as tool
use Rattle.dir_tools.specs.AccessAnswers.{ComesAfterConfig, IsConfigFault, IsTextOf}
use Rattle.dir_tools.specs.declared.acl.configuration.NotedConfig.{NotedConfig}
use Rattle.dir_tools.specs.AccessReport.{Configured, configured, configured_by_lines}
use Rattle.dir_tools.specs.Inside.Asking.{configured_of}
use Rattle.dir_questions.specs.declared.fault.QuestionsFault.{QuestionsFault}
use Rattle.dir_questions.specs.declared.fault.QuestionsFault.TheVariants as suite
use Rattle.dir_questions.specs.Notes.{notes_on_questions}
use Rattle.dir_questions.specs.Questions.{QuestionBlock}
use Rattle.dir_questions.specs.Runs.{AsksThese}
use Rattle.dir_files.specs.declared.fault.Fault.{Fault}
use Rattle.dir_files.specs.declared.fault.Fault.TheVariants as fault
use Rattle.dir_files.specs.AccessRuns.{IsEndOfNotes}
use Rattle.dir_files.specs.Escape.{escaped}
use Rattle.dir_files.specs.Faults.{IsRunFault, IsTool}
use Rattle.dir_files.specs.Files.{Call, Disk, Told, opens}
use Rattle.dir_files.specs.NoteText.{shown_bytes}
use Rattle.dir_files.specs.Notes.{EndsIfUntold, AreNotesOf, AreOnQuestions, AreToldBefore, AreToldFor, AreToldOfQuestions, IsAfterConfig, IsAfterNotes, MayBeAnswered, NotesOnAsked, TellsFor, WereGiven, told_text}
use Rattle.dir_files.specs.Runs.{Made}

-- ---- texts

pub shown_text : (bytes : List ℕ) → IsUtf8 bytes → shown_bytes bytes ≡ escaped bytes
shown_text bytes is = ap (λ (b : Bool). cond b (escaped bytes) (codes "(not UTF-8)")) (is_utf8-from_IsUtf8 bytes is)

pub shown_none : (bytes : List ℕ) → ¬ (IsUtf8 bytes) → shown_bytes bytes ≡ codes "(not UTF-8)"
shown_none bytes none = ap (λ (b : Bool). cond b (escaped bytes) (codes "(not UTF-8)")) (not_utf8 bytes none)

-- two texts in a row
pub two_written : {W : Type 0} (took : W → List ℕ → W → Type 0) (f g h : Formatter W) (r s : Result (Unit {0}) Error) (a b all : List ℕ)
    → WritesOnOk took f r a g → IsOk r → WritesOnOk took g s b h → a ++ b ≡ all → WritesOnOk took f s all h
two_written took f g h r s a b all first ok second whole plain ok' =
    let w : HasWritten took f a g = first plain ok in
    has_written_of_eq took f (a ++ b) all h whole (has_written_append took f a g b h w (second w.plain ok'))

-- ---- a teller

-- a teller that isn't called was given none
pub none_given : {A : Type 0} (a : Option (List A)) → WereGiven a a []
none_given None = tt
none_given (Some before) = sym (append-nil before)

-- ---- the types that a configuration defines

types_in : (rows : List TypeRow) (text : List ℕ) (found : Configured) → configured rows text ≡ Ok found → config_types rows text ≡ Ok found.rows
types_in rows text found e = by (bounded_lines text) e
  where
    under : (now : List TypeRow) (r : Result Configuration ConfigFault) → and_then r (λ c. Ok (record { rows = now; configuration = c })) ≡ Ok found → now ≡ found.rows
    under now (Ok c) e = cc
    under now (Err fault) e = absurd (cc)

    of_lines : (lines : List ConfigLine) (r : Result (List TypeRow) ConfigFault) → and_then r (λ now. and_then (config_of_lines now lines) (λ c. Ok (record { rows = now; configuration = c }))) ≡ Ok found → r ≡ Ok found.rows
    of_lines lines (Ok now) e = ap Ok (under now (config_of_lines now lines) e)
    of_lines lines (Err fault) e = absurd (cc)

    by : (r : Result (List ConfigLine) ConfigFault) → and_then r (configured_by_lines rows) ≡ Ok found → and_then r (types_after rows) ≡ Ok found.rows
    by (Ok lines) e = of_lines lines (types_after rows lines) e
    by (Err fault) e = absurd (cc)

typed : (rows : List TypeRow) (text : Option (List ℕ)) (found : Configured) → IsTextOf rows text found → IfSome text (λ text. config_types rows text ≡ Ok found.rows)
typed rows None found h = tt
typed rows (Some text) found h = types_in rows text found h

-- the notes on a configuration that was read from the built-in types, and on what is asked
pub are_notes : (asked : NotesOnAsked) (text : Option (List ℕ)) (rows : List TypeRow) (found : NotedConfig) (on_asked notes : List Note) → rows ≡ builtin_rows → IsTextOf rows text (configured_of found)
    → IfSome text (λ text. found.notes.items ≡ notes_of found.types text) → asked found.types on_asked → notes ≡ found.notes.items ++ on_asked → AreNotesOf asked text notes
are_notes asked text rows found on_asked notes same config read are all = record {
  rows = found.types;
  typed = typed builtin_rows text (configured_of found) (subst (λ (r : List TypeRow). IsTextOf r text (configured_of found)) same config);
  found = found.notes.items;
  read = read;
  on_asked = on_asked;
  are = are;
  all = all;
}

pub on_questions : (text : Option (List ℕ)) (rows : List TypeRow) (blocks : List QuestionBlock) → AsksThese rows text blocks → AreOnQuestions text rows (notes_on_questions rows blocks)
on_questions None rows blocks asks = tt
on_questions (Some text) rows blocks asks = (blocks, asks, refl)

-- ---- a configuration that isn't read

-- its fault, or out of memory, is the program's
pub is_told : (text : Option (List ℕ)) (e : ToolFault) (shown : Fault) → IsConfigFault builtin_rows text e → IsRunFault e shown → IsTool e shown
is_told text (tool.Config why) shown h is = is
is_told text (tool.Read from) shown h is = is
is_told text tool.Memory shown h is = is
is_told text (tool.Write to) shown h is = absurd (h)
is_told text (tool.BadCopy line why) shown h is = absurd (h)
is_told text (tool.BadQuestion item) shown h is = absurd (h)
is_told text (tool.BadChanges why) shown h is = absurd (h)
is_told text tool.NoEntry shown h is = absurd (h)
is_told text (tool.TooFewGroups groups) shown h is = absurd (h)

unread : (asked : NotesOnAsked) (strict : Bool) (text : Option (List ℕ)) (e : ToolFault) → IsConfigFault builtin_rows text e → AreToldBefore asked strict text e []
unread asked strict text (tool.Config why) h = refl
unread asked strict text (tool.Read input.Config) h = refl
unread asked strict text (tool.Read input.Copy) h = absurd (h)
unread asked strict text (tool.Read input.Changes) h = absurd (h)
unread asked strict text tool.Memory h = inl refl
unread asked strict text (tool.Write to) h = absurd (h)
unread asked strict text (tool.BadCopy line why) h = absurd (h)
unread asked strict text (tool.BadQuestion item) h = absurd (h)
unread asked strict text (tool.BadChanges why) h = absurd (h)
unread asked strict text tool.NoEntry h = absurd (h)
unread asked strict text (tool.TooFewGroups groups) h = absurd (h)

as_shown : (A : Type 0) (asked : NotesOnAsked) (strict : Bool) (text : Option (List ℕ)) (notes : List Note) (e : ToolFault) (shown : Fault) → AreToldBefore asked strict text e notes → IsTool e shown → AreToldFor {A = A} asked strict text (Err shown) notes
as_shown A asked strict text notes e (fault.Tool told) h is = subst (λ (f : ToolFault). AreToldBefore asked strict text f notes) (sym is) h
as_shown A asked strict text notes e (fault.Questions why) h is = absurd (is)
as_shown A asked strict text notes e (fault.NoWords why) h is = absurd (is)
as_shown A asked strict text notes e (fault.TooFewGroups wanted groups) h is = absurd (is)
as_shown A asked strict text notes e (fault.Conf why) h is = absurd (is)
as_shown A asked strict text notes e fault.FlatUnwritten h is = absurd (is)
as_shown A asked strict text notes e (fault.SamePath path) h is = absurd (is)
as_shown A asked strict text notes e (fault.CannotOpen path) h is = absurd (is)
as_shown A asked strict text notes e (fault.Exists path) h is = absurd (is)
as_shown A asked strict text notes e fault.HasNotes h is = absurd (is)
as_shown A asked strict text notes e fault.NotesUntold h is = absurd (is)

-- no note is told
pub none_told : (A : Type 0) (asked : NotesOnAsked) (strict : Bool) (text : Option (List ℕ)) (e : ToolFault) (shown : Fault) (a : Option (List Note)) → IsConfigFault builtin_rows text e → IsRunFault e shown
    → TellsFor {A = A} asked strict text (Err shown) a a
none_told A asked strict text e shown a h is = ([], none_given a, as_shown A asked strict text [] e shown (unread asked strict text e h) (is_told text e shown h is))

-- ---- a configuration that is read

told_before : (asked : NotesOnAsked) (strict : Bool) (text : Option (List ℕ)) (notes : List Note) (e : ToolFault) → ComesAfterConfig e → AreNotesOf asked text notes → MayBeAnswered strict notes → AreToldBefore asked strict text e notes
told_before asked strict text notes (tool.Config why) h are may = absurd (h)
told_before asked strict text notes (tool.Read input.Config) h are may = absurd (h)
told_before asked strict text notes (tool.Read input.Copy) h are may = (are, may)
told_before asked strict text notes (tool.Read input.Changes) h are may = (are, may)
told_before asked strict text notes tool.Memory h are may = inr (are, may)
told_before asked strict text notes (tool.Write to) h are may = (are, may)
told_before asked strict text notes (tool.BadCopy line why) h are may = (are, may)
told_before asked strict text notes (tool.BadQuestion item) h are may = (are, may)
told_before asked strict text notes (tool.BadChanges why) h are may = (are, may)
told_before asked strict text notes tool.NoEntry h are may = (are, may)
told_before asked strict text notes (tool.TooFewGroups groups) h are may = (are, may)

-- where there is no file of questions
pub after_config : {A : Type 0} (result : Result A Fault) → IfErr result IsAfterConfig → IfErr result IsAfterNotes
after_config (Ok answer) h = h
after_config (Err (fault.Tool e)) h = h
after_config (Err (fault.Questions why)) h = absurd (h)
after_config (Err (fault.NoWords why)) h = h
after_config (Err (fault.TooFewGroups wanted groups)) h = h
after_config (Err (fault.Conf why)) h = absurd (h)
after_config (Err fault.FlatUnwritten) h = absurd (h)
after_config (Err (fault.SamePath path)) h = h
after_config (Err (fault.CannotOpen path)) h = h
after_config (Err (fault.Exists path)) h = h
after_config (Err fault.HasNotes) h = h
after_config (Err fault.NotesUntold) h = h

told_of_asked : (asked : NotesOnAsked) (strict : Bool) (text : Option (List ℕ)) (notes : List Note) (why : QuestionsFault) → IsAfterNotes (fault.Questions why) → AreNotesOf asked text notes → MayBeAnswered strict notes
    → AreToldOfQuestions asked strict text why notes
told_of_asked asked strict text notes suite.Write h are may = (are, may)
told_of_asked asked strict text notes suite.Read h are may = absurd (h)
told_of_asked asked strict text notes suite.TooLong h are may = absurd (h)
told_of_asked asked strict text notes (suite.Stream why) h are may = absurd (h)
told_of_asked asked strict text notes (suite.Block line why) h are may = absurd (h)
told_of_asked asked strict text notes (suite.Tool why) h are may = absurd (h)

-- they are told before the tool's answer
pub all_told : {A : Type 0} (asked : NotesOnAsked) (strict : Bool) (text : Option (List ℕ)) (notes : List Note) (result : Result A Fault) → IfErr result IsAfterNotes → AreNotesOf asked text notes → MayBeAnswered strict notes
    → AreToldFor asked strict text result notes
all_told asked strict text notes (Ok answer) h are may = (are, may)
all_told asked strict text notes (Err (fault.Tool e)) h are may = told_before asked strict text notes e h are may
all_told asked strict text notes (Err (fault.Questions why)) h are may = told_of_asked asked strict text notes why h are may
all_told asked strict text notes (Err (fault.NoWords why)) h are may = absurd (h)
all_told asked strict text notes (Err (fault.TooFewGroups wanted groups)) h are may = absurd (h)
all_told asked strict text notes (Err (fault.Conf why)) h are may = absurd (h)
all_told asked strict text notes (Err fault.FlatUnwritten) h are may = absurd (h)
all_told asked strict text notes (Err (fault.SamePath path)) h are may = absurd (h)
all_told asked strict text notes (Err (fault.CannotOpen path)) h are may = absurd (h)
all_told asked strict text notes (Err (fault.Exists path)) h are may = absurd (h)
all_told asked strict text notes (Err fault.HasNotes) h are may = absurd (h)
all_told asked strict text notes (Err fault.NotesUntold) h are may = absurd (h)

-- they end the run
pub ended : (A : Type 0) (asked : NotesOnAsked) (strict : Bool) (text : Option (List ℕ)) (notes : List Note) (e : Fault) → IsEndOfNotes strict e → AreNotesOf asked text notes → notes ≢ [] → AreToldFor {A = A} asked strict text (Err e) notes
ended A asked strict text notes fault.HasNotes h are some = (are, some, h)
ended A asked strict text notes fault.NotesUntold h are some = (are, some)
ended A asked strict text notes (fault.Tool e) h are some = absurd (h)
ended A asked strict text notes (fault.Questions why) h are some = absurd (h)
ended A asked strict text notes (fault.NoWords why) h are some = absurd (h)
ended A asked strict text notes (fault.TooFewGroups wanted groups) h are some = absurd (h)
ended A asked strict text notes (fault.Conf why) h are some = absurd (h)
ended A asked strict text notes fault.FlatUnwritten h are some = absurd (h)
ended A asked strict text notes (fault.SamePath path) h are some = absurd (h)
ended A asked strict text notes (fault.CannotOpen path) h are some = absurd (h)
ended A asked strict text notes (fault.Exists path) h are some = absurd (h)

-- ---- the text, where the file system tells its calls until the end

-- what the notes on an unknown text may be, with less known of what is asked
module _ (asked wider : NotesOnAsked) (widens : (rows : List TypeRow) (notes : List Note) → asked rows notes → wider rows notes) where
  unknown_text : (text : Option (List ℕ)) (notes : List Note) → AreNotesOf asked text notes → AreNotesOf wider None notes
  unknown_text text notes h = record { rows = h.rows; typed = tt; found = h.found; read = tt; on_asked = h.on_asked; are = widens h.rows h.on_asked h.are; all = h.all }

  unknown_before : (strict : Bool) (text : Option (List ℕ)) (notes : List Note) (e : ToolFault) → AreToldBefore asked strict text e notes → AreToldBefore wider strict None e notes
  unknown_before strict text notes (tool.Config why) h = h
  unknown_before strict text notes (tool.Read input.Config) h = h
  unknown_before strict text notes (tool.Read input.Copy) h = (unknown_text text notes h.0, h.1)
  unknown_before strict text notes (tool.Read input.Changes) h = (unknown_text text notes h.0, h.1)
  unknown_before strict text notes tool.Memory (inl none) = inl none
  unknown_before strict text notes tool.Memory (inr h) = inr (unknown_text text notes h.0, h.1)
  unknown_before strict text notes (tool.Write to) h = (unknown_text text notes h.0, h.1)
  unknown_before strict text notes (tool.BadCopy line why) h = (unknown_text text notes h.0, h.1)
  unknown_before strict text notes (tool.BadQuestion item) h = (unknown_text text notes h.0, h.1)
  unknown_before strict text notes (tool.BadChanges why) h = (unknown_text text notes h.0, h.1)
  unknown_before strict text notes tool.NoEntry h = (unknown_text text notes h.0, h.1)
  unknown_before strict text notes (tool.TooFewGroups groups) h = (unknown_text text notes h.0, h.1)

  unknown_asked : (strict : Bool) (text : Option (List ℕ)) (notes : List Note) (why : QuestionsFault) → AreToldOfQuestions asked strict text why notes → AreToldOfQuestions wider strict None why notes
  unknown_asked strict text notes suite.Write h = (unknown_text text notes h.0, h.1)
  unknown_asked strict text notes suite.Read h = h
  unknown_asked strict text notes suite.TooLong h = h
  unknown_asked strict text notes (suite.Stream why) h = h
  unknown_asked strict text notes (suite.Block line why) h = h
  unknown_asked strict text notes (suite.Tool why) h = h

  pub unknown : {A : Type 0} (strict : Bool) (text : Option (List ℕ)) (notes : List Note) (result : Result A Fault) → AreToldFor asked strict text result notes → AreToldFor wider strict None result notes
  unknown strict text notes (Ok answer) h = (unknown_text text notes h.0, h.1)
  unknown strict text notes (Err fault.HasNotes) h = (unknown_text text notes h.0, h.1, h.2)
  unknown strict text notes (Err fault.NotesUntold) h = (unknown_text text notes h.0, h.1)
  unknown strict text notes (Err (fault.Tool e)) h = unknown_before strict text notes e h
  unknown strict text notes (Err (fault.Questions why)) h = unknown_asked strict text notes why h
  unknown strict text notes (Err (fault.NoWords why)) h = h
  unknown strict text notes (Err (fault.TooFewGroups wanted groups)) h = h
  unknown strict text notes (Err (fault.Conf why)) h = h
  unknown strict text notes (Err fault.FlatUnwritten) h = h
  unknown strict text notes (Err (fault.SamePath path)) h = h
  unknown strict text notes (Err (fault.CannotOpen path)) h = h
  unknown strict text notes (Err (fault.Exists path)) (inl none) = inl none
  unknown strict text notes (Err (fault.Exists path)) (inr h) = inr (unknown_text text notes h.0, h.1)

-- before a file was read there is no note
pub none_yet : (A : Type 0) (asked : NotesOnAsked) (strict : Bool) (text : Option (List ℕ)) (e : Fault) (a : Option (List Note)) → AreToldFor {A = A} asked strict text (Err e) [] → TellsFor {A = A} asked strict text (Err e) a a
none_yet A asked strict text e a h = ([], none_given a, h)

-- what holds of the text that the reader of the configuration had, and of an unknown one, holds of that at its path
pub at_path : (P : Option (List ℕ) → Type 0) (path other : List ℕ) (R : Disk → List Call → Type 0) (a b c e : Option Disk) (text : Option (List ℕ))
    → Told a b (opens path None) → Told b c (opens other None) → Made c e R → IfSome b (λ d. text ≡ d.text_at path) → P None → P text → P (told_text a e path)
at_path P path other R None b c e text first second made is unknown h = unknown
at_path P path other R (Some d) b c None text first second made is unknown h = unknown
at_path P path other R (Some d) b None (Some last) text first second made is unknown h = absurd (made)
at_path P path other R (Some d) None (Some next) (Some last) text first second made is unknown h = absurd (second)
at_path P path other R (Some d) (Some opened) (Some next) (Some last) text first second made is unknown h =
    subst P (is ∙ ap (λ (x : Disk). x.text_at path) first) h

pub told_at : {A : Type 0} (asked : NotesOnAsked) (strict : Bool) (path other : List ℕ) (result : Result A Fault) (R : Disk → List Call → Type 0) (a b c e : Option Disk) (text : Option (List ℕ)) (g g' : Option (List Note))
    → Told a b (opens path None) → Told b c (opens other None) → Made c e R → IfSome b (λ d. text ≡ d.text_at path)
    → TellsFor asked strict text result g g' → TellsFor asked strict (told_text a e path) result g g'
told_at asked strict path other result R a b c e text g g' first second made is h =
    at_path (λ (t : Option (List ℕ)). TellsFor asked strict t result g g') path other R a b c e text first second made is (h.0, h.1, unknown asked asked (λ rows notes is. is) strict text h.0 result h.2) h

-- the same of the texts that the readers of two files had, which were opened one after the other
pub at_paths : (P : Option (List ℕ) → Option (List ℕ) → Type 0) (path other : List ℕ) (R : Disk → List Call → Type 0) (a b c e : Option Disk) (text asked : Option (List ℕ))
    → Told a b (opens path None) → Told b c (opens other None) → Made c e R → IfSome b (λ d. text ≡ d.text_at path) → IfSome c (λ d. asked ≡ d.text_at other) → P None None → P text asked
    → P (told_text a e path) (told_text a e other)
at_paths P path other R None b c e text asked first second made is are unknown h = unknown
at_paths P path other R (Some d) b c None text asked first second made is are unknown h = unknown
at_paths P path other R (Some d) b None (Some last) text asked first second made is are unknown h = absurd (made)
at_paths P path other R (Some d) None (Some next) (Some last) text asked first second made is are unknown h = absurd (second)
at_paths P path other R (Some d) (Some opened) (Some next) (Some last) text asked first second made is are unknown h =
    subst (λ (t : Option (List ℕ)). P t (d.text_at other)) (is ∙ ap (λ (x : Disk). x.text_at path) first)
    (subst (P text) (are ∙ ap (λ (x : Disk). x.text_at other) second ∙ ap (λ (x : Disk). x.text_at other) first) h)

-- where the text of the questions is unknown, nothing is said of the notes on them
pub told_at_both : {A : Type 0} (strict : Bool) (path other : List ℕ) (result : Result A Fault) (R : Disk → List Call → Type 0) (a b c e : Option Disk) (text asked : Option (List ℕ)) (g g' : Option (List Note))
    → Told a b (opens path None) → Told b c (opens other None) → Made c e R → IfSome b (λ d. text ≡ d.text_at path) → IfSome c (λ d. asked ≡ d.text_at other)
    → TellsFor (AreOnQuestions asked) strict text result g g' → TellsFor (AreOnQuestions (told_text a e other)) strict (told_text a e path) result g g'
told_at_both strict path other result R a b c e text asked g g' first second made is are h =
    at_paths (λ (t q : Option (List ℕ)). TellsFor (AreOnQuestions q) strict t result g g') path other R a b c e text asked first second made is are
    (h.0, h.1, unknown (AreOnQuestions asked) (AreOnQuestions None) (λ rows notes is. tt) strict text h.0 result h.2) h

-- ---- a teller that didn't fail

-- the tool's answer
pub told_well : {A : Type 0} (result : Result A Fault) (failures : ℕ) → IfErr result IsAfterNotes → EndsIfUntold result failures failures
told_well (Ok answer) failures h = refl
told_well (Err (fault.Tool e)) failures h = refl
told_well (Err (fault.Questions why)) failures h = refl
told_well (Err (fault.NoWords why)) failures h = absurd (h)
told_well (Err (fault.TooFewGroups wanted groups)) failures h = absurd (h)
told_well (Err (fault.Conf why)) failures h = absurd (h)
told_well (Err fault.FlatUnwritten) failures h = absurd (h)
told_well (Err (fault.SamePath path)) failures h = absurd (h)
told_well (Err (fault.CannotOpen path)) failures h = absurd (h)
told_well (Err (fault.Exists path)) failures h = absurd (h)
told_well (Err fault.HasNotes) failures h = absurd (h)
told_well (Err fault.NotesUntold) failures h = absurd (h)

-- a fault of the tool, or a file that isn't opened
pub not_asked : (A : Type 0) (e : ToolFault) (shown : Fault) (failures : ℕ) → IsTool e shown → EndsIfUntold {A = A} (Err shown) failures failures
not_asked A e (fault.Tool told) failures is = refl
not_asked A e (fault.Questions why) failures is = absurd (is)
not_asked A e (fault.NoWords why) failures is = absurd (is)
not_asked A e (fault.TooFewGroups wanted groups) failures is = absurd (is)
not_asked A e (fault.Conf why) failures is = absurd (is)
not_asked A e fault.FlatUnwritten failures is = absurd (is)
not_asked A e (fault.SamePath path) failures is = absurd (is)
not_asked A e (fault.CannotOpen path) failures is = absurd (is)
not_asked A e (fault.Exists path) failures is = absurd (is)
not_asked A e fault.HasNotes failures is = absurd (is)
not_asked A e fault.NotesUntold failures is = absurd (is)
