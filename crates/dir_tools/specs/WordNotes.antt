-- The notes on the words of a question: what a word asks for that isn't known here (slapacl(8)). `notes_on_words`, at the end of this page, is the whole.
use Rattle.std.specs.Prelude.{ℕ, Bool, false, cond, not, List, [], ◌∷◌, ◌++◌, Option, Some, None}
use Rattle.dir_names.specs.Table.{is_known}
use Rattle.dir_names.specs.declared.schema.TypeRow.{TypeRow}
use Rattle.dir_acl.specs.declared.access.Asked.{Asked}
use Rattle.dir_acl.specs.declared.access.Asked.TheVariants as asked
use Rattle.dir_acl.specs.declared.note.Note.{Note}
use Rattle.dir_acl.specs.declared.note.NoteCause.TheVariants.{UnknownInWord}
use Rattle.dir_acl.specs.Notes.{note_at}
use Rattle.dir_tools.specs.AccessReport.{Word, word_of}

-- an attribute of a type that isn't known; `entry` and `children` are no attributes
abbrev pub asks_for_unknown : List TypeRow → Asked → Bool
asks_for_unknown rows asked.Entry = false
asks_for_unknown rows asked.Children = false
asks_for_unknown rows (asked.Attribute attr) = not (is_known rows attr)

-- the note names the word, and the description in it, both as they are written
abbrev pub note_on : ℕ → List ℕ → List ℕ → Note
note_on line text attr = note_at line (UnknownInWord text attr)

abbrev pub noted_word : List TypeRow → ℕ → List ℕ → Word → List Note
noted_word rows line text word = cond (asks_for_unknown rows word.asked) (note_on line text word.attr ∷ []) []

-- a word of a command line stands on no line; a text that is no word has no note
abbrev pub noted : List TypeRow → List ℕ → Option Word → List Note
noted rows text None = []
noted rows text (Some word) = noted_word rows 0 text word

abbrev pub notes_on_word : List TypeRow → List ℕ → List Note
notes_on_word rows text = noted rows text (word_of rows text)

-- in the order of the words
abbrev pub notes_on_words : List TypeRow → List (List ℕ) → List Note
notes_on_words rows [] = []
notes_on_words rows (text ∷ texts) = notes_on_word rows text ++ notes_on_words rows texts
