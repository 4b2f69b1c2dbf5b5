-- The notes on the words of a file of questions (slapacl(8)): what a word asks for that isn't known here. `notes_on_questions` is the whole.
use Rattle.std.specs.Prelude.{List}
use Rattle.std.specs.List.{flat_map}
use Rattle.dir_names.specs.declared.schema.TypeRow.{TypeRow}
use Rattle.dir_acl.specs.declared.note.Note.{Note}
use Rattle.dir_tools.specs.WordNotes.{noted_word}
use Rattle.dir_questions.specs.Questions.{AskedWord, QuestionBlock}

-- on a word that asks for an attribute of a type that isn't known, as on one of a command line, but at its line
abbrev pub notes_on_asked : List TypeRow → AskedWord → List Note
notes_on_asked rows asked = noted_word rows asked.line asked.text asked.word

abbrev pub notes_on_block : List TypeRow → QuestionBlock → List Note
notes_on_block rows b = flat_map (notes_on_asked rows) b.words

-- in the order of the lines
abbrev pub notes_on_questions : List TypeRow → List QuestionBlock → List Note
notes_on_questions rows blocks = flat_map (notes_on_block rows) blocks
