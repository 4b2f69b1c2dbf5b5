-- The texts of the notes on a configuration and on questions, and of the argument that a fault is about.
use Rattle.std.specs.Prelude.{ℕ, List, ◌++◌, codes, cond, nat_lt, Option, None, Some}
use Rattle.std.specs.Fmt.{decimal}
use Rattle.std.specs.Str.{is_utf8}
use Rattle.dir_acl.specs.declared.deciding.FaultArgument.{FaultArgument}
use Rattle.dir_acl.specs.declared.note.Note.{Note}
use Rattle.dir_acl.specs.declared.note.NoteCause.{NoteCause}
use Rattle.dir_acl.specs.declared.note.NoteCause.TheVariants.{Include, UnknownType, Supertype, ObjectClass, HalfOfWrite, OtherDatabase, NoRule, UnknownInWord}
use Rattle.dir_files.specs.Escape.{escaped}

-- a text of the configuration or of the question, its control characters escaped
abbrev pub shown_bytes : List ℕ → List ℕ
shown_bytes bytes = cond (is_utf8 bytes) (escaped bytes) (codes "(not UTF-8)")

-- the line on which it stands, after these words
abbrev pub at_line : List ℕ → ℕ → List ℕ
at_line before line = before ++ decimal line ++ codes ": "

abbrev pub place_text : ℕ → List ℕ
place_text line = at_line (codes "note: config, line ") line

abbrev pub unknown_text : List ℕ → List ℕ
unknown_text description = codes "unknown attribute \"" ++ shown_bytes description ++ codes "\""

abbrev pub derived_text : List ℕ → List ℕ
derived_text description = codes "types derived from \"" ++ shown_bytes description ++ codes "\" are not looked at"

-- a word of a file of questions stands on a line, and one of a command line on none
abbrev pub word_place : ℕ → List ℕ
word_place line = cond (nat_lt 0 line) (at_line (codes "note: questions, line ") line) (codes "note: ")

abbrev pub word_text : ℕ → List ℕ → List ℕ
word_text line word = word_place line ++ (codes "word \"" ++ shown_bytes word ++ codes "\": ")

abbrev pub noted_text : ℕ → NoteCause → List ℕ
noted_text line (Include file) = place_text line ++ (codes "include \"" ++ shown_bytes file ++ codes "\" is not read")
noted_text line (UnknownType description) = place_text line ++ unknown_text description
noted_text line (Supertype description) = place_text line ++ derived_text description
noted_text line ObjectClass = place_text line ++ codes "objectClass: only the classes that an entry lists are looked at"
noted_text line HalfOfWrite = place_text line ++ codes "for -a or -z slapd takes all of w away"
noted_text line OtherDatabase = place_text line ++ codes "access rule of database config or monitor is passed over"
noted_text line NoRule = codes "note: config: no access rule, so everybody may read"
noted_text line (UnknownInWord word description) = word_text line word ++ unknown_text description

-- a note, as it stands after the program's name
abbrev pub note_text : Note → List ℕ
note_text note = noted_text note.line note.cause

-- ---- the argument that a fault of the configuration is about

-- the physical line on which it begins
abbrev pub line_text : ℕ → List ℕ
line_text line = at_line (codes "note: line ") line

-- one with an open quote, or with a backslash at the line's end, has no text
abbrev pub quoted_argument : Option (List ℕ) → List ℕ
quoted_argument (Some argument) = codes "\"" ++ shown_bytes argument ++ codes "\""
quoted_argument None = codes "an open quote or a final backslash"

-- it stands after the program's name, as a note does
abbrev pub argument_text : FaultArgument → List ℕ
argument_text found = line_text found.line ++ quoted_argument found.argument
