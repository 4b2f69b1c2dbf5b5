-- The command line: the tools, and the options of each.
use Rattle.std.specs.Prelude.{◌≡◌, ℕ, [], ◌∷◌, List, None, Option, Some, codes, false, is_some, true}
use Rattle.clap.specs.Lexer.{usize_max}
use Rattle.clap.specs.Simple.{App, Shape, new_rule, new_shape, shape_of, subcommand_of}
use Rattle.clap.specs.Walk.{Row, Rule, Text, rows_of}
use Rattle.clap.specs.Matches.{first_value}
use Rattle.clap.specs.declared.builder.action.ArgAction.TheVariants.{Append, Set, SetTrue}
use Rattle.clap.specs.declared.builder.command.Command.{Command}
use Rattle.clap.specs.declared.builder.command.Command.TheViews.{out-Command}
use Rattle.clap.specs.declared.builder.value_parser.ValueParser.TheVariants.{Unsigned}
use Rattle.clap.specs.declared.parser.matches.Found.{Found}
use Rattle.slapkit.specs.declared.command.Words.{Words}
use Rattle.slapkit.specs.declared.command.Words.TheVariants.{Questions, Slapacl, Slapconf, Slapmodify}
use Rattle.slapkit.specs.Words.{AreAccessWordsOf, AreConfWordsOf, AreQuestionWordsOf, AreWordsOf, IsNumber}

-- ---- the forms of an option

-- an argument that has a value
abbrev pub value : Text → Rule
value id = record (new_rule id) { value_names = 1; action = Some Set }

-- the first letter of a text
abbrev pub letter : Text → Option ℕ
letter [] = None
letter (c ∷ rest) = Some c

-- an option of one letter, or of a word after two hyphens, that has a value
abbrev pub short : Text → Text → Rule
short name id = record (value id) { short = letter name }

abbrev pub long : Text → Text → Rule
long name id = record (value id) { long = Some name }

-- an option of one letter that has none
abbrev pub flag : Text → Text → Rule
flag name id = record (new_rule id) { short = letter name; action = Some SetTrue }

abbrev pub long_flag : Text → Text → Rule
long_flag name id = record (new_rule id) { long = Some name; action = Some SetTrue }

-- it must be given
abbrev pub required : Rule → Rule
required rule = record rule { required = true }

-- it must be given unless another is, or may not be given with another, or only with another
abbrev pub bound : Rule → Rule
bound rule = record rule { is_free = false }

-- its value is a number of 64 bits
abbrev pub number : Rule → Rule
number rule = record rule { parser = Some (Unsigned 0 18446744073709551615) }

-- ---- the tools

abbrev pub slapmodify : Shape
slapmodify = record (new_shape (codes "slapmodify")) {
  rules = required (short (codes "b") (codes "suffix"))
      ∷ required (long (codes "data") (codes "data"))
      ∷ bound (long (codes "out") (codes "out"))
      ∷ bound (long (codes "undo") (codes "undo"))
      ∷ short (codes "l") (codes "changes")
      ∷ short (codes "f") (codes "config")
      ∷ flag (codes "c") (codes "go_on")
      ∷ flag (codes "u") (codes "dry")
      ∷ flag (codes "v") (codes "verbose")
      ∷ number (long (codes "last") (codes "last"))
      ∷ [];
}

abbrev pub slapacl : Shape
slapacl = record (new_shape (codes "slapacl")) {
  rules = bound (short (codes "b") (codes "base"))
      ∷ required (short (codes "f") (codes "config"))
      ∷ required (long (codes "data") (codes "data"))
      ∷ short (codes "D") (codes "authc")
      ∷ flag (codes "u") (codes "fake")
      ∷ flag (codes "v") (codes "verbose")
      ∷ long_flag (codes "strict") (codes "strict")
      ∷ bound (long (codes "questions") (codes "questions"))
      ∷ bound (long (codes "answers") (codes "answers"))
      ∷ record (new_rule (codes "words")) { value_names = 1; action = Some Append; range = Some (record { start_inclusive = 0; end_inclusive = usize_max }) }
      ∷ [];
}

abbrev pub slapconf : Shape
slapconf = record (new_shape (codes "slapconf")) {
  rules = required (short (codes "b") (codes "suffix"))
      ∷ bound (short (codes "f") (codes "slapd_conf"))
      ∷ long (codes "config") (codes "config")
      ∷ required (long (codes "out") (codes "out"))
      ∷ [];
}

abbrev pub slapkit : App
slapkit = record {
  top = record (new_shape (codes "slapkit")) { is_leaf = false; has_version = true; arg_required_else_help = true; subcommand_required = true };
  subs = slapmodify ∷ slapacl ∷ slapconf ∷ [];
}

-- the command is that of this tool, and no option of it is the other tools' too
abbrev pub IsTool : Command → Shape → Type 0
IsTool c tool = (shape_of c ≡ tool) × ((out-Command c).has_globals ≡ false)

-- ---- what is read

-- the words, the program's name first, name this tool, and its options were found so
abbrev pub Names : List Text → Text → Found → Type 0
Names words tool found = subcommand_of slapkit words ≡ Some (tool, rows_of found)

-- a tool is asked for with these words: each is the value that its own option has among them
abbrev pub IsAskedBy : List Text → Found → Words → Type 0
IsAskedBy words found (Slapmodify asked) = Names words (codes "slapmodify") found × AreWordsOf found asked × IsNumber found (codes "last") asked.options.last
IsAskedBy words found (Slapacl asked) = Names words (codes "slapacl") found × (first_value found (codes "questions") ≡ None) × AreAccessWordsOf found asked
IsAskedBy words found (Questions asked) = Names words (codes "slapacl") found × (is_some (first_value found (codes "questions")) ≡ true) × AreQuestionWordsOf found asked
IsAskedBy words found (Slapconf asked) = Names words (codes "slapconf") found × AreConfWordsOf found asked

abbrev pub AreRead : List Text → Words → Type 0
AreRead words asked = (found : Found) × IsAskedBy words found asked

-- the arguments that say what a single question asks
abbrev pub of_a_question : List Text
of_a_question = codes "base" ∷ codes "authc" ∷ codes "fake" ∷ codes "words" ∷ []
