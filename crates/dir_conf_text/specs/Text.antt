-- The lines of a slapd.conf that say something (slapd.conf(5), "GENERAL FORMAT"). `config_lines`, at the end of this page, is the whole.
use Rattle.std.specs.Prelude.{ℕ, List, [], ◌∷◌, Option, None, Some, option_map}
use Rattle.dir_conf_text.specs.declared.joining.Joining.TheVariants.{Plain}
use Rattle.dir_conf_text.specs.declared.text.ConfigLine.{ConfigLine}
use Rattle.dir_conf_text.specs.declared.text.Said.{Said}
use Rattle.dir_conf_text.specs.declared.text.Said.TheVariants.{Words, Definition}
use Rattle.dir_conf_text.specs.Arguments.{words_of}
use Rattle.dir_conf_text.specs.Definitions.{definition_in}
use Rattle.dir_conf_text.specs.Lines.{logical_lines}

-- a line without words, as an empty one or a comment, says nothing
abbrev pub worded : List (Option (List ℕ)) → Option Said
worded [] = None
worded (word ∷ words) = Some (Words (word ∷ words))

abbrev pub defined_or : List (Option (List ℕ)) → Option (List ℕ) → Option Said
defined_or words (Some definition) = Some (Definition definition)
defined_or words None = worded words

-- what a line says: it defines an attribute type, or has words
abbrev pub said_in : List ℕ → Option Said
said_in line = defined_or (words_of line) (definition_in line)

-- a line of this number that says this, if anything, and those after it
abbrev pub with_said : ℕ → Option Said → List ConfigLine → List ConfigLine
with_said n None lines = lines
with_said n (Some said) lines = record { number = n; said = said } ∷ lines

abbrev pub lines_said : List (ℕ × List ℕ) → List ConfigLine
lines_said [] = []
lines_said (line ∷ lines) = with_said line.0 (said_in line.1) (lines_said lines)

-- ---- a line

-- its words; the definition of a type has none
abbrev pub words_by : Said → List (Option (List ℕ))
words_by (Words words) = words
words_by (Definition definition) = []

abbrev pub definition_by : Said → Option (List ℕ)
definition_by (Words words) = None
definition_by (Definition definition) = Some definition

-- ---- the whole

-- the logical lines of a text that say something, each with the number of its first physical line
abbrev pub config_lines : List ℕ → List ConfigLine
config_lines text = lines_said (logical_lines Plain text)

-- those among them that define an attribute type
abbrev pub lines_defined : List (ℕ × List ℕ) → List ConfigLine
lines_defined [] = []
lines_defined (line ∷ lines) = with_said line.0 (option_map Definition (definition_in line.1)) (lines_defined lines)

abbrev pub definition_lines : List ℕ → List ConfigLine
definition_lines text = lines_defined (logical_lines Plain text)
