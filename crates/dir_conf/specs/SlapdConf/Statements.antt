-- What the lines of a slapd.conf say (slapd.conf(5), "GENERAL FORMAT").
use Rattle.std.specs.Prelude.{ℕ, ◌+◌, Bool, cond, not, ◌&&◌, List, [], ◌∷◌, ◌++◌, take, drop, codes, Option, None, Some, Result, Ok, Err}
use Rattle.std.specs.List.{before_first, list_all, position_or_len}
use Rattle.dir_names.specs.Results.{and_then}
use Rattle.dir_conf_text.specs.Arguments.{whole_words}
use Rattle.dir_conf_text.specs.Keywords.{is_word}
use Rattle.dir_conf.specs.declared.fault.ConfFault.{ConfFault}
use Rattle.dir_conf.specs.declared.fault.ConfFault.TheVariants.{BadArguments, BadInclude}
use Rattle.dir_conf.specs.declared.slapd_conf.statements.Said.{Said}
use Rattle.dir_conf.specs.declared.slapd_conf.statements.Said.TheVariants.{Defines, Words}
use Rattle.dir_conf.specs.declared.slapd_conf.statements.SaidLine.{SaidLine}
use Rattle.dir_conf_text.specs.Lines.{is_space}
use Rattle.dir_conf.specs.CnConfig.Macros.{without_spaces}
use Rattle.dir_conf.specs.Flat.{is_no_feed}
use Rattle.dir_conf.specs.SlapdConf.Files.{Placed}

-- what a line says, after its number among all lines
abbrev pub Statement : Type 0
Statement = ℕ × Said

abbrev pub statement_of : SaidLine → Statement
statement_of line = (line.line, line.said)

abbrev pub some_statement : Option SaidLine → List Statement
some_statement None = []
some_statement (Some line) = statement_of line ∷ []

-- ---- definitions

-- the first word of a definition: `attributetype`, and as slapd takes it whatever begins with `attribute`, but for `attributeoptions`
abbrev pub is_definition_word : List ℕ → Bool
is_definition_word word = is_word (take 9 word) (codes "attribute") && not (is_word word (codes "attributeoptions"))

abbrev pub defined_after : List ℕ → Option (List ℕ)
defined_after text = cond (is_definition_word (before_first is_space text)) (Some (drop (position_or_len is_space text) text)) None

-- the definition of an attribute type in a line: all that is after its first word
abbrev pub defined_in : List ℕ → Option (List ℕ)
defined_in line = defined_after (without_spaces line)

-- ---- words

-- a line without words says nothing. One that includes a file is here only where it could not be followed, and a definition only where its first word
-- stands in quotes: slapd takes it as one, and it is refused
abbrev pub by_words : ℕ → Option (List (List ℕ)) → Result (List Statement) ConfFault
by_words line None = Err (BadArguments line)
by_words line (Some []) = Ok []
by_words line (Some (keyword ∷ arguments)) =
    cond (is_word keyword (codes "include")) (Err (BadInclude line))
    (cond (is_definition_word keyword) (Err (BadArguments line))
    (cond (list_all (list_all is_no_feed) (keyword ∷ arguments)) (Ok ((line, Words (keyword ∷ arguments)) ∷ [])) (Err (BadArguments line))))

abbrev pub by_definition : ℕ → List ℕ → Option (List ℕ) → Result (List Statement) ConfFault
by_definition line text (Some definition) = Ok ((line, Defines definition) ∷ [])
by_definition line text None = by_words line (whole_words text)

abbrev pub statement_in : ℕ → Placed → Result (List Statement) ConfFault
statement_in line placed = by_definition line placed.text (defined_in placed.text)

-- the statements of all lines, of which the first has the number `line`, or the first fault
abbrev pub statements_from : ℕ → List Placed → Result (List Statement) ConfFault
statements_from line [] = Ok []
statements_from line (placed ∷ more) = and_then (statement_in line placed) (λ some. and_then (statements_from (line + 1) more) (λ rest. Ok (some ++ rest)))
