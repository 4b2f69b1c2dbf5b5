-- What a slapd.conf says (slapd.conf(5)): the suffix and the rootdn of its one database, and its access rules; or its first fault, with the line of its
-- directive. `config_of` at the end of this page is the whole. The first faulty line decides, and in a line the first faulty argument. The attribute types that it
-- defines are `config_types`.
pub mod AccessRules
pub mod Names
pub mod OpenForms
pub mod Opening
pub mod Permissions
pub mod Whats
pub mod Whos
use Rattle.std.specs.Prelude.{ℕ, ◌+◌, Bool, true, false, cond, not, ◌||◌, ◌==◌, nat_lt, List, [], ◌∷◌, ◌++◌, length, codes, Option, Some, None, is_some, ok_or, Result, Ok, Err}
use Rattle.std.specs.List.{list_all}
use Rattle.dir_names.specs.Keys.{DnKeys}
use Rattle.dir_names.specs.Results.{and_then}
use Rattle.dir_names.specs.Types.Adding.{table_with_text}
use Rattle.dir_names.specs.declared.schema.TypeRow.{TypeRow}
use Rattle.dir_acl.specs.declared.fault.ConfigCause.{ConfigCause}
use Rattle.dir_acl.specs.declared.fault.ConfigCause.TheVariants.{BadDirective, Name, SecondDatabase, SecondSuffix, GlobalAccess, NoSuffix, ConfigTooLong, BadType}
use Rattle.dir_acl.specs.declared.fault.ConfigFault.{ConfigFault}
use Rattle.dir_acl.specs.Config.AccessRules.{access_rule_of}
use Rattle.dir_conf_text.specs.Keywords.{is_word}
use Rattle.dir_conf_text.specs.Text.{config_lines, definition_by, words_by}
use Rattle.dir_conf_text.specs.declared.text.ConfigLine.{ConfigLine}
use Rattle.dir_conf_text.specs.declared.text.Said.{Said}
use Rattle.dir_acl.specs.Config.Names.{name_at}
use Rattle.dir_acl.specs.Rules.{AccessRule, Configuration}

-- what the lines so far say
pub record Settings : Type 0 where
  -- there was a `database` other than those of `config` and `monitor`
  pub has_database : Bool
  -- in the part of `database config` or `database monitor`, of which every line up to the next `database` is passed over
  pub is_passed_over : Bool
  pub suffix : Option DnKeys
  pub root : Option DnKeys
  pub rules : List AccessRule

abbrev pub no_settings : Settings
no_settings = record { has_database = false; is_passed_over = false; suffix = None; root = None; rules = [] }

-- ---- arguments

-- the first argument, and those after it; BadDirective if there is none, or if it has an open quote or a final backslash
abbrev pub first_argument : List (Option (List ℕ)) → Result (List ℕ × List (Option (List ℕ))) ConfigCause
first_argument [] = Err BadDirective
first_argument (None ∷ more) = Err BadDirective
first_argument (Some argument ∷ more) = Ok (argument, more)

-- the settings, if no argument has an open quote or a final backslash
abbrev pub if_complete : List (Option (List ℕ)) → Settings → Result Settings ConfigCause
if_complete arguments settings = cond (list_all is_some arguments) (Ok settings) (Err BadDirective)

-- the settings, if there is no argument more
abbrev pub if_last : List (Option (List ℕ)) → ConfigCause → Settings → Result Settings ConfigCause
if_last [] cause settings = Ok settings
if_last (None ∷ more) cause settings = Err BadDirective
if_last (Some argument ∷ more) cause settings = Err cause

-- ---- directives

abbrev pub of_database : Settings → List ℕ → List (Option (List ℕ)) → Result Settings ConfigCause
of_database settings name more =
    cond (is_word name (codes "config") || is_word name (codes "monitor")) (if_complete more (record settings { is_passed_over = true }))
    (cond settings.has_database (Err SecondDatabase) (if_complete more (record settings { has_database = true; is_passed_over = false })))

-- `database NAME`. Those of the names `config` and `monitor` begin a part that is passed over; of others there may be one
abbrev pub database : Settings → List (Option (List ℕ)) → Result Settings ConfigCause
database settings arguments = and_then (first_argument arguments) (λ p. of_database settings p.0 p.1)

-- the name of the suffix: of at least one RDN
abbrev pub suffix_at : List TypeRow → List ℕ → Result DnKeys ConfigCause
suffix_at rows text = and_then (name_at rows text) (λ name. cond (length name == 0) (Err Name) (Ok name))

abbrev pub new_suffix : List TypeRow → Settings → List (Option (List ℕ)) → Result Settings ConfigCause
new_suffix rows settings arguments =
    and_then (first_argument arguments) (λ p. and_then (suffix_at rows p.0) (λ name. if_last p.1 SecondSuffix (record settings { suffix = Some name })))

-- `suffix NAME`, once, after `database`
abbrev pub suffix : List TypeRow → Settings → List (Option (List ℕ)) → Result Settings ConfigCause
suffix rows settings arguments =
    cond (not settings.has_database) (Err BadDirective) (cond (is_some settings.suffix) (Err SecondSuffix) (new_suffix rows settings arguments))

abbrev pub new_root : List TypeRow → Settings → List (Option (List ℕ)) → Result Settings ConfigCause
new_root rows settings arguments =
    and_then (first_argument arguments) (λ p. and_then (name_at rows p.0) (λ name. if_last p.1 BadDirective (record settings { root = Some name })))

-- `rootdn NAME`, once, after `database`. The name without RDNs is nobody's
abbrev pub rootdn : List TypeRow → Settings → List (Option (List ℕ)) → Result Settings ConfigCause
rootdn rows settings arguments = cond (not settings.has_database || is_some settings.root) (Err BadDirective) (new_root rows settings arguments)

abbrev pub with_rule : Settings → AccessRule → Settings
with_rule settings rule = record settings { rules = settings.rules ++ rule ∷ [] }

-- `access to ..`, after `database`
abbrev pub access : List TypeRow → Settings → List (Option (List ℕ)) → Result Settings ConfigCause
access rows settings arguments =
    cond (not settings.has_database) (Err GlobalAccess)
    (and_then (access_rule_of rows arguments) (λ rule. Ok (with_rule settings rule)))

-- any other directive is passed over
abbrev pub other_than_database : List TypeRow → Settings → List ℕ → List (Option (List ℕ)) → Result Settings ConfigCause
other_than_database rows settings keyword arguments =
    cond settings.is_passed_over (if_complete arguments settings)
    (cond (is_word keyword (codes "suffix")) (suffix rows settings arguments)
    (cond (is_word keyword (codes "rootdn")) (rootdn rows settings arguments)
    (cond (is_word keyword (codes "access")) (access rows settings arguments) (if_complete arguments settings))))

abbrev pub directive : List TypeRow → Settings → List ℕ → List (Option (List ℕ)) → Result Settings ConfigCause
directive rows settings keyword arguments =
    cond (is_word keyword (codes "database")) (database settings arguments) (other_than_database rows settings keyword arguments)

-- ---- lines

-- a line without words says nothing
abbrev pub after_arguments : List TypeRow → Settings → List (Option (List ℕ)) → Result Settings ConfigCause
after_arguments rows settings [] = Ok settings
after_arguments rows settings (None ∷ more) = Err BadDirective
after_arguments rows settings (Some keyword ∷ more) = directive rows settings keyword more

abbrev pub after_line : List TypeRow → Settings → Said → Result Settings ConfigCause
after_line rows settings said = after_arguments rows settings (words_by said)

-- the fault of a line has its number
abbrev pub at_line : {A : Type 0} → ℕ → Result A ConfigCause → Result A ConfigFault
at_line n (Ok settings) = Ok settings
at_line n (Err cause) = Err (record { line = n; cause = cause })

abbrev pub after_lines : List TypeRow → Settings → List ConfigLine → Result Settings ConfigFault
after_lines rows settings [] = Ok settings
after_lines rows settings (line ∷ lines) = and_then (at_line line.number (after_line rows settings line.said)) (λ next. after_lines rows next lines)

-- ---- the whole

abbrev pub of_suffix : Settings → Option DnKeys → Result Configuration ConfigFault
of_suffix settings None = Err (record { line = 0; cause = NoSuffix })
of_suffix settings (Some name) = Ok (record { suffix = name; root = settings.root; rules = settings.rules })

-- the lines of a text, which may have 16,777,216 bytes
abbrev pub bounded_lines : List ℕ → Result (List ConfigLine) ConfigFault
bounded_lines text = cond (nat_lt 16777216 (length text)) (Err (record { line = 0; cause = ConfigTooLong })) (Ok (config_lines text))

-- lines without a suffix are refused after all
abbrev pub config_of_lines : List TypeRow → List ConfigLine → Result Configuration ConfigFault
config_of_lines rows lines = and_then (after_lines rows no_settings lines) (λ settings. of_suffix settings settings.suffix)

abbrev pub config_of : List TypeRow → List ℕ → Result Configuration ConfigFault
config_of rows text = and_then (bounded_lines text) (config_of_lines rows)

-- ---- the attribute types

-- the table with what a line defines, wherever the line stands; any other line says nothing here
abbrev pub types_with : List TypeRow → Option (List ℕ) → Result (List TypeRow) ConfigCause
types_with rows None = Ok rows
types_with rows (Some definition) = ok_or (table_with_text rows definition) BadType

abbrev pub types_after : List TypeRow → List ConfigLine → Result (List TypeRow) ConfigFault
types_after rows [] = Ok rows
types_after rows (line ∷ lines) = and_then (at_line line.number (types_with rows (definition_by line.said))) (λ now. types_after now lines)

-- the table with all that a text defines, or the first definition that adds nothing to it
abbrev pub config_types : List TypeRow → List ℕ → Result (List TypeRow) ConfigFault
config_types rows text = and_then (bounded_lines text) (types_after rows)
