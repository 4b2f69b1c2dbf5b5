-- The parts of a slapd.conf (slapd.conf(5), `database`): what is said of each database, and of the frontend, whose rules hold in all.
use Rattle.std.specs.Prelude.{ℕ, cond, ◌||◌, List, [], ◌∷◌, ◌++◌, map, codes, Option, None, ok_or, Result, Ok, Err}
use Rattle.dir_names.specs.Keys.{DnKeys}
use Rattle.dir_names.specs.NameKeys.{name_value_key}
use Rattle.dir_names.specs.Results.{and_then}
use Rattle.dir_names.specs.declared.schema.TypeRow.{TypeRow}
use Rattle.dir_conf_text.specs.Keywords.{is_word}
use Rattle.dir_conf.specs.declared.cn_config.databases.Suffix.{Suffix}
use Rattle.dir_conf.specs.declared.fault.ConfFault.{ConfFault}
use Rattle.dir_conf.specs.declared.fault.ConfFault.TheVariants.{BadArguments, NoDatabase}
use Rattle.dir_conf.specs.declared.site.Directive.{Directive}
use Rattle.dir_conf.specs.declared.site.Directive.TheVariants.{Suffix as a_suffix, RootDn, Access}
use Rattle.dir_conf.specs.declared.site.Line.{Line}
use Rattle.dir_conf.specs.declared.slapd_conf.parts.Database as declared
use Rattle.dir_conf.specs.declared.slapd_conf.parts.Part.{Part}
use Rattle.dir_conf.specs.declared.slapd_conf.parts.Part.TheVariants.{Frontend, OneDatabase, PassedOver}
use Rattle.dir_conf.specs.declared.slapd_conf.parts.Parts as declared_parts
use Rattle.dir_conf.specs.declared.slapd_conf.statements.Said.TheVariants.{Defines, Words}
use Rattle.dir_conf.specs.CnConfig.Databases.{by_suffixes, is_at, is_within, line_of_first, suffix_by}
use Rattle.dir_conf.specs.SlapdConf.Files.{after_each}
use Rattle.dir_conf.specs.SlapdConf.Statements.{Statement}

-- the suffixes of a database, and its lines
pub record Database : Type 0 where
  pub suffixes : List Suffix
  pub lines : List Line

abbrev pub database_by : declared.Database → Database
database_by database = record { suffixes = database.suffixes.items; lines = database.lines.items }

-- the part that the next line is in; the databases before the last one, and the last one, which is empty as long as there is none; the rules of the frontend
pub record Parts : Type 0 where
  pub part : Part
  pub before : List Database
  pub last : Database
  pub frontend : List Line

abbrev pub parts_by : declared_parts.Parts → Parts
parts_by parts = record { part = parts.part; before = map database_by parts.before.items; last = database_by parts.last; frontend = parts.frontend.items }

abbrev pub no_database : Database
no_database = record { suffixes = []; lines = [] }

-- what comes before the first `database` is said of the frontend
abbrev pub no_parts : Parts
no_parts = record { part = Frontend; before = []; last = no_database; frontend = [] }

-- ---- a line that begins a part

-- `frontend` is no database of its own, and what is said of `config` and `monitor` is not about a directory
abbrev pub part_named : List ℕ → Part
part_named name = cond (is_word name (codes "frontend")) Frontend (cond (is_word name (codes "config") || is_word name (codes "monitor")) PassedOver OneDatabase)

abbrev pub opened : Part → Parts → Parts
opened Frontend parts = record parts { part = Frontend }
opened PassedOver parts = record parts { part = PassedOver }
opened OneDatabase parts = record { part = OneDatabase; before = parts.before ++ parts.last ∷ []; last = no_database; frontend = parts.frontend }

-- `database NAME`
abbrev pub after_database : ℕ → List (List ℕ) → Parts → Result Parts ConfFault
after_database line [] parts = Err (BadArguments line)
after_database line (name ∷ more) parts = Ok (opened (part_named name) parts)

-- ---- a line of a database

abbrev pub with_own : Directive → List (List ℕ) → Parts → Parts
with_own directive arguments parts =
    record parts { last = record { suffixes = parts.last.suffixes; lines = parts.last.lines ++ record { directive = directive; arguments = arguments } ∷ [] } }

abbrev pub with_suffixes : List Suffix → Parts → Parts
with_suffixes some parts = record parts { last = record { suffixes = parts.last.suffixes ++ some; lines = parts.last.lines } }

-- `suffix NAME`
abbrev pub after_suffix : List TypeRow → ℕ → List (List ℕ) → Parts → Result Parts ConfFault
after_suffix rows line (name ∷ []) parts = and_then (suffix_by line (name_value_key rows name)) (λ some. Ok (with_own a_suffix (name ∷ []) (with_suffixes some parts)))
after_suffix rows line _ parts = Err (BadArguments line)

abbrev pub in_database : List TypeRow → ℕ → List ℕ → List (List ℕ) → Parts → Result Parts ConfFault
in_database rows line keyword arguments parts =
    cond (is_word keyword (codes "suffix")) (after_suffix rows line arguments parts)
    (cond (is_word keyword (codes "rootdn")) (Ok (with_own RootDn arguments parts))
    (cond (is_word keyword (codes "access")) (Ok (with_own Access arguments parts)) (Ok parts)))

abbrev pub in_frontend : List ℕ → List (List ℕ) → Parts → Parts
in_frontend keyword arguments parts =
    cond (is_word keyword (codes "access")) (record parts { frontend = parts.frontend ++ record { directive = Access; arguments = arguments } ∷ [] }) parts

abbrev pub in_part : List TypeRow → Part → ℕ → List ℕ → List (List ℕ) → Parts → Result Parts ConfFault
in_part rows Frontend line keyword arguments parts = Ok (in_frontend keyword arguments parts)
in_part rows PassedOver line keyword arguments parts = Ok parts
in_part rows OneDatabase line keyword arguments parts = in_database rows line keyword arguments parts

-- ---- all lines

abbrev pub after_words : List TypeRow → ℕ → List (List ℕ) → Parts → Result Parts ConfFault
after_words rows line [] parts = Ok parts
after_words rows line (keyword ∷ arguments) parts =
    cond (is_word keyword (codes "database")) (after_database line arguments parts) (in_part rows parts.part line keyword arguments parts)

abbrev pub after_statement : List TypeRow → Statement → Parts → Result Parts ConfFault
after_statement rows (line, Defines definition) parts = Ok parts
after_statement rows (line, Words words) parts = after_words rows line words parts

abbrev pub parts_of : List TypeRow → List Statement → Result Parts ConfFault
parts_of rows statements = after_each (after_statement rows) statements no_parts

-- ---- the database of a suffix

abbrev pub after_one : DnKeys → Database → Option Database → Result (Option Database) ConfFault
after_one wanted database found =
    by_suffixes found database (line_of_first (is_at wanted) database.suffixes) (line_of_first (is_within wanted) database.suffixes)

-- the one whose suffix this is, where no other has a suffix below it; or the first fault
abbrev pub database_of : DnKeys → Parts → Result Database ConfFault
database_of wanted parts = and_then (after_each (after_one wanted) (parts.before ++ parts.last ∷ []) None) (λ found. ok_or found NoDatabase)

-- its lines, and the rules of the frontend
abbrev pub lines_of : DnKeys → Parts → Result (List Line × List Line) ConfFault
lines_of wanted parts = and_then (database_of wanted parts) (λ database. Ok (database.lines, parts.frontend))
