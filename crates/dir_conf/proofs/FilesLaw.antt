-- The flat configuration that files of a slapd.conf come to is read as what their lines say.
use Rattle.std.proofs.Common.{◌≡◌, ℕ, ◌+◌, Bool, true, false, cond, List, [], ◌∷◌, ◌++◌, codes, Option, None, Some, is_some, ok_or, Result, Ok, Err, refl, ap}
use Rattle.std.specs.List.{list_all}
use Rattle.dir_names.specs.Keys.{DnKeys}
use Rattle.dir_names.specs.NameKeys.{name_value_key}
use Rattle.dir_names.specs.Results.{and_then}
use Rattle.dir_names.specs.declared.schema.TypeRow.{TypeRow}
use Rattle.dir_conf_text.specs.Arguments.{whole_words}
use Rattle.dir_conf.specs.declared.cn_config.macros.Macro.{Macro}
use Rattle.dir_conf.specs.declared.fault.ConfFault.{ConfFault}
use Rattle.dir_conf.specs.declared.fault.ConfFault.TheVariants.{BadArguments, BadInclude, NoDatabase, SecondDatabase}
use Rattle.dir_conf.specs.declared.site.Directive.{Directive}
use Rattle.dir_conf.specs.declared.site.Line.{Line}
use Rattle.dir_conf.specs.declared.site.Tally.{Tally}
use Rattle.dir_conf.specs.declared.slapd_conf.parts.Part.{Part}
use Rattle.dir_conf.specs.declared.slapd_conf.parts.Part.TheVariants.{Frontend, OneDatabase, PassedOver}
use Rattle.dir_conf.specs.declared.slapd_conf.statements.Said.TheVariants.{Defines, Words}
use Rattle.dir_conf.specs.CnConfig.Macros.{by_first, definition, without_spaces}
use Rattle.dir_conf.specs.Flat.{Content, flat_of_site, is_no_feed}
use Rattle.dir_conf.specs.Laws.{FlatFilesAreRead, ReadsSite, has_one_line, is_no_end}
use Rattle.dir_conf.specs.SlapdConf.{by_lines, located, located_result, macros_by, site_of, site_of_lines, types_of}
use Rattle.dir_conf.specs.SlapdConf.Files.{Placed, after_each, lines_of_files}
use Rattle.dir_conf.specs.SlapdConf.Parts.{Database, Parts, after_database, after_one, after_statement, after_suffix, after_words, database_of, in_database, in_frontend, in_part, lines_of, no_parts, opened, part_named, parts_of, with_own, with_suffixes}
use Rattle.dir_conf.specs.SlapdConf.Statements.{Statement, by_definition, by_words, defined_in, is_definition_word, statement_in, statements_from}
use Rattle.dir_acl.proofs.Grammar.Sound.{first_true, second_true}
use Rattle.dir_conf_text.specs.Keywords.{is_word}
use Rattle.dir_conf.specs.declared.cn_config.databases.Suffix.{Suffix}
use Rattle.dir_conf.specs.declared.site.Directive.TheVariants.{Suffix as a_suffix, RootDn, Access}
use Rattle.dir_conf.specs.CnConfig.Databases.{by_suffixes, is_at, is_within, line_of_first, suffix_by}
use Rattle.dir_conf.proofs.ConfigLaw.{no_value, same_value, site_reads}
use Rattle.dir_conf.proofs.FlatLines.{both}
use Rattle.dir_conf.proofs.FlatSites.{IsFlatSite, OfValue, joined_all, plain_no_ends, then_value}

-- ---- definitions

types_flat : (macros : List Macro) (statements : List Statement) → OfValue (λ types. list_all (list_all is_no_end) types ≡ true) (types_of macros statements)
types_flat macros [] = refl
types_flat macros ((line, Defines text) ∷ more) = by (types_of macros more) (types_flat macros more)
  where
    by : (r : Result (List (List ℕ)) ConfFault) → OfValue (λ types. list_all (list_all is_no_end) types ≡ true) r → OfValue (λ types. list_all (list_all is_no_end) types ≡ true) (and_then r (λ rest. Ok (definition macros text ∷ rest)))
    by (Ok rest) h = both (list_all is_no_end (definition macros text)) _ (plain_no_ends (by_first macros text (without_spaces text))) h
    by (Err why) h = tt
types_flat macros ((line, Words words) ∷ more) =
    then_value (λ types. list_all (list_all is_no_end) types ≡ true) (macros_by macros line words) (λ now. types_of now more) (λ now. types_flat now more)

-- ---- statements

-- no word has a line feed
is_flat : Statement → Bool
is_flat (line, Defines text) = true
is_flat (line, Words words) = list_all (list_all is_no_feed) words

words_flat : (line : ℕ) (words : Option (List (List ℕ))) → OfValue (λ found. list_all is_flat found ≡ true) (by_words line words)
unfolding is_flat
words_flat line None = tt
words_flat line (Some []) = refl
words_flat line (Some (keyword ∷ arguments)) =
    by (is_word keyword (codes "include")) (is_definition_word keyword) (list_all (list_all is_no_feed) (keyword ∷ arguments)) refl
  where
    by : (t d u : Bool) → list_all (list_all is_no_feed) (keyword ∷ arguments) ≡ u
        → OfValue (λ found. list_all is_flat found ≡ true) (cond {A = Result (List Statement) ConfFault} t (Err (BadInclude line)) (cond {A = Result (List Statement) ConfFault} d (Err (BadArguments line))
        (cond {A = Result (List Statement) ConfFault} u (Ok ((line, Words (keyword ∷ arguments)) ∷ [])) (Err (BadArguments line)))))
    by true d u e = tt
    by false true u e = tt
    by false false true e = both (list_all (list_all is_no_feed) (keyword ∷ arguments)) _ e refl
    by false false false e = tt

statement_flat : (line : ℕ) (text : List ℕ) (definition : Option (List ℕ)) → OfValue (λ found. list_all is_flat found ≡ true) (by_definition line text definition)
unfolding is_flat
statement_flat line text (Some definition) = refl
statement_flat line text None = words_flat line (whole_words text)

statements_flat : (line : ℕ) (lines : List Placed) → OfValue (λ found. list_all is_flat found ≡ true) (statements_from line lines)
statements_flat line [] = refl
statements_flat line (placed ∷ more) = by (statement_in line placed) (statement_flat line placed.text (defined_in placed.text)) (statements_from (line + 1) more) (statements_flat (line + 1) more)
  where
    by : (r : Result (List Statement) ConfFault) → OfValue (λ found. list_all is_flat found ≡ true) r → (s : Result (List Statement) ConfFault) → OfValue (λ found. list_all is_flat found ≡ true) s
        → OfValue (λ found. list_all is_flat found ≡ true) (and_then r (λ some. and_then s (λ rest. Ok (some ++ rest))))
    by (Ok some) e (Ok rest) f = joined_all is_flat some rest e f
    by (Ok some) e (Err why) f = tt
    by (Err why) e s f = tt

-- ---- parts

one_more : (lines : List Line) (directive : Directive) (arguments : List (List ℕ)) → list_all has_one_line lines ≡ true → list_all (list_all is_no_feed) arguments ≡ true
    → list_all has_one_line (lines ++ record { directive = directive; arguments = arguments } ∷ []) ≡ true
one_more lines directive arguments e f = joined_all has_one_line lines (record { directive = directive; arguments = arguments } ∷ []) e (both (list_all (list_all is_no_feed) arguments) _ f refl)

abbrev is_flat_database : Database → Bool
is_flat_database database = list_all has_one_line database.lines

record AreFlatParts (parts : Parts) : Type 0 where
  before : list_all is_flat_database parts.before ≡ true
  last : list_all has_one_line parts.last.lines ≡ true
  frontend : list_all has_one_line parts.frontend ≡ true

opened_flat : (part : Part) (parts : Parts) → AreFlatParts parts → AreFlatParts (opened part parts)
opened_flat Frontend parts h = record { before = h.before; last = h.last; frontend = h.frontend }
opened_flat PassedOver parts h = record { before = h.before; last = h.last; frontend = h.frontend }
opened_flat OneDatabase parts h = record { before = joined_all is_flat_database parts.before (parts.last ∷ []) h.before (both (list_all has_one_line parts.last.lines) _ h.last refl); last = refl; frontend = h.frontend }

with_own_flat : (directive : Directive) (arguments : List (List ℕ)) (parts : Parts) → list_all (list_all is_no_feed) arguments ≡ true → AreFlatParts parts → AreFlatParts (with_own directive arguments parts)
with_own_flat directive arguments parts e h = record { before = h.before; last = one_more parts.last.lines directive arguments h.last e; frontend = h.frontend }

suffix_flat : (rows : List TypeRow) (line : ℕ) (arguments : List (List ℕ)) (parts : Parts) → list_all (list_all is_no_feed) arguments ≡ true → AreFlatParts parts → OfValue AreFlatParts (after_suffix rows line arguments parts)
suffix_flat rows line [] parts e h = tt
suffix_flat rows line (name ∷ []) parts e h = by (suffix_by line (name_value_key rows name))
  where
    by : (r : Result (List Suffix) ConfFault) → OfValue AreFlatParts (and_then r (λ some. Ok (with_own a_suffix (name ∷ []) (with_suffixes some parts))))
    by (Ok some) = with_own_flat a_suffix (name ∷ []) (with_suffixes some parts) e (record { before = h.before; last = h.last; frontend = h.frontend })
    by (Err why) = tt
suffix_flat rows line (name ∷ other ∷ more) parts e h = tt

in_database_flat : (rows : List TypeRow) (line : ℕ) (keyword : List ℕ) (arguments : List (List ℕ)) (parts : Parts) → list_all (list_all is_no_feed) arguments ≡ true → AreFlatParts parts
    → OfValue AreFlatParts (in_database rows line keyword arguments parts)
in_database_flat rows line keyword arguments parts e h = by (is_word keyword (codes "suffix")) (is_word keyword (codes "rootdn")) (is_word keyword (codes "access"))
  where
    by : (t u v : Bool) → OfValue AreFlatParts (cond t (after_suffix rows line arguments parts) (cond u (Ok (with_own RootDn arguments parts)) (cond v (Ok (with_own Access arguments parts)) (Ok parts))))
    by true u v = suffix_flat rows line arguments parts e h
    by false true v = with_own_flat RootDn arguments parts e h
    by false false true = with_own_flat Access arguments parts e h
    by false false false = h

in_frontend_flat : (keyword : List ℕ) (arguments : List (List ℕ)) (parts : Parts) → list_all (list_all is_no_feed) arguments ≡ true → AreFlatParts parts → AreFlatParts (in_frontend keyword arguments parts)
in_frontend_flat keyword arguments parts e h = by (is_word keyword (codes "access"))
  where
    by : (t : Bool) → AreFlatParts (cond t (record parts { frontend = parts.frontend ++ record { directive = Access; arguments = arguments } ∷ [] }) parts)
    by true = record { before = h.before; last = h.last; frontend = one_more parts.frontend Access arguments h.frontend e }
    by false = h

in_part_flat : (rows : List TypeRow) (part : Part) (line : ℕ) (keyword : List ℕ) (arguments : List (List ℕ)) (parts : Parts) → list_all (list_all is_no_feed) arguments ≡ true → AreFlatParts parts
    → OfValue AreFlatParts (in_part rows part line keyword arguments parts)
in_part_flat rows Frontend line keyword arguments parts e h = in_frontend_flat keyword arguments parts e h
in_part_flat rows PassedOver line keyword arguments parts e h = h
in_part_flat rows OneDatabase line keyword arguments parts e h = in_database_flat rows line keyword arguments parts e h

database_flat : (line : ℕ) (arguments : List (List ℕ)) (parts : Parts) → AreFlatParts parts → OfValue AreFlatParts (after_database line arguments parts)
database_flat line [] parts h = tt
database_flat line (name ∷ more) parts h = opened_flat (part_named name) parts h

after_words_flat : (rows : List TypeRow) (line : ℕ) (words : List (List ℕ)) (parts : Parts) → list_all (list_all is_no_feed) words ≡ true → AreFlatParts parts → OfValue AreFlatParts (after_words rows line words parts)
after_words_flat rows line [] parts e h = h
after_words_flat rows line (keyword ∷ arguments) parts e h = by (is_word keyword (codes "database"))
  where
    by : (t : Bool) → OfValue AreFlatParts (cond t (after_database line arguments parts) (in_part rows parts.part line keyword arguments parts))
    by true = database_flat line arguments parts h
    by false = in_part_flat rows parts.part line keyword arguments parts (second_true (list_all is_no_feed keyword) _ e) h

after_statement_flat : (rows : List TypeRow) (statement : Statement) (parts : Parts) → is_flat statement ≡ true → AreFlatParts parts → OfValue AreFlatParts (after_statement rows statement parts)
unfolding is_flat
after_statement_flat rows (line, Defines text) parts e h = h
after_statement_flat rows (line, Words words) parts e h = after_words_flat rows line words parts e h

all_flat : (rows : List TypeRow) (statements : List Statement) (parts : Parts) → list_all is_flat statements ≡ true → AreFlatParts parts → OfValue AreFlatParts (after_each (after_statement rows) statements parts)
all_flat rows [] parts e h = h
all_flat rows (statement ∷ more) parts e h =
    by (λ now. all_flat rows more now (second_true (is_flat statement) _ e)) (after_statement rows statement parts) (after_statement_flat rows statement parts (first_true (is_flat statement) _ e) h)
  where
    by : ((now : Parts) → AreFlatParts now → OfValue AreFlatParts (after_each (after_statement rows) more now)) → (r : Result Parts ConfFault) → OfValue AreFlatParts r → OfValue AreFlatParts (and_then r (after_each (after_statement rows) more))
    by rest (Ok now) f = rest now f
    by rest (Err why) f = tt

-- ---- the database

abbrev IsFlatFound : Option Database → Type 0
IsFlatFound None = Unit {0}
IsFlatFound (Some database) = is_flat_database database ≡ true

one_flat : (wanted : DnKeys) (database : Database) (found : Option Database) → is_flat_database database ≡ true → IsFlatFound found → OfValue IsFlatFound (after_one wanted database found)
one_flat wanted database found e h = by (line_of_first (is_at wanted) database.suffixes) (line_of_first (is_within wanted) database.suffixes)
  where
    taken : (line : ℕ) (t : Bool) → OfValue IsFlatFound (cond {A = Result (Option Database) ConfFault} t (Err (SecondDatabase line)) (Ok (Some database)))
    taken line true = tt
    taken line false = e

    by : (own within : Option ℕ) → OfValue IsFlatFound (by_suffixes found database own within)
    by (Some line) within = taken line (is_some found)
    by None (Some line) = tt
    by None None = h

databases_flat : (wanted : DnKeys) (databases : List Database) (found : Option Database) → list_all is_flat_database databases ≡ true → IsFlatFound found → OfValue IsFlatFound (after_each (after_one wanted) databases found)
databases_flat wanted [] found e h = h
databases_flat wanted (database ∷ more) found e h =
    by (λ now. databases_flat wanted more now (second_true (is_flat_database database) _ e)) (after_one wanted database found) (one_flat wanted database found (first_true (is_flat_database database) _ e) h)
  where
    by : ((now : Option Database) → IsFlatFound now → OfValue IsFlatFound (after_each (after_one wanted) more now)) → (r : Result (Option Database) ConfFault) → OfValue IsFlatFound r → OfValue IsFlatFound (and_then r (after_each (after_one wanted) more))
    by rest (Ok now) f = rest now f
    by rest (Err why) f = tt

found_flat : (found : Option Database) → IsFlatFound found → OfValue (λ (database : Database). is_flat_database database ≡ true) (ok_or found NoDatabase)
found_flat None h = tt
found_flat (Some database) h = h

database_is_flat : (wanted : DnKeys) (parts : Parts) → AreFlatParts parts → OfValue (λ (database : Database). is_flat_database database ≡ true) (database_of wanted parts)
database_is_flat wanted parts h =
    by (after_each (after_one wanted) (parts.before ++ parts.last ∷ []) None)
    (databases_flat wanted (parts.before ++ parts.last ∷ []) None (joined_all is_flat_database parts.before (parts.last ∷ []) h.before (both (list_all has_one_line parts.last.lines) _ h.last refl)) tt)
  where
    by : (r : Result (Option Database) ConfFault) → OfValue IsFlatFound r → OfValue (λ (database : Database). is_flat_database database ≡ true) (and_then r (λ found. ok_or found NoDatabase))
    by (Ok found) f = found_flat found f
    by (Err why) f = tt

-- ---- the site

site_flat : (rows : List TypeRow) (wanted : DnKeys) (statements : List Statement) → list_all is_flat statements ≡ true → OfValue IsFlatSite (site_of rows wanted statements)
site_flat rows wanted statements e = by (types_of [] statements) (types_flat [] statements) (parts_of rows statements) (all_flat rows statements no_parts e (record { before = refl; last = refl; frontend = refl }))
  where
    with_database : (types : List (List ℕ)) → list_all (list_all is_no_end) types ≡ true → (parts : Parts) → AreFlatParts parts → (d : Result Database ConfFault) → OfValue (λ (database : Database). is_flat_database database ≡ true) d
        → OfValue IsFlatSite (and_then {A = List Line × List Line} (and_then d (λ database. Ok (database.lines, parts.frontend))) (λ lines. Ok (record { types = types; own = lines.0; frontend = lines.1 })))
    with_database types e parts h (Ok database) f = (e, f, h.frontend)
    with_database types e parts h (Err why) f = tt

    by : (r : Result (List (List ℕ)) ConfFault) → OfValue (λ types. list_all (list_all is_no_end) types ≡ true) r → (p : Result Parts ConfFault) → OfValue AreFlatParts p
        → OfValue IsFlatSite (and_then r (λ types. and_then p (λ parts. and_then (lines_of wanted parts) (λ lines. Ok (record { types = types; own = lines.0; frontend = lines.1 })))))
    by (Ok types) f (Ok parts) h = with_database types f parts h (database_of wanted parts) (database_is_flat wanted parts h)
    by (Ok types) f (Err why) h = tt
    by (Err why) f p h = tt

lines_site_flat : (rows : List TypeRow) (wanted : DnKeys) (lines : List Placed) → OfValue IsFlatSite (site_of_lines rows wanted lines)
lines_site_flat rows wanted lines = by (statements_from 1 lines) (statements_flat 1 lines)
  where
    by : (r : Result (List Statement) ConfFault) → OfValue (λ found. list_all is_flat found ≡ true) r → OfValue IsFlatSite (and_then r (site_of rows wanted))
    by (Ok statements) e = site_flat rows wanted statements e
    by (Err why) e = tt

-- ---- the law

pub files_read : FlatFilesAreRead
files_read rows wanted files flat tally = by (lines_of_files files) refl
  where
    with_site : (lines : List Placed) → lines_of_files files ≡ Ok lines → (r : Result Content ConfFault) → site_of_lines rows wanted lines ≡ r → OfValue IsFlatSite r → located_result files lines (and_then r flat_of_site) ≡ Ok (flat, tally)
        → (lines : List Placed) × (site : Content) × (lines_of_files files ≡ Ok lines) × (site_of_lines rows wanted lines ≡ Ok site) × ReadsSite site flat tally
    with_site lines found (Ok site) said h e = (lines, site, found, said, site_reads site flat tally h (unlocated (flat_of_site site) e))
      where
        unlocated : (r : Result (List ℕ × Tally) ConfFault) → located_result files lines r ≡ Ok (flat, tally) → r ≡ Ok (flat, tally)
        unlocated (Ok p) e = ap Ok (same_value p (flat, tally) e)
        unlocated (Err why) e = absurd (no_value (located files lines why) (flat, tally) e)
    with_site lines found (Err why) said h e = absurd (no_value (located files lines why) (flat, tally) e)

    by : (r : Result (List Placed) ConfFault) → lines_of_files files ≡ r → by_lines rows wanted files r ≡ Ok (flat, tally)
        → (lines : List Placed) × (site : Content) × (lines_of_files files ≡ Ok lines) × (site_of_lines rows wanted lines ≡ Ok site) × ReadsSite site flat tally
    by (Ok lines) found e = with_site lines found (site_of_lines rows wanted lines) refl (lines_site_flat rows wanted lines) e
    by (Err why) found e = absurd (no_value (record { file = None; fault = why }) (flat, tally) e)
