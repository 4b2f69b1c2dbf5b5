-- What a flat configuration says: it is read as what its site has, and as nothing else.
use Rattle.std.specs.Prelude.{◌≡◌, ℕ, ◌+◌, ◌≤◌, Bool, true, not, ◌&&◌, ◌==◌, List, [], ◌∷◌, ◌++◌, length, map, Some, Result, Ok}
use Rattle.std.specs.List.{list_all}
use Rattle.dir_names.specs.Ascii.{space, carriage_return}
use Rattle.dir_names.specs.Keys.{DnKeys}
use Rattle.dir_names.specs.Results.{and_then}
use Rattle.dir_names.specs.declared.schema.TypeRow.{TypeRow}
use Rattle.dir_acl.specs.declared.fault.ConfigFault.{ConfigFault}
use Rattle.dir_acl.specs.Config.{Settings, at_line, config_of, config_types, directive, no_settings, of_suffix, types_with}
use Rattle.dir_conf.specs.declared.site.Line.{Line}
use Rattle.dir_conf.specs.declared.site.Tally.{Tally}
use Rattle.dir_conf.specs.CnConfig.{flat_of_config, site_of_text}
use Rattle.dir_conf.specs.Flat.{Content, flat_text, is_no_feed, name_of, tally_of}
use Rattle.dir_conf.specs.OwnTypes.{own_types}
use Rattle.dir_conf.specs.SlapdConf.{flat_of_files, site_of_lines}
use Rattle.dir_conf.specs.SlapdConf.Files.{File, Placed, lines_of_files}

-- ---- a site whose lines are lines

abbrev pub is_no_end : ℕ → Bool
is_no_end b = is_no_feed b && not (b == carriage_return)

abbrev pub has_one_line : Line → Bool
has_one_line line = list_all (list_all is_no_feed) line.arguments

-- no definition has the end of a line, and no argument a line feed; the text is one that a configuration may have
pub record IsFlat (types : List (List ℕ)) (lines : List Line) : Type 0 where
  pub defined : list_all (list_all is_no_end) types ≡ true
  pub directed : list_all has_one_line lines ≡ true
  pub bound : length (flat_text types lines) ≤ 16777216

-- ---- what it says

-- the table with all of these definitions, the first one at line n; or the first that adds nothing to it
abbrev pub types_at : List TypeRow → ℕ → List (List ℕ) → Result (List TypeRow) ConfigFault
types_at rows n [] = Ok rows
types_at rows n (definition ∷ more) = and_then (at_line n (types_with rows (Some (space ∷ definition)))) (λ now. types_at now (n + 1) more)

abbrev pub in_database : Settings
in_database = record no_settings { has_database = true }

-- the settings after these directives, the first one at line n; or the first fault
abbrev pub directives_at : List TypeRow → Settings → ℕ → List Line → Result Settings ConfigFault
directives_at rows settings n [] = Ok settings
directives_at rows settings n (line ∷ more) =
    and_then (at_line n (directive rows settings (name_of line.directive) (map Some line.arguments))) (λ now. directives_at rows now (n + 1) more)

-- the line of the first directive: before it are a comment, the definitions and `database`
abbrev pub first_directive : List (List ℕ) → ℕ
first_directive types = length types + 3

-- a flat configuration defines exactly these types, and has exactly these directives with these arguments
pub record IsReadAs (types : List (List ℕ)) (lines : List Line) (text : List ℕ) : Type 0 where
  pub defined : (rows : List TypeRow) → config_types rows text ≡ types_at rows 2 types
  pub directed : (rows : List TypeRow) → config_of rows text ≡ and_then (directives_at rows in_database (first_directive types) lines) (λ settings. of_suffix settings settings.suffix)

-- a law
abbrev pub FlatReads : Type 0
FlatReads = (types : List (List ℕ)) (lines : List Line) → IsFlat types lines → IsReadAs types lines (flat_text types lines)

-- ---- what is read of a site

-- a flat text is read as a site with slapd's own types before its own, and the rules of the frontend after those of the database; and it is counted as that
pub record ReadsSite (site : Content) (flat : List ℕ) (tally : Tally) : Type 0 where
  pub reads : IsReadAs (own_types ++ site.types) (site.own ++ site.frontend) flat
  pub counted : tally ≡ tally_of site

-- a law: the flat configuration that the text of cn=config comes to is read as the site that this text says
abbrev pub FlatConfigsAreRead : Type 0
FlatConfigsAreRead = (rows : List TypeRow) (wanted : DnKeys) (text flat : List ℕ) (tally : Tally) → flat_of_config rows wanted text ≡ Ok (flat, tally)
    → (site : Content) × (site_of_text rows wanted text ≡ Ok site) × ReadsSite site flat tally

-- a law: the flat configuration that files of a slapd.conf come to is read as the site that their lines say
abbrev pub FlatFilesAreRead : Type 0
FlatFilesAreRead = (rows : List TypeRow) (wanted : DnKeys) (files : List File) (flat : List ℕ) (tally : Tally) → flat_of_files rows wanted files ≡ Ok (flat, tally)
    → (lines : List Placed) × (site : Content) × (lines_of_files files ≡ Ok lines) × (site_of_lines rows wanted lines ≡ Ok site) × ReadsSite site flat tally
