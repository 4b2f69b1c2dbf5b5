-- The flat slapd.conf of a site (slapd.conf(5)).
use Rattle.std.specs.Prelude.{ℕ, Bool, true, false, cond, not, ◌==◌, nat_lt, List, [], ◌∷◌, ◌++◌, length, codes, Result, Ok, Err}
use Rattle.std.specs.List.{count_by, flat_map}
use Rattle.dir_names.specs.Ascii.{line_feed}
use Rattle.dir_conf_text.specs.Quoting.{preceded}
use Rattle.dir_conf.specs.declared.fault.ConfFault.{ConfFault}
use Rattle.dir_conf.specs.declared.fault.ConfFault.TheVariants.{TooLong}
use Rattle.dir_conf.specs.declared.flat.Flat.{Flat}
use Rattle.dir_conf.specs.declared.site.Directive.{Directive}
use Rattle.dir_conf.specs.declared.site.Directive.TheVariants.{Suffix, RootDn, Access}
use Rattle.dir_conf.specs.declared.site.Line.{Line}
use Rattle.dir_conf.specs.declared.site.Site.{Site}
use Rattle.dir_conf.specs.declared.site.Tally.{Tally}
use Rattle.dir_conf.specs.OwnTypes.{own_types}

abbrev pub is_no_feed : ℕ → Bool
is_no_feed b = not (b == line_feed)

abbrev pub name_of : Directive → List ℕ
name_of Suffix = codes "suffix"
name_of RootDn = codes "rootdn"
name_of Access = codes "access"

-- ---- lines

unfoldable pub type_text : List ℕ → List ℕ
type_text definition = codes "attributetype " ++ definition

abbrev pub type_line : List ℕ → List ℕ
type_line definition = type_text definition ++ line_feed ∷ []

abbrev pub directive_text : Line → List ℕ
directive_text line = name_of line.directive ++ flat_map preceded line.arguments

abbrev pub directive_line : Line → List ℕ
directive_line line = directive_text line ++ line_feed ∷ []

-- the text of definitions and directives
abbrev pub flat_text : List (List ℕ) → List Line → List ℕ
flat_text types lines = codes "# slapkit slapconf\n" ++ flat_map type_line types ++ codes "database mdb\n" ++ flat_map directive_line lines

-- ---- sites

-- the definitions of a site, the lines of its database, and the rules of the frontend
pub record Content : Type 0 where
  pub types : List (List ℕ)
  pub own : List Line
  pub frontend : List Line

abbrev pub content_of : Site → Content
content_of site = record { types = site.types; own = site.own.items; frontend = site.frontend.items }

-- the text of a site: slapd's own types come first, and the frontend's rules after the database's own
abbrev pub site_text : Content → List ℕ
site_text site = flat_text (own_types ++ site.types) (site.own ++ site.frontend)

abbrev pub is_rule_by : Directive → Bool
is_rule_by Suffix = false
is_rule_by RootDn = false
is_rule_by Access = true

abbrev pub is_rule : Line → Bool
is_rule line = is_rule_by line.directive

abbrev pub tally_of : Content → Tally
tally_of site = record { types = length site.types; rules = count_by is_rule site.own; frontend = length site.frontend }

abbrev pub flat_parts : Flat → List ℕ × Tally
flat_parts flat = (flat.text.items, flat.tally)

abbrev pub is_long : List ℕ → Bool
is_long text = nat_lt 16777216 (length text)

-- the flat configuration of a site, which has at most 16,777,216 bytes
abbrev pub flat_of_site : Content → Result (List ℕ × Tally) ConfFault
flat_of_site site = cond (is_long (site_text site)) (Err TooLong) (Ok (site_text site, tally_of site))
