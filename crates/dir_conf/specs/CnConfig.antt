-- What the LDIF of cn=config says of one database (slapd-config(5)), as `slapcat -n 0` writes it. `flat_of_config`, at the end of this page, is the whole.
pub mod Arguments
pub mod Databases
pub mod Macros
pub mod Records
pub mod Values
use Rattle.std.specs.Prelude.{ℕ, Bool, cond, ◌&&◌, List, [], ◌∷◌, ◌++◌, map, codes, Option, None, Some, Result, Ok, Err}
use Rattle.std.specs.List.{list_all, list_any}
use Rattle.dir_names.specs.Keys.{DnKeys}
use Rattle.dir_names.specs.Results.{and_then}
use Rattle.dir_names.specs.declared.schema.TypeRow.{TypeRow}
use Rattle.dir_ldif.specs.Blocks.{BlockResult, blocks_of}
use Rattle.dir_ldif.specs.LogicalLines.{Line}
use Rattle.dir_ldif.specs.RecordGrammar.{is_keyword}
use Rattle.dir_conf.specs.declared.cn_config.macros.Macro.{Macro}
use Rattle.dir_conf.specs.declared.cn_config.records.Attribute.{Attribute}
use Rattle.dir_conf.specs.declared.fault.ConfFault.{ConfFault}
use Rattle.dir_conf.specs.declared.fault.ConfFault.TheVariants.{BadArguments, Ended, TooLong}
use Rattle.dir_conf.specs.declared.site.Directive.{Directive}
use Rattle.dir_conf.specs.declared.site.Directive.TheVariants.{Suffix, RootDn, Access}
use Rattle.dir_conf.specs.declared.site.Line.{Line as SiteLine}
use Rattle.dir_conf.specs.declared.site.Tally.{Tally}
use Rattle.dir_conf.specs.CnConfig.Arguments.{arguments_of}
use Rattle.dir_conf.specs.CnConfig.Databases.{database_of, is_frontend}
use Rattle.dir_conf.specs.CnConfig.Macros.{definition, with_macros}
use Rattle.dir_conf.specs.CnConfig.Records.{gather, record_of, values_of}
use Rattle.dir_conf.specs.CnConfig.Values.{Numbered}
use Rattle.dir_conf.specs.Flat.{Content, flat_of_site, is_long, is_no_feed}

-- ---- attribute types

abbrev pub definitions : List Macro → List Numbered → List (List ℕ)
definitions macros values = map (λ (value : Numbered). definition macros value.1) values

-- the macros of a record, after those of the records before
abbrev pub macros_after : List Macro → List Attribute → Result (List Macro) ConfFault
macros_after macros entry = and_then (values_of (codes "olcObjectIdentifier") entry) (with_macros macros)

-- the record of slapd's own schema: slapd writes its own types there, and reads none from there
abbrev pub is_own_schema : List Attribute → Bool
is_own_schema entry = list_any (λ (attribute : Attribute). is_keyword attribute.name (codes "dn") && is_keyword attribute.value (codes "cn=schema,cn=config")) entry

-- the definitions of a record, under these macros
abbrev pub types_in : List Macro → List Attribute → Result (List (List ℕ)) ConfFault
types_in macros entry = cond (is_own_schema entry) (Ok []) (and_then (values_of (codes "olcAttributeTypes") entry) (λ values. Ok (definitions macros values)))

-- the definitions of all records, in their order
abbrev pub types_of : List Macro → List (List Attribute) → Result (List (List ℕ)) ConfFault
types_of macros [] = Ok []
types_of macros (entry ∷ more) =
    and_then (macros_after macros entry) (λ now. and_then (types_in now entry) (λ some. and_then (types_of now more) (λ rest. Ok (some ++ rest))))

-- ---- directives

-- a value that is the one argument of its directive
abbrev pub whole_line : Directive → Numbered → Result (List SiteLine) ConfFault
whole_line directive value =
    cond (list_all is_no_feed value.1) (Ok (record { directive = directive; arguments = value.1 ∷ [] } ∷ [])) (Err (BadArguments value.0))

abbrev pub whole_lines : Directive → List ℕ → List Attribute → Result (List SiteLine) ConfFault
whole_lines directive name entry = and_then (values_of name entry) (gather (whole_line directive))

abbrev pub rule_by : ℕ → Option (List (List ℕ)) → Result (List SiteLine) ConfFault
rule_by line None = Err (BadArguments line)
rule_by line (Some arguments) = Ok (record { directive = Access; arguments = arguments } ∷ [])

abbrev pub rule_line : Numbered → Result (List SiteLine) ConfFault
rule_line value = rule_by value.0 (arguments_of value.1)

-- the access rules of a record
abbrev pub rules_in : List Attribute → Result (List SiteLine) ConfFault
rules_in entry = and_then (values_of (codes "olcAccess") entry) (gather rule_line)

abbrev pub rules_if_frontend : List Attribute → Result (List SiteLine) ConfFault
rules_if_frontend entry = cond (is_frontend entry) (rules_in entry) (Ok [])

-- the lines of a database: its suffixes, its rootdn and its rules
abbrev pub lines_in : List Attribute → Result (List SiteLine) ConfFault
lines_in entry =
    and_then (whole_lines Suffix (codes "olcSuffix") entry) (λ suffixes.
    and_then (whole_lines RootDn (codes "olcRootDN") entry) (λ roots.
    and_then (rules_in entry) (λ rules. Ok (suffixes ++ roots ++ rules))))

-- ---- the whole

-- the definitions, and the lines of the database of a suffix with the rules of the frontend after its own
abbrev pub site_of : List TypeRow → DnKeys → List (List Attribute) → Result Content ConfFault
site_of rows wanted entries =
    and_then (types_of [] entries) (λ types.
    and_then (database_of rows wanted entries) (λ database.
    and_then (lines_in database) (λ own.
    and_then (gather rules_if_frontend entries) (λ more. Ok (record { types = types; own = own; frontend = more })))))

-- ---- the text

-- the blocks of a text that ends in no fault
abbrev pub whole_text : List BlockResult → Result (List (List Line)) ConfFault
whole_text [] = Ok []
whole_text (Err why ∷ blocks) = Err (Ended why)
whole_text (Ok lines ∷ blocks) = and_then (whole_text blocks) (λ rest. Ok (lines ∷ rest))

abbrev pub entry_of : List Line → Result (List (List Attribute)) ConfFault
entry_of lines = and_then (record_of lines) (λ entry. Ok (entry ∷ []))

abbrev pub entries_of : List ℕ → Result (List (List Attribute)) ConfFault
entries_of text = and_then (whole_text (blocks_of text)) (gather entry_of)

-- what the text of cn=config says of the database of a suffix, or its first fault
abbrev pub site_of_text : List TypeRow → DnKeys → List ℕ → Result Content ConfFault
site_of_text rows wanted text = and_then (entries_of text) (site_of rows wanted)

-- the flat configuration of a text of at most 16,777,216 bytes, which has no more itself
abbrev pub flat_of_config : List TypeRow → DnKeys → List ℕ → Result (List ℕ × Tally) ConfFault
flat_of_config rows wanted text = cond (is_long text) (Err TooLong) (and_then (site_of_text rows wanted text) flat_of_site)
