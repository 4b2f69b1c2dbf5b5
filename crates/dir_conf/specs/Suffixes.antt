-- The suffixes of all databases of a configuration, as it has them.
use Rattle.std.specs.Prelude.{ℕ, cond, List, [], ◌∷◌, map, codes, Result, Ok, Err}
use Rattle.std.specs.List.{flat_map}
use Rattle.dir_names.specs.Results.{and_then}
use Rattle.dir_conf_text.specs.Keywords.{is_word}
use Rattle.dir_conf.specs.declared.cn_config.records.Attribute.{Attribute}
use Rattle.dir_conf.specs.declared.fault.ConfFault.{ConfFault}
use Rattle.dir_conf.specs.declared.fault.ConfFault.TheVariants.{TooLong}
use Rattle.dir_conf.specs.declared.slapd_conf.statements.Said.{Said}
use Rattle.dir_conf.specs.declared.slapd_conf.statements.Said.TheVariants.{Defines, Words}
use Rattle.dir_conf.specs.CnConfig.{entries_of}
use Rattle.dir_conf.specs.CnConfig.Records.{gather, values_of}
use Rattle.dir_conf.specs.CnConfig.Values.{Numbered}
use Rattle.dir_conf.specs.Flat.{is_long}
use Rattle.dir_conf.specs.SlapdConf.Files.{File, lines_of_files}
use Rattle.dir_conf.specs.SlapdConf.Statements.{Statement, statements_from}

-- ---- cn=config (slapd-config(5), olcSuffix)

abbrev pub texts_of : List Numbered → List (List ℕ)
texts_of values = map (λ (value : Numbered). value.1) values

abbrev pub suffixes_in_entry : List Attribute → Result (List (List ℕ)) ConfFault
suffixes_in_entry entry = and_then (values_of (codes "olcSuffix") entry) (λ values. Ok (texts_of values))

abbrev pub suffixes_of_config : List ℕ → Result (List (List ℕ)) ConfFault
suffixes_of_config text = cond (is_long text) (Err TooLong) (and_then (entries_of text) (gather suffixes_in_entry))

-- ---- slapd.conf (slapd.conf(5), suffix)

abbrev pub suffix_said : Said → List (List ℕ)
suffix_said (Words (keyword ∷ suffix ∷ more)) = cond (is_word keyword (codes "suffix")) (suffix ∷ []) []
suffix_said other = []

abbrev pub suffixes_said : List Statement → List (List ℕ)
suffixes_said statements = flat_map (λ (statement : Statement). suffix_said statement.1) statements

abbrev pub suffixes_of_files : List File → Result (List (List ℕ)) ConfFault
suffixes_of_files files = and_then (lines_of_files files) (λ lines. and_then (statements_from 1 lines) (λ statements. Ok (suffixes_said statements)))
