-- What the files of a slapd.conf say of one database (slapd.conf(5)). `flat_of_files`, at the end of this page, is the whole.
pub mod Files
pub mod Parts
pub mod Statements
use Rattle.std.specs.Prelude.{ℕ, ◌-◌, cond, List, [], ◌∷◌, ◌++◌, codes, Option, None, Some, option_map, Result, Ok, Err}
use Rattle.std.specs.List.{slice_get}
use Rattle.dir_names.specs.Keys.{DnKeys}
use Rattle.dir_names.specs.Results.{and_then}
use Rattle.dir_names.specs.declared.schema.TypeRow.{TypeRow}
use Rattle.dir_conf_text.specs.Keywords.{is_word}
use Rattle.dir_conf.specs.declared.cn_config.macros.Macro.{Macro}
use Rattle.dir_conf.specs.declared.fault.ConfFault.{ConfFault}
use Rattle.dir_conf.specs.declared.fault.ConfFault.TheVariants as fault
use Rattle.dir_conf.specs.declared.site.Tally.{Tally}
use Rattle.dir_conf.specs.declared.slapd_conf.FileFault.{FileFault}
use Rattle.dir_conf.specs.declared.slapd_conf.statements.Said.TheVariants.{Defines, Words}
use Rattle.dir_conf.specs.CnConfig.Macros.{definition, macro_by}
use Rattle.dir_conf.specs.FaultText.{line_of}
use Rattle.dir_conf.specs.Flat.{Content, flat_of_site}
use Rattle.dir_conf.specs.SlapdConf.Files.{File, Placed, lines_of_files}
use Rattle.dir_conf.specs.SlapdConf.Parts.{lines_of, parts_of}
use Rattle.dir_conf.specs.SlapdConf.Statements.{Statement, statements_from}

-- ---- attribute types

-- `objectidentifier NAME WORD`: one macro more
abbrev pub macros_by : List Macro → ℕ → List (List ℕ) → Result (List Macro) ConfFault
macros_by macros line [] = Ok macros
macros_by macros line (keyword ∷ arguments) = cond (is_word keyword (codes "objectidentifier")) (macro_by macros line (Some arguments)) (Ok macros)

-- the definitions in all lines, in their order, each under the macros before it
abbrev pub types_of : List Macro → List Statement → Result (List (List ℕ)) ConfFault
types_of macros [] = Ok []
types_of macros ((line, Defines text) ∷ more) = and_then (types_of macros more) (λ rest. Ok (definition macros text ∷ rest))
types_of macros ((line, Words words) ∷ more) = and_then (macros_by macros line words) (λ now. types_of now more)

-- ---- the site

-- the definitions, the lines of the database of a suffix, and the rules of the frontend
abbrev pub site_of : List TypeRow → DnKeys → List Statement → Result Content ConfFault
site_of rows wanted statements =
    and_then (types_of [] statements) (λ types.
    and_then (parts_of rows statements) (λ parts.
    and_then (lines_of wanted parts) (λ lines. Ok (record { types = types; own = lines.0; frontend = lines.1 }))))

-- what all lines say of the database of a suffix. A fault has the number of its line among all
abbrev pub site_of_lines : List TypeRow → DnKeys → List Placed → Result Content ConfFault
site_of_lines rows wanted lines = and_then (statements_from 1 lines) (site_of rows wanted)

abbrev pub flat_of_lines : List TypeRow → DnKeys → List Placed → Result (List ℕ × Tally) ConfFault
flat_of_lines rows wanted lines = and_then (site_of_lines rows wanted lines) flat_of_site

-- ---- where a fault is

abbrev pub at_line : ConfFault → ℕ → ConfFault
at_line (fault.BadLine line why) n = fault.BadLine n why
at_line (fault.BadInclude line) n = fault.BadInclude n
at_line (fault.BadOrder line) n = fault.BadOrder n
at_line (fault.BadArguments line) n = fault.BadArguments n
at_line (fault.BadName line) n = fault.BadName n
at_line (fault.SecondDatabase line) n = fault.SecondDatabase n
at_line (fault.Subordinate line) n = fault.Subordinate n
at_line (fault.Ended why) n = fault.Ended why
at_line fault.NoDatabase n = fault.NoDatabase
at_line fault.TooLong n = fault.TooLong
at_line fault.Memory n = fault.Memory

abbrev pub place_by : List Placed → Option ℕ → Option Placed
place_by lines None = None
place_by lines (Some number) = slice_get lines (number - 1)

-- the line that a fault is about
abbrev pub place_at : List Placed → ConfFault → Option Placed
place_at lines why = place_by lines (line_of why)

abbrev pub in_file : ConfFault → ℕ → Option File → FileFault
in_file why line None = record { file = None; fault = why }
in_file why line (Some file) = record { file = Some file.path; fault = at_line why line }

abbrev pub located_by : List File → ConfFault → Option Placed → FileFault
located_by files why None = record { file = None; fault = why }
located_by files why (Some place) = in_file why place.line (slice_get files place.file)

-- a fault with the file of its line, and the number that the line has there
abbrev pub located : List File → List Placed → ConfFault → FileFault
located files lines why = located_by files why (place_at lines why)

-- ---- the whole

abbrev pub located_result : List File → List Placed → Result (List ℕ × Tally) ConfFault → Result (List ℕ × Tally) FileFault
located_result files lines (Ok flat) = Ok flat
located_result files lines (Err why) = Err (located files lines why)

abbrev pub by_lines : List TypeRow → DnKeys → List File → Result (List Placed) ConfFault → Result (List ℕ × Tally) FileFault
by_lines rows wanted files (Ok lines) = located_result files lines (flat_of_lines rows wanted lines)
by_lines rows wanted files (Err why) = Err (record { file = None; fault = why })

-- the flat configuration of the database of a suffix, by the files of a slapd.conf, or its first fault with the file and the line
abbrev pub flat_of_files : List TypeRow → DnKeys → List File → Result (List ℕ × Tally) FileFault
flat_of_files rows wanted files = by_lines rows wanted files (lines_of_files files)
