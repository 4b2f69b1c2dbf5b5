-- The lines that define no type don't matter to the types.
use Rattle.std.proofs.Common.{◌≡◌, ℕ, List, [], ◌∷◌, Option, Some, None, Result, Ok, Err, refl}
use Rattle.std.specs.Prelude.{option_map}
use Rattle.dir_names.specs.Results.{and_then}
use Rattle.dir_names.specs.declared.schema.TypeRow.{TypeRow}
use Rattle.dir_conf_text.specs.Arguments.{words_of}
use Rattle.dir_conf_text.specs.Definitions.{definition_in}
use Rattle.dir_conf_text.specs.declared.joining.Joining.TheVariants.{Plain}
use Rattle.dir_conf_text.specs.Lines.{logical_lines}
use Rattle.dir_conf_text.specs.Text.{config_lines, defined_or, definition_lines, lines_defined, lines_said, with_said}
use Rattle.dir_conf_text.specs.declared.text.Said.TheVariants.{Definition}
use Rattle.dir_acl.specs.declared.fault.ConfigFault.{ConfigFault}
use Rattle.dir_acl.specs.Config.{at_line, types_after, types_with}

lines_alike : (rows : List TypeRow) (lines : List (ℕ × List ℕ)) → types_after rows (lines_said lines) ≡ types_after rows (lines_defined lines)
lines_alike rows [] = refl
lines_alike rows (line ∷ lines) = by (λ rows. lines_alike rows lines) (definition_in line.1) (words_of line.1)
  where
    by : ((rows : List TypeRow) → types_after rows (lines_said lines) ≡ types_after rows (lines_defined lines)) → (found : Option (List ℕ)) (words : List (Option (List ℕ)))
        → types_after rows (with_said line.0 (defined_or words found) (lines_said lines)) ≡ types_after rows (with_said line.0 (option_map Definition found) (lines_defined lines))
    by rest (Some definition) words = after (at_line line.0 (types_with rows (Some definition)))
      where
        after : (r : Result (List TypeRow) ConfigFault) → and_then r (λ now. types_after now (lines_said lines)) ≡ and_then r (λ now. types_after now (lines_defined lines))
        after (Ok now) = rest now
        after (Err fault) = refl
    by rest None [] = rest rows
    by rest None (word ∷ words) = rest rows

pub types_defined : (rows : List TypeRow) (text : List ℕ) → types_after rows (config_lines text) ≡ types_after rows (definition_lines text)
types_defined rows text = lines_alike rows (logical_lines Plain text)
