use Rattle.std.proofs.Common.{◌≡◌, drop}
use Rattle.std.specs.Prelude.{◌||◌}
use Rattle.std.specs.List.{list_any}
use Rattle.dir_names.specs.Attr.{Attr}
use Rattle.dir_conf_text.specs.declared.text.ConfigLine.{ConfigLine}
use Rattle.dir_acl.specs.Inside.NotedTypes.{noted_by}
use Rattle.dir_acl.specs.Notes.Supertypes.{derives_from, noted_types}
use Rattle.dir_acl.proofs.note.types.RuleTypes.of_lines.Given as goal

-- the types found so far, and those of the lines to come, are those of all lines
abbrev pub invariant-loop-line : goal.invariant-loop-line
invariant-loop-line l =
    (l.types.schema.now ≡ l.schema)
    × ((attr : Attr) → ((noted_by l.types).has_subtypes attr || list_any (λ (line : ConfigLine). derives_from l.schema attr line.said) (drop l.line-index l.lines)) ≡ (noted_types l.schema l.lines).has_subtypes attr)
