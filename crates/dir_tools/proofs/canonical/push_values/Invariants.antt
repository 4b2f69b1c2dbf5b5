use Rattle.std.proofs.Common.{◌≡◌, ◌++◌, map}
use Rattle.std.specs.List.{flat_map}
use Rattle.dir_ldif.specs.RecordText.{value_text}
use Rattle.dir_tree.specs.WellFormed.{attribute_lines}
use Rattle.dir_tools.proofs.canonical.push_values.Given as goal

abbrev pub invariant-loop-bytes : goal.invariant-loop-bytes
invariant-loop-bytes l =
    (l.spelling ≡ l.attribute.stored.spelling)
    × (l.text.items ++ flat_map value_text (map (λ v. (record { spelling = l.attribute.stored.spelling; key = l.attribute.key }, v.1)) l.bytes-iterator)
    ≡ l.initial.text.items ++ flat_map value_text (attribute_lines (l.attribute.key, l.attribute.stored)))
