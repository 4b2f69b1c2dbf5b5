use Rattle.std.proofs.Common.{◌≡◌, ◌++◌}
use Rattle.std.specs.List.{flat_map}
use Rattle.dir_ldif.specs.RecordText.{value_text}
use Rattle.dir_tree.specs.WellFormed.{all_lines, attribute_lines}
use Rattle.dir_tools.proofs.canonical.push_entry.Given as goal

abbrev pub invariant-loop-attribute : goal.invariant-loop-attribute
invariant-loop-attribute l =
    l.text.items ++ flat_map value_text (flat_map attribute_lines l.attribute-iterator)
    ≡ l.initial.text.items ++ flat_map value_text (all_lines l.entry.attributes)
