use Rattle.std.proofs.Common.{◌≡◌, ◌++◌}
use Rattle.std.specs.List.{flat_map}
use Rattle.dir_tree.specs.WellFormed.{all_lines, attribute_lines}
use Rattle.dir_change.proofs.delete.all_lines.Given as goal

abbrev pub invariant-loop-attribute : goal.invariant-loop-attribute
invariant-loop-attribute l = l.lines.items ++ flat_map attribute_lines l.attribute-iterator ≡ all_lines l.entry.attributes
