use Rattle.std.proofs.Common.{◌≡◌, ◌++◌, drop}
use Rattle.std.specs.List.{flat_map}
use Rattle.dir_conf.specs.Flat.{type_line}
use Rattle.dir_conf.proofs.flat.push_types.Given as goal

abbrev pub invariant-loop-definition : goal.invariant-loop-definition
invariant-loop-definition l = l.text.items ++ flat_map type_line (drop l.definition-index l.types) ≡ l.initial.text.items ++ flat_map type_line l.types
