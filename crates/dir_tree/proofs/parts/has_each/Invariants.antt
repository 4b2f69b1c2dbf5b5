use Rattle.std.proofs.Common.{◌≡◌, true, take}
use Rattle.std.specs.List.{list_all}
use Rattle.dir_names.specs.declared.value.ValueKey.TheVariants.{Text}
use Rattle.dir_tree.specs.Content.{has_value}
use Rattle.dir_tree.proofs.parts.has_each.Given as goal

abbrev pub invariant-loop-pair : goal.invariant-loop-pair
invariant-loop-pair l = list_all (λ pair. has_value l.attributes pair.0 (Text pair.1)) (take l.pair-index l.pairs) ≡ true
