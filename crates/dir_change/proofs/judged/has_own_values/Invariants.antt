use Rattle.std.proofs.Common.{◌≡◌, drop}
use Rattle.std.specs.List.{list_all}
use Rattle.dir_names.specs.declared.value.ValueKey.TheVariants.{Text}
use Rattle.dir_tree.specs.Content.{has_value}
use Rattle.dir_change.specs.Inside.Overlaid.{overlaid}
use Rattle.dir_change.proofs.judged.has_own_values.Given as goal

abbrev pub invariant-loop-pair : goal.invariant-loop-pair
invariant-loop-pair l =
    list_all (λ p. has_value (overlaid l.entry.attributes l.keys l.after) p.0 (Text p.1)) l.entry.key
    ≡ list_all (λ p. has_value (overlaid l.entry.attributes l.keys l.after) p.0 (Text p.1)) (drop l.pair-index l.pair-items)
