use Rattle.std.proofs.Common.{◌≡◌, drop}
use Rattle.dir_change.specs.Inside.ValuesInTurn.{are_there, without_each}
use Rattle.dir_change.proofs.modify.remove_all.Given as goal

abbrev pub invariant-loop-value : goal.invariant-loop-value
invariant-loop-value l =
    (l.attribute.key ≡ l.initial.attribute.key)
    × (l.attribute.stored.spelling ≡ l.initial.attribute.stored.spelling)
    × (without_each l.initial.attribute.stored.values l.given ≡ without_each l.attribute.stored.values (drop l.value-index l.given))
    × (are_there l.initial.attribute.stored.values l.given ≡ are_there l.attribute.stored.values (drop l.value-index l.given))
