use Rattle.std.proofs.Common.{◌≡◌}
use Rattle.dir_change.specs.Inside.ValuesInTurn.{are_new}
use Rattle.dir_change.specs.Modify.{values_with}
use Rattle.dir_change.proofs.modify.add_all.Given as goal

abbrev pub invariant-loop-key : goal.invariant-loop-key
invariant-loop-key l =
    (l.attribute.key ≡ l.initial.attribute.key)
    × (l.attribute.stored.spelling ≡ l.initial.attribute.stored.spelling)
    × (values_with l.initial.attribute.stored.values l.fn.given.items ≡ values_with l.attribute.stored.values l.key-iterator.rest.items)
    × (are_new l.initial.attribute.stored.values l.fn.given.items ≡ are_new l.attribute.stored.values l.key-iterator.rest.items)
