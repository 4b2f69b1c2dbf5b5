use Rattle.std.proofs.Common.{◌≡◌, drop}
use Rattle.dir_tree.specs.Slots.{with_slots}
use Rattle.dir_tree.proofs.lent.LentAttributes.set_all.Given as goal

abbrev pub invariant-loop-key : goal.invariant-loop-key
invariant-loop-key l = with_slots l.self (drop l.key-index l.keys) l.part ≡ with_slots l.fn.self l.keys l.part
