use Rattle.std.proofs.Common.{◌≢◌, ℕ, ◌<◌, get_or}
use Rattle.dir_tree.specs.declared.packed.PackedAttribute.{PackedAttribute}
use Rattle.dir_tree.specs.Inside.Packed.{IsApart}
use Rattle.dir_tree.proofs.packed.PackedAttribute.is_alone.Given as goal

abbrev pub invariant-loop-number : goal.invariant-loop-number
invariant-loop-number l = (i : ℕ) (d : PackedAttribute) → i < l.number → i ≢ l.at → IsApart l.self (get_or l.attributes i d)
