use Rattle.std.proofs.Common.{◌-◌, ◌<◌, ◌≤◌, length}
use Rattle.dir_names.specs.Orders.{attr_cmp}
use Rattle.dir_tree.specs.Inside.Stored.{attribute_pair}
use Rattle.dir_tree.specs.Inside.Pieces.{EndsBelow, EndsNotBelow}
use Rattle.dir_tree.proofs.attributes.list.piece_for.Given as goal

abbrev pub invariant-loop-low : goal.invariant-loop-low
invariant-loop-low l = (l.low ≤ l.high) × (l.high ≤ length l.pieces) × (0 < l.low → EndsBelow attr_cmp (λ attribute. (attribute_pair attribute).0) l.pieces (l.low - 1) l.key) × (l.high < length l.pieces → EndsNotBelow attr_cmp (λ attribute. (attribute_pair attribute).0) l.pieces l.high l.key)

abbrev pub decreases-loop-low : goal.decreases-loop-low
decreases-loop-low l = l.high - l.low
