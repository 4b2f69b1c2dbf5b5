use Rattle.std.proofs.Common.{◌-◌, ◌<◌, ◌≤◌, length}
use Rattle.dir_names.specs.Values.{value_key_cmp}
use Rattle.dir_tree.proofs.BelowAll.{key_of_value}
use Rattle.dir_tree.specs.Inside.Searches.{sought_key}
use Rattle.dir_tree.specs.Inside.Pieces.{EndsBelow, EndsNotBelow}
use Rattle.dir_tree.proofs.pieces.piece_for.Given as goal

abbrev pub invariant-loop-low : goal.invariant-loop-low
invariant-loop-low l = (l.low ≤ l.high) × (l.high ≤ length l.pieces) × (0 < l.low → EndsBelow value_key_cmp key_of_value l.pieces (l.low - 1) (sought_key l.sought)) × (l.high < length l.pieces → EndsNotBelow value_key_cmp key_of_value l.pieces l.high (sought_key l.sought))

abbrev pub decreases-loop-low : goal.decreases-loop-low
decreases-loop-low l = l.high - l.low
