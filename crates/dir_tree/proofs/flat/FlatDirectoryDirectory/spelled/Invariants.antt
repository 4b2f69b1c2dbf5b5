use Rattle.std.proofs.Common.{◌≡◌, ◌++◌}
use Rattle.dir_tree.specs.SpelledNames.{spelled_name}
use Rattle.dir_tree.proofs.Climb.{left_above, IsOnPath, steps_left}
use Rattle.dir_tree.proofs.flat.FlatDirectoryDirectory.spelled.Given as goal

abbrev pub invariant-loop-above : goal.invariant-loop-above
invariant-loop-above l = record { so_far : l.rdns.items ++ left_above l.self l.above ≡ spelled_name l.self l.fn.key; on_path : IsOnPath l.self l.above }

abbrev pub decreases-loop-above : goal.decreases-loop-above
decreases-loop-above l = steps_left l.above
