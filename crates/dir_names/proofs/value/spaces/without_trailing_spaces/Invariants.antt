use Rattle.std.proofs.Common.{◌≡◌, ◌≤◌, length, take}
use Rattle.dir_names.specs.ValueKeys.Spaces.{without_trailing_spaces}
use Rattle.dir_names.proofs.value.spaces.without_trailing_spaces.Given as goal

abbrev pub invariant-loop-end : goal.invariant-loop-end
invariant-loop-end l = (l.end ≤ length l.text) × (without_trailing_spaces l.text ≡ without_trailing_spaces (take l.end l.text))

abbrev pub decreases-loop-end : goal.decreases-loop-end
decreases-loop-end l = l.end
