use Rattle.std.proofs.Common.{◌≡◌, drop}
use Rattle.dir_names.specs.ValueKeys.Spaces.{without_leading_spaces}
use Rattle.dir_names.proofs.value.spaces.without_leading_spaces.Given as goal

abbrev pub invariant-loop-i : goal.invariant-loop-i
invariant-loop-i l = without_leading_spaces l.text ≡ without_leading_spaces (drop l.i l.text)
