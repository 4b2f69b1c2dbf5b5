use Rattle.std.proofs.Common.{◌≡◌, true, drop}
use Rattle.dir_names.proofs.Tidy.{stays}
use Rattle.dir_names.proofs.value.spaces.are_spaces_apart.Given as goal

abbrev pub invariant-loop-b : goal.invariant-loop-b
invariant-loop-b l = stays true l.text ≡ stays l.after_space (drop l.b-index l.text)
