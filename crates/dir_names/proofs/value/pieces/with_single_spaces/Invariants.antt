use Rattle.std.proofs.Common.{◌≡◌, ◌++◌, false, drop}
use Rattle.dir_names.proofs.SingleSpaces.{single}
use Rattle.dir_names.proofs.value.pieces.with_single_spaces.Given as goal

abbrev pub invariant-loop-b : goal.invariant-loop-b
invariant-loop-b l = single false l.text ≡ l.out.items ++ single l.after_space (drop l.b-index l.text)
