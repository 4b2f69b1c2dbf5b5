use Rattle.std.proofs.Common.{◌≡◌, ◌++◌, ℕ, List, drop, take}
use Rattle.dir_conf_text.specs.Arguments.{arguments_from}
use Rattle.dir_conf_text.proofs.arguments.taken_at.Given as goal

abbrev pub invariant-loop-at : goal.invariant-loop-at
invariant-loop-at l = (item : List ℕ) → arguments_from l.spot item l.text ≡ arguments_from l.spot (item ++ take l.at l.text) (drop l.at l.text)
