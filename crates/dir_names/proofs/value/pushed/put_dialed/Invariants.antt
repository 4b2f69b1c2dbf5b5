use Rattle.std.proofs.Common.{◌≡◌, ◌++◌, drop}
use Rattle.dir_names.proofs.ShortKeys.{dialed}
use Rattle.dir_names.proofs.value.pushed.put_dialed.Given as goal

abbrev pub invariant-loop-b : goal.invariant-loop-b
invariant-loop-b l = l.initial.text.items ++ dialed l.value ≡ l.text.items ++ dialed (drop l.b-index l.value)
