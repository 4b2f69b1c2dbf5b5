use Rattle.std.proofs.Common.{◌≡◌, ◌+◌, drop}
use Rattle.dir_names.specs.Inside.TidyRuns.{tidy_len}
use Rattle.dir_names.proofs.value.spaces.tidy_len.Given as goal

abbrev pub invariant-loop-i : goal.invariant-loop-i
invariant-loop-i l = l.i + tidy_len (drop l.i l.text) ≡ tidy_len l.text
