use Rattle.std.proofs.Common.{◌≡◌, drop}
use Rattle.dir_change.specs.Rename.{pairs_missing_in, without_pairs}
use Rattle.dir_change.proofs.rename.remove_missing.Given as goal

abbrev pub invariant-loop-pair : goal.invariant-loop-pair
invariant-loop-pair l = without_pairs l.attributes (pairs_missing_in (drop l.pair-index l.pairs) l.others) ≡ without_pairs l.fn.attributes (pairs_missing_in l.pairs l.others)
