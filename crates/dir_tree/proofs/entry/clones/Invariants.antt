use Rattle.std.proofs.Common.{◌≡◌, take}
use Rattle.dir_tree.proofs.entry.clones.Given as goal

abbrev pub invariant-loop-rdn : goal.invariant-loop-rdn
invariant-loop-rdn l = l.copy.items ≡ take l.rdn-index l.rdns
