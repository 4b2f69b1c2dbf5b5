use Rattle.std.proofs.Common.{◌≡◌, ◌++◌, take}
use Rattle.dir_tree.proofs.flat.push_clones.Given as goal

abbrev pub invariant-loop-rdn : goal.invariant-loop-rdn
invariant-loop-rdn l = l.rdns.items ≡ l.fn.rdns.items ++ take l.rdn-index l.more
