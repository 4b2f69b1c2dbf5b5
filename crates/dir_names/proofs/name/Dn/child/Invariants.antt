use Rattle.std.proofs.Common.{◌≡◌, ◌∷◌, take}
use Rattle.dir_names.proofs.name.Dn.child.Given as goal

abbrev pub invariant-loop-rdn : goal.invariant-loop-rdn
invariant-loop-rdn l = l.rdns.items ≡ l.fn.leaf ∷ take l.rdn-index l.rdn-items
