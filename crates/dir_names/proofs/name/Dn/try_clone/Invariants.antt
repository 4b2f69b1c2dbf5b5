use Rattle.std.proofs.Common.{◌≡◌, take}
use Rattle.dir_names.proofs.name.Dn.try_clone.Given as goal

abbrev pub invariant-loop-rdn : goal.invariant-loop-rdn
invariant-loop-rdn l = l.rdns.items ≡ take l.rdn-index l.rdn-items
