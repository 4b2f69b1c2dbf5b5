use Rattle.std.proofs.Common.{◌≡◌, ◌++◌, take}
use Rattle.dir_change.proofs.add.joined_name.Given as goal

abbrev pub invariant-loop-rdn : goal.invariant-loop-rdn
invariant-loop-rdn l = l.rdns.items ≡ take l.rdn-index l.own

abbrev pub invariant-loop-rdn-2 : goal.invariant-loop-rdn-2
invariant-loop-rdn-2 l = l.rdns.items ++ l.rdn-iterator.rest.items ≡ l.own ++ l.fn.above
