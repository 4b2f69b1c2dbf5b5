use Rattle.std.proofs.Common.{◌≡◌, take, true}
use Rattle.dir_names.specs.Inside.Scopes.{has_builtin_types}
use Rattle.dir_names.proofs.name.scope_of_rdns.Given as goal

abbrev pub invariant-loop-rdn : goal.invariant-loop-rdn
invariant-loop-rdn l = has_builtin_types (take l.rdn-index l.rdns) ≡ true
