use Rattle.std.proofs.Common.{◌≡◌, take, true}
use Rattle.std.specs.List.{list_all}
use Rattle.dir_names.specs.Inside.Scopes.{names_builtin}
use Rattle.dir_names.proofs.name.has_builtin_types.Given as goal

abbrev pub invariant-loop-pair : goal.invariant-loop-pair
invariant-loop-pair l = list_all (λ p. names_builtin p.0) (take l.pair-index l.pairs) ≡ true
