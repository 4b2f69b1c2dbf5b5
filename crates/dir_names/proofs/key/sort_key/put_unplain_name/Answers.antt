use Rattle.std.proofs.Common.{◌≡◌, subst, rules}
use Rattle.dir_names.specs.Inside.Scopes.{IsScopeOfName}
use Rattle.dir_names.proofs.Scopes.{value_within}
use Rattle.dir_names.proofs.key.sort_key.put_unplain_name.Goals as goal

pub returns-in-Ok-clause-scope : goal.returns-in-Ok-clause-scope
returns-in-Ok-clause-scope c =
    let rdns : c.rdns.result.now ≡ c.in-Ok.name = search rules in
    value_within c.args.schema.now c.keeps_builtin_types.ensures c.scope_of_rdns.result c.args.value.now c.in-Ok.name c.in-Ok.ensures.name (subst (IsScopeOfName c.scope_of_rdns.result) rdns c.scope_of_rdns.ensures)
