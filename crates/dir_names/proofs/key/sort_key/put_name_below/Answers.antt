use Rattle.std.proofs.Common.{ap}
use Rattle.dir_names.specs.Outcome.{ok_or_bad_value}
use Rattle.dir_names.proofs.ScopedNames.{text_within}
use Rattle.dir_names.proofs.Scopes.{within_itself}
use Rattle.dir_names.proofs.key.sort_key.put_name_below.Goals as goal

pub returns-in-Ok-clause-text : goal.returns-in-Ok-clause-text
returns-in-Ok-clause-text c = ap ok_or_bad_value (c.in-Ok.ensures c.args.schema.now (within_itself c.args.schema.now c.keeps_builtin_types.ensures c.in-Ok.scope))

pub returns-in-Ok-clause-scope : goal.returns-in-Ok-clause-scope
returns-in-Ok-clause-scope c = text_within c.args.schema.now c.keeps_builtin_types.ensures c.in-Ok.scope c.args.value.now c.put_plain_name.new.out.items c.in-Ok.ensures
