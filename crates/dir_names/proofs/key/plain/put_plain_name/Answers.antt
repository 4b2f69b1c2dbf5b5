use Rattle.dir_names.specs.declared.schema.scope.Scope.{Scope}
use Rattle.dir_names.specs.Inside.Scopes.{IsWithin}
use Rattle.dir_names.proofs.PlainParents.{leaf_read}
use Rattle.dir_names.proofs.Scopes.{within_itself}
use Rattle.dir_names.proofs.key.plain.put_plain_name.Goals as goal

pub returns-in-Ok-put_plain_rdn : goal.returns-in-Ok-put_plain_rdn
returns-in-Ok-put_plain_rdn c =
    let rows = c.args.schema.now in
    let itself : (scope : Scope) → IsWithin scope rows rows = within_itself rows c.keeps_builtin_types.ensures in
    leaf_read rows c.args.value.now c.in-Ok.leaf.now c.put_plain_parent.new.out.items c.in-Ok._above.now c.put_plain_rdn.new.out.items
    c.in-Ok.ensures.0 (c.in-Ok.ensures.1 rows (itself c.in-Ok._scope)) (c.in-Ok-put_plain_rdn.ensures rows (itself c.in-Ok-put_plain_rdn._of_leaf))
