use Rattle.std.proofs.Common.{◌≡◌, Some, subst, sym, rules}
use Rattle.std.specs.Option.{option_map}
use Rattle.dir_names.specs.declared.schema.scope.Scope.{Scope}
use Rattle.dir_names.specs.Inside.Scopes.{HoldsWithin, both}
use Rattle.dir_names.specs.Inside.SortTexts.{name_sort}
use Rattle.dir_names.specs.NameKeys.{name_value_key}
use Rattle.dir_names.proofs.ScopedNames.{leaf_within_both}
use Rattle.dir_names.proofs.key.plain_parents.PlainParents.put_plain_name.Goals as goal

pub returns-in-Ok-put_plain_rdn : goal.returns-in-Ok-put_plain_rdn
returns-in-Ok-put_plain_rdn c =
    let asked = c.args.schema.now in
    let value = c.args.value.now in
    let new = c.put_plain_rdn.new.out.items in
    let scope : c.and.result ≡ both c.in-Ok.scope c.in-Ok-put_plain_rdn.of_leaf = search rules in
    subst (λ (s : Scope). HoldsWithin s asked (λ rows. option_map name_sort (name_value_key rows value) ≡ Some new)) (sym scope)
    (leaf_within_both asked c.keeps_builtin_types.ensures c.in-Ok.scope c.in-Ok-put_plain_rdn.of_leaf value c.in-Ok.leaf.now c.put_plain_parent.new.out.items c.in-Ok.above.now new c.in-Ok.ensures.0 c.in-Ok.ensures.1 c.in-Ok-put_plain_rdn.ensures)
