use Rattle.std.proofs.Common.{Some, ap, subst, sym, ◌≡◌}
use Rattle.std.specs.Option.{option_map}
use Rattle.dir_names.specs.Inside.Scopes.{HoldsWithin}
use Rattle.dir_names.specs.Inside.SortTexts.{name_sort}
use Rattle.dir_names.specs.NameKeys.{name_value_key}
use Rattle.dir_names.specs.Outcome.{ok_or_bad_value}
use Rattle.dir_names.proofs.ScopedNames.{text_within}
use Rattle.dir_names.proofs.Scopes.{within_itself}
use Rattle.dir_names.proofs.key.sort_key.put_child_name.Goals as goal

pub returns-in-Ok-clause-text : goal.returns-in-Ok-clause-text
returns-in-Ok-clause-text c =
    let rows = c.args.schema.now in
    let put = subst (λ v. HoldsWithin c.in-Ok.scope rows (λ r. option_map name_sort (name_value_key r v) ≡ Some c.put_child.new.out.items)) (sym c.requires) c.in-Ok.ensures in
    ap ok_or_bad_value (put rows (within_itself rows c.keeps_builtin_types.ensures c.in-Ok.scope))

pub returns-in-Ok-clause-scope : goal.returns-in-Ok-clause-scope
returns-in-Ok-clause-scope c =
    let rows = c.args.schema.now in
    let put = subst (λ v. HoldsWithin c.in-Ok.scope rows (λ r. option_map name_sort (name_value_key r v) ≡ Some c.put_child.new.out.items)) (sym c.requires) c.in-Ok.ensures in
    text_within rows c.keeps_builtin_types.ensures c.in-Ok.scope c.args.value.now c.put_child.new.out.items put
