use Rattle.std.proofs.Common.{◌≡◌, ◌++◌, List, Some, IfOk, refl, subst, rules}
use Rattle.std.specs.Option.{option_map}
use Rattle.std.proofs.Math.Logic.{∥∥₁_elim}
use Rattle.std.proofs.Props.{props}
use Rattle.std.proofs.lemmas.Result.{IfOk-weaker}
use Rattle.dir_names.specs.declared.schema.scope.Scope.{Scope}
use Rattle.dir_names.specs.declared.schema.TypeRow.{TypeRow}
use Rattle.dir_names.specs.Inside.PlainParents.{IsPlainParentEverywhere}
use Rattle.dir_names.specs.Inside.Scopes.{HoldsWithin, IsWithin}
use Rattle.dir_names.specs.Inside.SortKeys.{IsPlainRdn}
use Rattle.dir_names.specs.Inside.SortTexts.{name_sort}
use Rattle.dir_names.specs.NameKeys.{name_value_key}
use Rattle.dir_names.proofs.PlainParents.{leaf_read}
use Rattle.dir_names.proofs.Scopes.{keeps_within}
use Rattle.dir_names.proofs.key.plain_parents.PlainParent.put_child.Goals as goal

pub returns-in-Ok : goal.returns-in-Ok
returns-in-Ok c =
    let asked = c.args.schema.now in
    let leaf = c.args.leaf.now in
    let text = c.args.self.now.text.items in
    let sort = c.args.self.now.sort_text.items in
    let new = c.put_plain_rdn.new.out.items in
    let start : c.extend_from_slice.new.self.items ≡ sort = search rules in
    let put = subst (λ old. IfOk c.put_plain_rdn.result (λ scope. HoldsWithin scope asked (λ rows. IsPlainRdn rows leaf old new))) start c.put_plain_rdn.ensures in
    IfOk-weaker c.put_plain_rdn.result (λ scope. HoldsWithin scope asked (λ rows. IsPlainRdn rows leaf sort new)) (λ scope. HoldsWithin scope asked (λ rows. option_map name_sort (name_value_key rows (leaf ++ text)) ≡ Some new))
    (λ (scope : Scope) (plain : HoldsWithin scope asked (λ rows. IsPlainRdn rows leaf sort new)) (rows : List TypeRow) (e : IsWithin scope asked rows).
    ∥∥₁_elim c.args.self.now.is_parent (search props)
    (λ (p : IsPlainParentEverywhere text sort). leaf_read rows (leaf ++ text) leaf sort text new refl (p rows (keeps_within asked c.keeps_builtin_types.ensures scope rows e)) (plain rows e)))
    put
