use Rattle.std.proofs.Common.{◌≡◌, Some, sym, ap, ◌∙◌, subst, rules}
use Rattle.std.specs.Prelude.{Result, slice_get}
use Rattle.std.proofs.lemmas.Result.{err_from_is_err_and}
use Rattle.dir_names.specs.declared.fault.NameFault.{NameFault}
use Rattle.dir_names.specs.Keys.{DnKeys}
use Rattle.dir_names.specs.NameKeys.{name_key, rdn_key}
use Rattle.dir_names.specs.Names.Limits.{is_within_limits}
use Rattle.dir_names.specs.Outcome.{Gives}
use Rattle.dir_names.proofs.AllLemmas.{fails_through, ok_some}
use Rattle.dir_names.proofs.KnownParents.{key_by_leaf, keyless_by_leaf}
use Rattle.dir_names.proofs.name.Dn.key.Goals as goal

pub returns-in_err-key-in-Some-Some : goal.returns-in_err-key-in-Some-Some
returns-in_err-key-in-Some-Some c =
    let rows = c.args.schema.now in
    let name = c.args.self.now in
    let leaf = c.in-Some-Some.leaf.now in
    let above = c.in-Some-Some.above.now in
    let first : slice_get name 0 ≡ Some leaf = search rules in
    let through = fails_through c.in_err-key-in-Some-Some.field-0.0 (rdn_key rows leaf) (name_key rows name) (keyless_by_leaf rows name leaf above c.keeps_builtin_types.ensures first c.in-Some-Some.ensures') c.in_err-key-in-Some-Some.ensures in
    let e = err_from_is_err_and c.from_residual.result c.from_residual.ensures.1 in
    rw (e.1, e.2) through

pub returns-in_ok-key-in-Some-Some : goal.returns-in_ok-key-in-Some-Some
returns-in_ok-key-in-Some-Some c =
    let rows = c.args.schema.now in
    let name = c.args.self.now in
    let leaf = c.in-Some-Some.leaf.now in
    let above = c.in-Some-Some.above.now in
    let first : slice_get name 0 ≡ Some leaf = search rules in
    let part = c.in_ok-key-in-Some-Some.field-0 in
    let wanted = key_by_leaf rows name leaf above part c.keeps_builtin_types.ensures first c.in-Some-Some.ensures' (ok_some (rdn_key rows leaf) part c.in_ok-key-in-Some-Some.ensures) (ap is_within_limits (sym c.self.view_is) ∙ c.self.invariant.1) in
    subst (λ (w : Result DnKeys NameFault). Gives (λ key. key) c.child-in-Some-Some.result w) wanted c.child-in-Some-Some.ensures
