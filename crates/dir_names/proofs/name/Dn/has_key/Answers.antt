use Rattle.std.proofs.Common.{◌≡◌, Some, Ok, sym, subst, rules}
use Rattle.std.specs.Prelude.{Bool, slice_get}
use Rattle.dir_names.specs.Outcome.{Gives}
use Rattle.dir_names.proofs.KnownParents.{has_key_by_leaf}
use Rattle.dir_names.proofs.name.Dn.has_key.Goals as goal

pub returns-in-Some-Some : goal.returns-in-Some-Some
returns-in-Some-Some c =
    let rows = c.args.schema.now in
    let leaf = c.in-Some-Some.leaf.now in
    let first : slice_get c.args.self.now 0 ≡ Some leaf = search rules in
    let same = has_key_by_leaf rows c.args.self.now leaf c.in-Some-Some.field-0-1.now c.keeps_builtin_types.ensures first c.in-Some-Some.ensures' in
    subst (λ (b : Bool). Gives (λ has. has) c.has_key.result (Ok b)) (sym same) c.has_key.ensures
