use Rattle.std.proofs.Common.{◌≡◌, Some, subst, rules}
use Rattle.std.specs.FinMap as fin
use Rattle.dir_tree.specs.WellFormed.{Each}
use Rattle.dir_change.proofs.LookedParts.{values_there}
use Rattle.dir_change.proofs.looked.other_value.Goals as goal

pub loop-key-init : goal.loop-key-init
loop-key-init c =
    let values = c.args.attribute.now.stored.values in
    let all : fin.entries values ≡ c.into_iter-key-iterator.result = search rules in
    subst (Each (λ e. fin.get values e.0 ≡ Some e.1)) all (values_there values)
