use Rattle.std.proofs.Common.{◌≡◌, Some}
use Rattle.std.specs.FinMap as fin
use Rattle.dir_tree.specs.WellFormed.{Each}
use Rattle.dir_change.proofs.looked.other_value.Given as goal

abbrev pub invariant-loop-key : goal.invariant-loop-key
invariant-loop-key l = Each (λ e. fin.get l.attribute.stored.values e.0 ≡ Some e.1) l.key-iterator
