use Rattle.std.proofs.Common.{◌≡◌, Some}
use Rattle.std.specs.FinMap as fin
use Rattle.dir_tree.specs.WellFormed.{Each}
use Rattle.dir_change.specs.Inside.Exchanged.{AreGrowingAttributes, all_grown}
use Rattle.dir_change.proofs.exchange.grow.Given as goal

abbrev pub invariant-loop-attribute : goal.invariant-loop-attribute
invariant-loop-attribute l =
    (all_grown l.initial.attributes (fin.entries l.after) ≡ all_grown l.attributes l.attribute-iterator)
    × AreGrowingAttributes l.initial.attributes l.after l.attributes
    × Each (λ e. fin.get l.after e.0 ≡ Some e.1) l.attribute-iterator
