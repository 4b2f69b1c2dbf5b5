use Rattle.std.proofs.Common.{◌≡◌, drop, map}
use Rattle.std.specs.FinMap as fin
use Rattle.dir_change.specs.Increment.{keyed_integer}
use Rattle.dir_change.specs.Modify.{values_with}
use Rattle.dir_change.proofs.IncrementedValues.{AreOwnKeys}
use Rattle.dir_change.proofs.increment.integers.Given as goal

abbrev pub invariant-loop-text : goal.invariant-loop-text
invariant-loop-text l =
    (values_with fin.empty (map keyed_integer l.texts) ≡ values_with l.values (map keyed_integer (drop l.text-index l.texts)))
    × AreOwnKeys l.values
