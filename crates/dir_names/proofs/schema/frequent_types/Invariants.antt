use Rattle.std.proofs.Common.{All}
use Rattle.dir_names.specs.Inside.Frequent.{IsFrequentSlot}
use Rattle.dir_names.proofs.schema.frequent_types.Given as goal

abbrev pub invariant-loop-name : goal.invariant-loop-name
invariant-loop-name l = All (IsFrequentSlot l.schema) l.slots.items
