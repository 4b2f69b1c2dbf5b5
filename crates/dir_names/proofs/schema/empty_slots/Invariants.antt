use Rattle.std.proofs.Common.{All, List}
use Rattle.dir_names.specs.declared.schema.TypeRow.{TypeRow}
use Rattle.dir_names.specs.Inside.Frequent.{IsFrequentSlot}
use Rattle.dir_names.proofs.schema.empty_slots.Given as goal

abbrev pub invariant-loop : goal.invariant-loop
invariant-loop l = (rows : List TypeRow) → All (IsFrequentSlot rows) l.slots.items
