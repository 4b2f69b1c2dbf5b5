use Rattle.std.proofs.Common.{All}
use Rattle.dir_names.specs.Inside.Frequent.{IsRankedType}
use Rattle.dir_names.proofs.schema.ranked_types.Given as goal

abbrev pub invariant-loop-name : goal.invariant-loop-name
invariant-loop-name l = All (IsRankedType l.schema) l.types.items
