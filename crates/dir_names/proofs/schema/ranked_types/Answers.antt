use Rattle.std.proofs.lemmas.List.Elements.{All-push}
use Rattle.dir_names.specs.Inside.Frequent.{IsRankedType}
use Rattle.dir_names.proofs.schema.ranked_types.Goals as goal

pub loop-name-preserved : goal.loop-name-preserved
loop-name-preserved c = rw c.in_ok-push.ensures.items (All-push (IsRankedType c.args.schema.now) c.loop-name.types.items c.in-Some.ranked c.loop-name.invariant c.in-Some.ensures)
