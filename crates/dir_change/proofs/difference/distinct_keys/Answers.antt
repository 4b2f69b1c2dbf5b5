use Rattle.std.proofs.Common.{ap, take, ◌∙◌, arith}
use Rattle.std.proofs.lemmas.Grind.{common_steps}
use Rattle.dir_names.specs.Orders.{attr_cmp}
use Rattle.dir_names.specs.Sorted.{rises}
use Rattle.dir_change.proofs.KeysInOrder.{set_rises}
use Rattle.dir_change.proofs.difference.distinct_keys.Goals as goal

pub insert_key-requires : goal.insert_key-requires
insert_key-requires c = ap (rises attr_cmp) c.loop-key.invariant ∙ set_rises (take c.loop-key.key-index c.args.all.now)

pub loop-key-preserved : goal.loop-key-preserved
loop-key-preserved c = grind (arith, common_steps)

pub returns-clause-ok : goal.returns-clause-ok
returns-clause-ok c = grind (arith, common_steps)
