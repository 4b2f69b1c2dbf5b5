use Rattle.std.proofs.Common.{arith}
use Rattle.std.proofs.lemmas.Grind.{common_steps}
use Rattle.dir_conf_text.proofs.lines.LogicalLines.next.Goals as goal

pub invariant_of-self-then-not-joins :
    goal.invariant_of-self-then-not-joins
invariant_of-self-then-not-joins c = grind (arith, common_steps)

pub loop-self-smaller : goal.loop-self-smaller
loop-self-smaller c = grind (arith, common_steps)

pub loop-self-preserved : goal.loop-self-preserved
loop-self-preserved c = grind (arith, common_steps)
