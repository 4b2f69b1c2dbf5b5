use Rattle.std.proofs.Common.{arith}
use Rattle.std.proofs.lemmas.Grind.{common_steps}
use Rattle.dir_names.proofs.PieceLemmas.{pieces_none}
use Rattle.dir_names.proofs.name.reading.split_once_unescaped.Goals as goal

pub loop-i-init : goal.loop-i-init
loop-i-init c = pieces_none c.args.separator c.args.text.now

pub returns-then-is_unescaped-clause-pieces : goal.returns-then-is_unescaped-clause-pieces
returns-then-is_unescaped-clause-pieces c = grind (arith, common_steps)

pub loop-i-preserved : goal.loop-i-preserved
loop-i-preserved c = grind (arith, common_steps)

pub returns-clause-pieces : goal.returns-clause-pieces
returns-clause-pieces c = grind (arith, common_steps)
