use Rattle.std.proofs.Common.{arith}
use Rattle.std.proofs.lemmas.Grind.{common_steps}
use Rattle.dir_conf.proofs.slapd_conf.statements.by_words.Goals as goal

pub returns-in-len1-up-2 : goal.returns-in-len1-up-2
returns-in-len1-up-2 c = grind (arith, common_steps)

pub returns-then-not-are_one_line : goal.returns-then-not-are_one_line
returns-then-not-are_one_line c = grind (arith, common_steps)

pub returns : goal.returns
returns c = grind (arith, common_steps)
