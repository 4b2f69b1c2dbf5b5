use Rattle.std.proofs.Common.{arith}
use Rattle.std.proofs.lemmas.Grind.{common_steps}
use Rattle.dir_conf.proofs.slapd_conf.parts.after_words.Goals as goal

pub returns-then-is_word : goal.returns-then-is_word
returns-then-is_word c = grind (arith, common_steps)

pub returns-in-Frontend : goal.returns-in-Frontend
returns-in-Frontend c = grind (arith, common_steps)

pub returns-in-OneDatabase : goal.returns-in-OneDatabase
returns-in-OneDatabase c = grind (arith, common_steps)
