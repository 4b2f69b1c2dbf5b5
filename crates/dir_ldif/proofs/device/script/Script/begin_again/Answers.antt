use Rattle.std.proofs.Common.{suc, length-drop, refl, ap, length, arith}
use Rattle.dir_ldif.proofs.ScriptLemmas.{turn_begun}
use Rattle.dir_ldif.proofs.device.script.Script.begin_again.Goals as goal

pub returns-then-self-clause-turns : goal.returns-then-self-clause-turns
returns-then-self-clause-turns c = λ n. (suc n, turn_begun c.args.self.now.bytes.now c.args.self.now.at n (omega arith))

pub returns-else-self-clause-turns : goal.returns-else-self-clause-turns
returns-else-self-clause-turns c = λ n. (n, refl)

pub returns-else-self-clause-some : goal.returns-else-self-clause-some
returns-else-self-clause-some c = λ none. absurd (omega (arith, ap length none, length-drop c.args.self.now.at c.args.self.now.bytes.now))
