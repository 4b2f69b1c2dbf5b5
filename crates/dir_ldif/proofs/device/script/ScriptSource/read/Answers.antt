use Rattle.std.proofs.Common.{take, drop, ◌∙◌}
use Rattle.dir_ldif.proofs.ScriptLemmas.{no_turns, none_given, part_given}
use Rattle.dir_ldif.proofs.device.script.ScriptSource.read.Goals as goal

pub returns-then-self-clause-turns : goal.returns-then-self-clause-turns
returns-then-self-clause-turns c = λ endless n.
    let old = c.begin_again.new.self in
    let new = c.give.new.self in
    let m = c.begin_again.ensures.turns n in
    (m.0, m.1 ∙ part_given (drop old.at old.bytes.now) (take c.give.result c.give.new.buffer) (drop new.at new.bytes.now) old.bytes.now new.bytes.now n c.give.ensures.bytes c.give.ensures.text)

pub returns-then-self-clause-some : goal.returns-then-self-clause-some
returns-then-self-clause-some c = λ endless none room n.
    let old = c.begin_again.new.self in
    let new = c.give.new.self in
    let end = none_given (drop old.at old.bytes.now) c.give.new.buffer (drop new.at new.bytes.now) c.give.result c.give.ensures.bytes none (c.give.ensures.end none room) in
    no_turns c.args.self.now.bytes.now c.args.self.now.at n (c.begin_again.ensures.some end)
