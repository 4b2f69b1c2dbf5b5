use Rattle.std.proofs.Common.{rules}
use Rattle.dir_change.proofs.Numbers.{parsed, not_in_utf8}
use Rattle.dir_change.proofs.increment.number_of.Goals as goal

pub returns-in-Ok : goal.returns-in-Ok
returns-in-Ok c = search (rules, parsed)

pub returns-in-Err : goal.returns-in-Err
returns-in-Err c = search (rules, not_in_utf8)
