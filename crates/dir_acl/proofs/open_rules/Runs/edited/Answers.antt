use Rattle.dir_acl.proofs.OpenRuns.{add_told, remove_told, set_told}
use Rattle.dir_acl.proofs.open_rules.Runs.edited.Goals as goal

pub returns-in-Set : goal.returns-in-Set
returns-in-Set c = λ p. set_told c.args.self c.joined-any.result c.common.result c.in-Set.new c.args.edit p c.joined-any.ensures c.common.ensures c.without.result c.without.ensures c.in-Set.is

pub returns-in-Add : goal.returns-in-Add
returns-in-Add c = λ p.
    add_told c.args.self c.joined-any.result c.common-in-Add.result c.in-Add.more c.args.edit p c.joined-any.ensures c.common-in-Add.ensures c.joined.result c.without-in-Add.result c.joined.ensures c.without-in-Add.ensures c.in-Add.is

pub returns-in-Remove : goal.returns-in-Remove
returns-in-Remove c = λ p.
    remove_told c.args.self c.joined-any.result c.common-in-Remove.result c.in-Remove.less c.args.edit p c.joined-any.ensures c.common-in-Remove.ensures c.without-in-Remove.result c.joined-in-Remove.result c.without-in-Remove.ensures c.joined-in-Remove.ensures c.in-Remove.is
