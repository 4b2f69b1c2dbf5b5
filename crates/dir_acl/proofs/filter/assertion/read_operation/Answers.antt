use Rattle.std.proofs.Common.{rules, ◌≡◌, Ok}
use Rattle.dir_names.specs.Descriptions.{description_of}
use Rattle.dir_acl.specs.Tests.{described_by, operator_of}
use Rattle.dir_acl.proofs.Tested.{operation_read}
use Rattle.dir_acl.proofs.filter.assertion.read_operation.Goals as goal

pub returns-in_ok-attr-in-Ok : goal.returns-in_ok-attr-in-Ok
returns-in_ok-attr-in-Ok c =
    let read : description_of c.args.schema.now (described_by (operator_of c.args.before.now) c.args.before.now) ≡ Ok c.in-Ok.description = search rules in
    let same : c.in_ok-attr-in-Ok.attr ≡ c.in-Ok.description.key = search rules in
    operation_read c.args.schema.now c.args.value.now _ _ c.operator_of-operator.ensures _ _ read _ same c.test_of_attr.result c.test_of_attr.ensures
