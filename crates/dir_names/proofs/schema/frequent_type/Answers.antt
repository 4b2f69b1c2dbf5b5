use Rattle.std.proofs.Common.{◌≡◌, Ok, true, sym, subst, ◌∙◌, rules}
use Rattle.dir_names.specs.Descriptions.{description_of}
use Rattle.dir_names.specs.NameKeys.{attr_of}
use Rattle.dir_names.specs.Inside.Frequent.{IsFrequentDescription}
use Rattle.dir_names.specs.Inside.Scopes.{IsScopeOf}
use Rattle.dir_names.specs.Orders.{attr_eq, attr_eq_decides}
use Rattle.dir_names.specs.Table.{rule_of}
use Rattle.dir_names.proofs.schema.frequent_type.Goals as goal

pub returns-in-Ok-clause-frequent : goal.returns-in-Ok-clause-frequent
returns-in-Ok-clause-frequent c =
    let rows = c.args.schema.now in
    let text : c.in_ok-copy_of-in-Ok.field-0 ≡ c.args.text.now = search rules in
    let read : description_of rows c.args.text.now ≡ Ok c.in-Ok.description = search rules in
    let attr : c.in_ok-attr.attr ≡ attr_of rows c.args.text.now = search rules in
    let told : attr_eq c.key.result.now c.in_ok-attr.attr ≡ true = search rules in
    let key : c.key.result.now ≡ c.in-Ok.description.key = search rules in
    let same : c.key.result.now ≡ c.in_ok-attr.attr = (attr_eq_decides c.key.result.now c.in_ok-attr.attr).0 told in
    let rule : rule_of rows c.in-Ok.description.key ≡ c.rule.result = search rules in
    (subst (λ t. IsFrequentDescription rows (t, c.in-Ok.description)) (sym text) (read, sym attr ∙ sym same ∙ key), rule, subst (IsScopeOf c.scope_of_type.result) (sym text) c.scope_of_type.ensures)
