use Rattle.std.proofs.Common.{◌≡◌, find, true, ap, sym, rules, ◌∙◌}
use Rattle.dir_names.specs.declared.schema.TypeRow.{TypeRow}
use Rattle.dir_names.specs.Inside.Frequent.{IsFrequentType}
use Rattle.dir_names.specs.Orders.{bytes_eq, bytes_eq_decides}
use Rattle.dir_names.specs.Table.{rule_in}
use Rattle.dir_names.proofs.schema.Schema.rule_in_slot.Goals as goal

pub returns-in-Some : goal.returns-in-Some
returns-in-Some c =
    let frequent : IsFrequentType c.args.self.now c.in-Some.frequent.now = search rules in
    let told : bytes_eq c.in-Some.frequent.now.description.key.attr_type c.args.attr.now.attr_type ≡ true = search rules in
    let same : c.in-Some.frequent.now.description.key.attr_type ≡ c.args.attr.now.attr_type = (bytes_eq_decides c.in-Some.frequent.now.description.key.attr_type c.args.attr.now.attr_type).0 told in
    sym frequent.1 ∙ ap (λ attr_type. rule_in (find (λ (row : TypeRow). bytes_eq row.key attr_type) c.args.self.now)) same
