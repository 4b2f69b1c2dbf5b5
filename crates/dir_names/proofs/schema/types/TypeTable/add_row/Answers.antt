use Rattle.std.proofs.Common.{◌≡◌, [], ◌∷◌, ◌++◌, None, Some, true, length, map, sym, ap, subst, ◌∙◌, rules}
use Rattle.std.specs.Str.{str_to_ascii_lowercase}
use Rattle.dir_names.specs.declared.schema.TypeRow.{TypeRow}
use Rattle.dir_names.specs.Inside.TypeNames.{Gains}
use Rattle.dir_names.specs.Table.{row_named}
use Rattle.dir_names.specs.Types.Adding.{may_be_added, names_given, new_row, rule_by}
use Rattle.dir_names.proofs.GrownTables.{IsKept, gains_in, row_added}
use Rattle.dir_names.proofs.schema.types.TypeTable.add_row.Goals as goal

pub invariant_of-self-2 : goal.invariant_of-self-2
invariant_of-self-2 c =
    let rows = c.self.inside.rows.items in
    let index = c.self.inside.names.items in
    let d = c.args.definition in
    let rule = c.args.rule in
    let added : may_be_added rows d ≡ true = subst (λ r. may_be_added r d ≡ true) (sym c.self.view_is) c.requires.added in
    let fresh : row_named rows d.number ≡ None = subst (λ r. row_named r d.number ≡ None) (sym c.self.view_is) c.requires.new in
    let by_rule : rule_by rows d.equality d.sup ≡ Some rule = subst (λ r. rule_by r d.equality d.sup ≡ Some rule) (sym c.self.view_is) c.requires.rule in
    let row : c.in_ok-row.row ≡ new_row d rule = search rules in
    let lowered : c.in_ok-lowered.lowered.items ≡ map str_to_ascii_lowercase c.in_ok-row.row.names = search rules in
    let lowered_here : c.in_ok-lowered.lowered.items ≡ map str_to_ascii_lowercase (names_given d) = lowered ∙ ap (λ (r : TypeRow). map str_to_ascii_lowercase r.names) row in
    let items : c.push.new.self.items ≡ rows ++ c.in_ok-row.row ∷ [] = search rules in
    let gained : Gains (gains_in c.in_ok-lowered.lowered.items) (length rows) index c.insert_each.new.names.items = search rules in
    let gains : Gains (gains_in (map str_to_ascii_lowercase (names_given d))) (length rows) index c.insert_each.new.names.items = subst (λ ns. Gains (gains_in ns) (length rows) index c.insert_each.new.names.items) lowered_here gained in
    subst (λ r. IsKept r c.insert_each.new.names.items)
    (sym (items ∙ ap (λ r. rows ++ r ∷ []) row))
    (row_added rows index c.self.invariant d added rule c.insert_each.new.names.items fresh by_rule c.insert_each.ensures.rising gains)
