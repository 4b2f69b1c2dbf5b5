use Rattle.std.proofs.Common.{◌≡◌, None, Some, option_and_then, option_copied, slice_get, ap, sym, subst, ◌∙◌, rules}
use Rattle.dir_names.specs.Inside.TypeNames.{row_number}
use Rattle.dir_names.specs.Table.{row_named}
use Rattle.dir_names.proofs.TypeTables.{got_at, row_by_number}
use Rattle.dir_names.proofs.schema.types.TypeTable.named.Goals as goal

pub returns-in_err-row_number : goal.returns-in_err-row_number
returns-in_err-row_number c =
    let rows = c.self.inside.rows.items in
    let names = c.self.inside.names.items in
    let text = c.args.attr_type.now in
    let none : row_number names text ≡ None = search rules in
    let left : option_copied c.from_residual.result ≡ None = search rules in
    left ∙ sym (ap (option_and_then (slice_get rows)) none) ∙ row_by_number rows names c.self.invariant.0 text ∙ ap (λ r. row_named r text) c.self.view_is

pub returns : goal.returns
returns c =
    let rows = c.self.inside.rows.items in
    let names = c.self.inside.names.items in
    let text = c.args.attr_type.now in
    let some : row_number names text ≡ Some c.in_ok-row_number.field-0 = search rules in
    let got : option_copied c.get.result ≡ slice_get rows c.in_ok-row_number.field-0 = subst (λ xs. option_copied c.get.result ≡ slice_get xs c.in_ok-row_number.field-0) c.deref.ensures.value (got_at c.deref.result.now c.in_ok-row_number.field-0 c.get.result c.get.ensures.lookup) in
    got ∙ sym (ap (option_and_then (slice_get rows)) some) ∙ row_by_number rows names c.self.invariant.0 text ∙ ap (λ r. row_named r text) c.self.view_is
