use Rattle.std.proofs.Common.{◌≡◌, None, Some, cond, true, false, option_copied, ap, sym, ◌∙◌, rules}
use Rattle.dir_names.specs.Orders.{bytes_eq}
use Rattle.dir_names.specs.Table.{row_named}
use Rattle.dir_names.proofs.AddedTypes.{keyed}
use Rattle.dir_names.proofs.TypeTables.{row_by_key, with_key}
use Rattle.dir_names.proofs.schema.types.TypeTable.with_key.Goals as goal

pub returns-in_err-row : goal.returns-in_err-row
returns-in_err-row c =
    let rows = c.args.self.now in
    let key = c.args.key.now in
    let none : row_named rows key ≡ None = search rules in
    let left : option_copied c.from_residual.result ≡ None = search rules in
    left ∙ sym (ap (with_key key) none) ∙ row_by_key rows (keyed rows c.are_told_apart.ensures) key

pub returns-then-eq : goal.returns-then-eq
returns-then-eq c =
    let rows = c.args.self.now in
    let key = c.args.key.now in
    let row = c.in_ok-row.row.now in
    let some : row_named rows key ≡ Some row = search rules in
    let same : bytes_eq row.key key ≡ true = search rules in
    sym (ap (with_key key) some ∙ ap (λ b. cond b (Some row) None) same) ∙ row_by_key rows (keyed rows c.are_told_apart.ensures) key

pub returns-else-eq : goal.returns-else-eq
returns-else-eq c =
    let rows = c.args.self.now in
    let key = c.args.key.now in
    let row = c.in_ok-row.row.now in
    let some : row_named rows key ≡ Some row = search rules in
    let differs : bytes_eq row.key key ≡ false = search rules in
    sym (ap (with_key key) some ∙ ap (λ b. cond b (Some row) None) differs) ∙ row_by_key rows (keyed rows c.are_told_apart.ensures) key
