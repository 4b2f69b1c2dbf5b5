use Rattle.std.proofs.Common.{◌≡◌, true, is_some, ap, sym, ◌∙◌, rules}
use Rattle.std.specs.Str.{str_eq_ignore_ascii_case}
use Rattle.dir_names.specs.Inside.Frequent.{IsFrequentType}
use Rattle.dir_names.specs.Table.Builtin.{builtin_rows}
use Rattle.dir_names.proofs.Scopes.{named_alike}
use Rattle.dir_names.proofs.schema.Schema.scope_of.Goals as goal

pub returns-in-Some : goal.returns-in-Some
returns-in-Some c e =
    let frequent : IsFrequentType c.args.self.now c.in-Some.frequent.now = search rules in
    let alike : str_eq_ignore_ascii_case c.in-Some.frequent.now.text c.args.attr_type.now ≡ true = search rules in
    ap is_some (sym (named_alike builtin_rows c.in-Some.frequent.now.text c.args.attr_type.now alike)) ∙ frequent.2 e
