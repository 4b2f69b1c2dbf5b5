use Rattle.std.proofs.Common.{◌≡◌, ◌∙◌, rules}
use Rattle.dir_names.specs.Orders.{bytes_eq}
use Rattle.dir_names.proofs.SortOrder.{name_sorts_eq}
use Rattle.dir_names.proofs.key.sort_key.DnSortKey.is_same.Goals as goal

pub returns : goal.returns
returns c =
    let run : c.eq.result ≡ bytes_eq c.as_slice.result.now c.sort_text.result.now = search rules in
    run ∙ (λ i. bytes_eq (c.as_slice.ensures i) (c.sort_text.ensures i)) ∙ name_sorts_eq c.args.self.now c.args.key.now
