use Rattle.std.proofs.Common.{◌≡◌, ◌∙◌, rules}
use Rattle.dir_names.specs.Orders.{bytes_cmp}
use Rattle.dir_names.proofs.SortOrder.{name_sorts}
use Rattle.dir_names.proofs.key.sort_key.DnSortKeyOrd.cmp.Goals as goal

pub returns : goal.returns
returns c =
    let run : c.cmp.result ≡ bytes_cmp c.as_slice.result.now c.as_slice-2.result.now = search rules in
    run ∙ (λ i. bytes_cmp (c.as_slice.ensures i) (c.as_slice-2.ensures i)) ∙ name_sorts c.args.self.now c.args.other.now
