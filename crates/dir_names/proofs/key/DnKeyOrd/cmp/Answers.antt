use Rattle.std.proofs.Common.{◌≡◌, ◌∙◌, rules}
use Rattle.dir_names.specs.Orders.{bytes_cmp}
use Rattle.dir_names.proofs.SortOrder.{name_sorts}
use Rattle.dir_names.proofs.key.DnKeyOrd.cmp.Goals as goal

pub returns : goal.returns
returns c =
    let run : c.cmp.result ≡ bytes_cmp c.sort_text.result.now c.sort_text-2.result.now = search rules in
    run ∙ (λ i. bytes_cmp (c.sort_text.ensures i) (c.sort_text-2.ensures i)) ∙ name_sorts c.args.self.now c.args.other.now
