use Rattle.std.proofs.Common.{◌≡◌, ◌∙◌, rules}
use Rattle.dir_names.specs.Orders.{bytes_eq}
use Rattle.dir_names.proofs.SortOrder.{name_sorts_eq}
use Rattle.dir_names.proofs.key.DnKeyPartialEq.eq.Goals as goal

pub returns : goal.returns
returns c =
    let run : c.eq.result ≡ bytes_eq c.sort_text.result.now c.sort_text-2.result.now = search rules in
    run ∙ (λ i. bytes_eq (c.sort_text.ensures i) (c.sort_text-2.ensures i)) ∙ name_sorts_eq c.args.self.now c.args.other.now
