use Rattle.std.proofs.Common.{sym, ◌∙◌}
use Rattle.dir_names.specs.Orders.{rdn_key_eq_decides}
use Rattle.dir_tree.proofs.entry.share_key.Goals as goal

pub returns-in-Ok : goal.returns-in-Ok
returns-in-Ok c =
    let same = (rdn_key_eq_decides c.args.own.now c.args.key.now).0 (sym c.eq.ensures ∙ c.if-eq.true) in
    let cloned = c.in-Ok.ensures in
    cc
