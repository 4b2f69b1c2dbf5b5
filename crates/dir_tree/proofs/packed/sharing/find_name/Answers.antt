use Rattle.std.proofs.Common.{sym, ◌∙◌}
use Rattle.dir_names.specs.Orders.{dn_key_eq_decides}
use Rattle.dir_tree.proofs.packed.sharing.find_name.Goals as goal

pub returns-then-eq : goal.returns-then-eq
returns-then-eq c = (dn_key_eq_decides c.found-item.result c.args.name.now).0 (sym c.eq.ensures ∙ c.if-eq.true)
