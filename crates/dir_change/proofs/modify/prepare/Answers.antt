use Rattle.dir_tree.specs.Slots.{with_slots}
use Rattle.dir_change.proofs.modify.prepare.Goals as goal

pub returns-clause-plan : goal.returns-clause-plan
returns-clause-plan g c = (c.in_ok-exchange.field-0.back.items, c.in_ok-exchange.ensures.ok, c.in_ok-undo.ensures.ok)

pub returns-clause-done : goal.returns-clause-done
returns-clause-done g c is_done =
    let x = c.in_ok-exchange.field-0.exchange in
    (with_slots c.args.entry.now.attributes x.keys.items x.after, c.in_ok-exchange.ensures.whole (c.in_ok-first.ensures.whole is_done), c.in_ok-first.ensures.modified is_done)
