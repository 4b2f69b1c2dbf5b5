use Rattle.std.proofs.Common.{[], ◌++◌, map, sym, ap, ◌∙◌}
use Rattle.std.proofs.lemmas.List.{append-nil}
use Rattle.std.specs.FinMap as fin
use Rattle.dir_names.specs.Orders.{dn_key_cmp, dn_key_cmp_exact, dn_key_cmp_total}
use Rattle.dir_names.proofs.Maps.{one_put}
use Rattle.dir_tree.specs.Moves.{moved_key}
use Rattle.dir_tree.proofs.MoveLemmas.{one_moved}
use Rattle.dir_tree.proofs.flat.moved_entries.Goals as goal

pub loop-key-init : goal.loop-key-init
loop-key-init c = ([], append-nil c.into_iter-key-iterator.result.iter ∙ ap (λ z. z.iter) c.into_iter-key-iterator.ensures.into_iter_gives ∙ c.rev-key-items.ensures.source ∙ c.iter.ensures.rest, ap (λ es. fin.from_entries {R = dn_key_cmp} es) c.new-moved.ensures.empty)

pub loop-key-preserved-in-Ok-insert : goal.loop-key-preserved-in-Ok-insert
loop-key-preserved-in-Ok-insert c =
    one_moved c.args.old.now c.args.new.now c.loop-key.key-iterator.iter c.next.new.self.iter c.args.entries.now.entries c.loop-key.moved.entries c.insert.new.self.entries c.in-Some.key.now c.in-Some.entry.now c.in_ok-key.key c.in-Ok.entry
    c.in-Some.ensures.steps c.in_ok-key.ensures c.in-Ok.ensures
    (ap (λ es. fin.from_entries {R = dn_key_cmp} es) c.in-Ok-insert.ensures.entries ∙ one_put dn_key_cmp_total dn_key_cmp_exact c.loop-key.moved.entries c.in_ok-key.key c.in-Ok.entry)
    c.loop-key.invariant

pub loop-key-preserved-in-Ok-insert-2 : goal.loop-key-preserved-in-Ok-insert-2
loop-key-preserved-in-Ok-insert-2 c =
    one_moved c.args.old.now c.args.new.now c.loop-key.key-iterator.iter c.next.new.self.iter c.args.entries.now.entries c.loop-key.moved.entries c.insert.new.self.entries c.in-Some.key.now c.in-Some.entry.now c.in_ok-key.key c.in-Ok.entry
    c.in-Some.ensures.steps c.in_ok-key.ensures c.in-Ok.ensures
    (ap (λ es. fin.from_entries {R = dn_key_cmp} es) c.in-Ok-insert.ensures.entries ∙ one_put dn_key_cmp_total dn_key_cmp_exact c.loop-key.moved.entries c.in_ok-key.key c.in-Ok.entry)
    c.loop-key.invariant

pub returns-clause-ok : goal.returns-clause-ok
returns-clause-ok c =
    let all = ap (λ z. z ++ c.loop-key.invariant.0) (sym c.in-None.ensures.steps.0) ∙ c.loop-key.invariant.1 in
    c.loop-key.invariant.2 ∙ ap (λ es. fin.from_entries {R = dn_key_cmp} (map (λ p. (moved_key c.args.old.now c.args.new.now p.0, p.1)) es)) all
