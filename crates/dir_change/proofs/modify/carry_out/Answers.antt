use Rattle.std.proofs.Common.{◌≡◌, Some, sym, ap, subst, ◌∙◌, rules}
use Rattle.std.proofs.lemmas.Result.{on_err_weaker, on_ok_weaker}
use Rattle.dir_tree.specs.Content.{Content}
use Rattle.dir_tree.specs.Dir.{entry_at, put_entry}
use Rattle.dir_change.specs.Inside.Planned.{AreExchanged}
use Rattle.dir_change.specs.Modify.{with_attributes}
use Rattle.dir_change.proofs.ModifyBack.{entry_there, put_again, put_over}
use Rattle.dir_change.proofs.modify.carry_out.Goals as goal

some_is : {A : Type 0} {x y : A} → Some x ≡ Some y → x ≡ y
some_is h = cc

pub settle-requires-clause-there : goal.settle-requires-clause-there
settle-requires-clause-there g c =
    let k = c.args.key.now in
    let d = g.D.Directory.state c.args.directory.now in
    let there : entry_at (g.D.Directory.state c.replace-entry.new.self) k ≡ Some c.args.first = ap (λ z. entry_at z k) c.replace-entry.ensures.new ∙ entry_there d k c.args.first in
    search rules

pub settle-requires-clause-fit : goal.settle-requires-clause-fit
settle-requires-clause-fit g c = c.requires.fit c.replace-entry.result c.replace-entry.ensures.old

pub returns-then-is_done-clause-ok : goal.returns-then-is_done-clause-ok
returns-then-is_done-clause-ok g c e there =
    let k = c.args.key.now in
    let d = g.D.Directory.state c.args.directory.now in
    let done = c.requires.done e there c.if-is_done.true in
    (done.0, done.1, c.replace-entry.ensures.new ∙ ap (put_entry d k) done.2)

pub returns-clause-ok : goal.returns-clause-ok
returns-clause-ok g c =
    let k = c.args.key.now in
    let d = g.D.Directory.state c.args.directory.now in
    on_ok_weaker c.settle.result (λ done e there.
    let new = done.0 in
    let old : c.replace-entry.result ≡ e = some_is (sym c.replace-entry.ensures.old ∙ there) in (
      new,
      subst (λ (z : Content). AreExchanged z.attributes c.args.exchange.before c.args.exchange.after new) old done.1,
      done.2 ∙ (λ i. put_entry (c.replace-entry.ensures.new i) k (with_attributes (old i) new)) ∙ put_over d k c.args.first (with_attributes e new),
    ))
    c.settle.ensures.ok

pub returns-clause-err : goal.returns-clause-err
returns-clause-err g c =
    let k = c.args.key.now in
    let d = g.D.Directory.state c.args.directory.now in
    on_err_weaker c.settle.result (λ back. back ∙ ap (λ z. put_entry z k c.replace-entry.result) c.replace-entry.ensures.new ∙ put_again d k c.args.first c.replace-entry.result c.replace-entry.ensures.old)
    c.settle.ensures.err
