use Rattle.std.proofs.Common.{◌≡◌, Some, Ok, sym, ap, subst, ◌∙◌}
use Rattle.dir_names.specs.Results.{and_then}
use Rattle.dir_tree.specs.Content.{Content}
use Rattle.dir_tree.specs.Dir.{entry_at, put_entry}
use Rattle.dir_change.specs.Inside.Exchanged.{FitAttributes}
use Rattle.dir_change.specs.Inside.Planned.{IsExchanged, IsExchangedAt, IsPlan}
use Rattle.dir_change.specs.Modify.{entry_after, with_attributes}
use Rattle.dir_change.specs.Operation.{with_modified_entry}
use Rattle.dir_tree.specs.SpelledNames.{spelled_name}
use Rattle.dir_change.proofs.ModifyUndo.{modify_undo}
use Rattle.dir_change.proofs.modify.modify.Goals as goal

some_is : {A : Type 0} {x y : A} → Some x ≡ Some y → x ≡ y
some_is h = cc

pub carry_out-requires-clause-fit : goal.carry_out-requires-clause-fit
carry_out-requires-clause-fit g c e there =
    let x = c.in_ok-exchange.field-0.exchange in
    let same : c.in-Some.entry.now ≡ e = some_is (c.in-Some.ensures ∙ there) in
    subst (λ (z : Content). FitAttributes z.attributes x.before x.after) same c.in_ok-exchange.ensures.plan.1.fits

pub carry_out-requires-clause-done : goal.carry_out-requires-clause-done
carry_out-requires-clause-done g c e there is_done =
    let made = c.in_ok-exchange.field-0 in
    let same : c.in-Some.entry.now ≡ e = some_is (c.in-Some.ensures ∙ there) in
    subst (λ (z : Content). IsExchanged z made.exchange.before made.exchange.after made.first) same (c.in_ok-exchange.ensures.done is_done)

pub returns-clause-ok : goal.returns-clause-ok
returns-clause-ok g c =
    let rows = c.args.schema.now in
    let mods = c.args.mods.now in
    let k = c.args.key.now in
    let d = g.D.Directory.state c.args.directory.now in
    let e = c.in-Some.entry.now in
    let x = c.in_ok-exchange.field-0.exchange in
    let there : entry_at d k ≡ Some e = sym c.in-Some.ensures in
    let done : IsExchangedAt d k e x.before x.after (g.D.Directory.state c.carry_out.new.directory) = c.in_ok-carry_out.ensures.ok e there in
    let after : entry_after rows e mods ≡ Ok (with_attributes e done.0) = c.in_ok-exchange.ensures.plan.1.leads done.0 done.1 in
    ap (with_modified_entry rows d k mods) there ∙ ap (λ r. and_then r (λ y. Ok (put_entry d k y))) after ∙ ap Ok (sym done.2)

pub returns-clause-undo : goal.returns-clause-undo
returns-clause-undo g c =
    let rows = c.args.schema.now in
    let mods = c.args.mods.now in
    let k = c.args.key.now in
    let d = g.D.Directory.state c.args.directory.now in
    let e = c.in-Some.entry.now in
    let x = c.in_ok-exchange.field-0.exchange in
    let there : entry_at d k ≡ Some e = sym c.in-Some.ensures in
    let done : IsExchangedAt d k e x.before x.after (g.D.Directory.state c.carry_out.new.directory) = c.in_ok-carry_out.ensures.ok e there in
    let back = c.in_ok-exchange.ensures.plan.0 in
    let plan : IsPlan rows e mods x.before x.after back = c.in_ok-exchange.ensures.plan.1 in
    let after : entry_after rows e mods ≡ Ok (with_attributes e done.0) = plan.leads done.0 done.1 in
    c.in_ok-exchange.ensures.plan.2
    ∙ modify_undo rows d k mods e (with_attributes e done.0) there after (g.D.Directory.state c.carry_out.new.directory) done.2 (spelled_name d k) back (λ i. spelled_name d k) (plan.leads_back done.0 done.1)
