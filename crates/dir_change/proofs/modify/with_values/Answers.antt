use Rattle.std.proofs.Common.{◌≡◌, true, false, not, ◌==◌, length, Option, Ok, sym, ap, subst, ◌∙◌, rules}
use Rattle.std.specs.Option.{option_map}
use Rattle.std.proofs.lemmas.Result.{err_from_is_err_and}
use Rattle.dir_ldif.specs.declared.records.ModOp.TheVariants as op
use Rattle.dir_tree.specs.Content.{Keyed, Stored}
use Rattle.dir_tree.specs.Slots.{slot_of, values_of}
use Rattle.dir_change.specs.Inside.ValuesInTurn.{are_new}
use Rattle.dir_change.specs.Modify.{slot_after_op, values_with}
use Rattle.dir_change.specs.Operation.{IsRefused}
use Rattle.dir_change.specs.Refusals.{IsRefusedWith}
use Rattle.dir_change.specs.declared.result_code.ResultCode.TheVariants as code
use Rattle.dir_change.proofs.ModifyAnswers.{add_some, added, not_added}
use Rattle.dir_change.proofs.modify.with_values.Goals as goal

pub returns-in_err-add_all-clause-refused : goal.returns-in_err-add_all-clause-refused
returns-in_err-add_all-clause-refused c =
    let m = c.args.m.now in
    let slot : Option Stored = option_map (λ a. a.stored) c.args.attribute in
    let given = c.in_ok-given.given.items in
    let some : (length m.values == 0) ≡ false = search rules in
    let there = ap (λ (a : Keyed). a.stored.values) c.in_ok-attribute.ensures.ok in
    let refused : IsRefusedWith code.AttributeOrValueExists (not (are_new (values_of slot) given)) c.in_err-add_all.field-0.0 = subst (λ vs. IsRefusedWith code.AttributeOrValueExists (not (are_new vs given)) c.in_err-add_all.field-0.0) there c.in_err-add_all.ensures.refused in
    let e = err_from_is_err_and c.from_residual-in_err-add_all.result c.from_residual-in_err-add_all.ensures.1 in
    rw e.1 (subst (λ r. IsRefused r (slot_after_op c.args.schema.now m op.Add m.values slot)) (sym e.2) (subst (IsRefused c.in_err-add_all.field-0.0) (sym (add_some c.args.schema.now m m.values slot some)) (not_added c.args.schema.now m given c.in_ok-given.ensures.ok slot c.in_err-add_all.field-0.0 refused)))

pub returns-clause-ok : goal.returns-clause-ok
returns-clause-ok c =
    let m = c.args.m.now in
    let slot : Option Stored = option_map (λ a. a.stored) c.args.attribute in
    let given = c.in_ok-given.given.items in
    let some : (length m.values == 0) ≡ false = search rules in
    let there = ap (λ (a : Keyed). a.stored.values) c.in_ok-attribute.ensures.ok in
    let new : are_new (values_of slot) given ≡ true = sym (ap (λ vs. are_new vs given) there) ∙ c.in_ok-add_all.ensures.new in
    let left = c.if_any.ensures.slot ∙ ap (λ (a : Keyed). slot_of a.stored.spelling a.stored.values) c.in_ok-add_all.ensures.ok ∙ ap (λ (a : Keyed). slot_of a.stored.spelling (values_with a.stored.values given)) c.in_ok-attribute.ensures.ok in
    add_some c.args.schema.now m m.values slot some ∙ added c.args.schema.now m given c.in_ok-given.ensures.ok slot new ∙ ap Ok (sym left)
