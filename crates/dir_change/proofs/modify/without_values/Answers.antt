use Rattle.std.proofs.Common.{◌≡◌, Bool, true, false, ◌==◌, length, Option, Some, None, Ok, refl, sym, ap, ◌∙◌, rules}
use Rattle.std.specs.Option.{option_map}
use Rattle.dir_ldif.specs.declared.records.ModOp.TheVariants as op
use Rattle.dir_tree.specs.Content.{Keyed, Stored}
use Rattle.dir_tree.specs.Slots.{slot_of, values_of}
use Rattle.dir_change.specs.Inside.ValuesInTurn.{are_there, without_each}
use Rattle.dir_change.specs.Modify.{slot_after_op}
use Rattle.dir_change.proofs.ModifyAnswers.{delete_some, deleted, none_deleted, not_deleted}
use Rattle.dir_change.proofs.modify.without_values.Goals as goal

flip : (a : Bool) → a ≡ false → a ≡ false
flip a h = h

flip_false : (a : Bool) → a ≡ true → a ≡ true
flip_false a h = h

none_of : (o : Option Keyed) → ((a : Keyed) → o ≡ Some a → ⊥) → option_map (λ (a : Keyed). a.stored) o ≡ None
none_of None h = refl
none_of (Some a) h = absurd (h a refl)

pub returns-in_default-clause-refused : goal.returns-in_default-clause-refused
returns-in_default-clause-refused c =
    let m = c.args.m.now in
    let some : (length m.values == 0) ≡ false = search rules in
    let none : option_map (λ (a : Keyed). a.stored) c.args.attribute ≡ None = none_of c.args.attribute c.in_default.not-Some in
    ap (slot_after_op c.args.schema.now m op.Delete m.values) none ∙ delete_some c.args.schema.now m m.values None some ∙ none_deleted c.args.schema.now m c.in_ok-given.given.items c.in_ok-given.ensures.ok some

pub returns-then-not-remove_all-clause-refused : goal.returns-then-not-remove_all-clause-refused
returns-then-not-remove_all-clause-refused c =
    let m = c.args.m.now in
    let given = c.in_ok-given.given.items in
    let some : (length m.values == 0) ≡ false = search rules in
    let slot : Option Stored = Some c.in-Some-attribute.attribute.stored in
    let there : are_there (values_of slot) given ≡ false = ap (are_there (values_of slot)) (sym c.as_slice-2.ensures.value) ∙ sym c.remove_all.ensures.there ∙ flip c.remove_all.result c.if-not-remove_all.true in
    ap (λ o. slot_after_op c.args.schema.now m op.Delete m.values (option_map (λ (a : Keyed). a.stored) o)) c.in-Some-attribute.is ∙ delete_some c.args.schema.now m m.values slot some ∙ not_deleted c.args.schema.now m given c.in_ok-given.ensures.ok slot there

pub returns-clause-ok : goal.returns-clause-ok
returns-clause-ok c =
    let m = c.args.m.now in
    let given = c.in_ok-given.given.items in
    let some : (length m.values == 0) ≡ false = search rules in
    let slot : Option Stored = Some c.in-Some-attribute.attribute.stored in
    let yes = flip_false c.remove_all.result c.if-not-remove_all.false in
    let there : are_there (values_of slot) given ≡ true = ap (are_there (values_of slot)) (sym c.as_slice-2.ensures.value) ∙ sym c.remove_all.ensures.there ∙ yes in
    let left = c.if_any.ensures.slot ∙ ap (λ (a : Keyed). slot_of a.stored.spelling a.stored.values) (c.remove_all.ensures.rest yes) ∙ ap (λ ps. slot_of c.in-Some-attribute.attribute.stored.spelling (without_each c.in-Some-attribute.attribute.stored.values ps)) c.as_slice-2.ensures.value in
    ap (λ o. slot_after_op c.args.schema.now m op.Delete m.values (option_map (λ (a : Keyed). a.stored) o)) c.in-Some-attribute.is ∙ delete_some c.args.schema.now m m.values slot some ∙ deleted c.args.schema.now m given c.in_ok-given.ensures.ok slot there ∙ ap Ok (sym left)
