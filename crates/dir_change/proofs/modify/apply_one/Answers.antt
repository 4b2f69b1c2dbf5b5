use Rattle.std.proofs.Common.{◌≡◌, IfSome, Ok, Option, Some, None, sym, ap, subst, ◌∙◌}
use Rattle.std.specs.Option.{option_map}
use Rattle.std.specs.FinMap as fin
use Rattle.dir_names.specs.Results.{and_then}
use Rattle.dir_tree.specs.Content.{Keyed}
use Rattle.dir_tree.specs.Slots.{with_slot}
use Rattle.dir_change.specs.Modify.{slot_after}
use Rattle.dir_change.proofs.AttributesBack.{slot_again}
use Rattle.dir_change.proofs.modify.apply_one.Goals as goal

pub returns-in_ok-put-clause-ok : goal.returns-in_ok-put-clause-ok
returns-in_ok-put-clause-ok c =
    let rows = c.args.schema.now in
    let m = c.args.m.now in
    let xs = c.args.attributes.now in
    let k = m.description.key in
    let taken = ap (fin.get xs) (sym c.key.ensures) ∙ sym c.take-attribute.ensures.attribute in
    let slot = ap (slot_after rows m) taken ∙ c.in_ok-modified.ensures.ok ∙ ap (λ (o : Option Keyed). Ok (option_map (λ a. a.stored) o)) c.in-Some.is in
    let key : IfSome (Some c.in-Some.modified) (λ (a : Keyed). a.key ≡ k) = subst (λ (o : Option Keyed). IfSome o (λ a. a.key ≡ k)) c.in-Some.is c.in_ok-modified.ensures.key in
    let rest = c.take-attribute.ensures.rest ∙ ap (fin.remove xs) c.key.ensures in
    let put = c.in_ok-put.ensures.ok ∙ (λ i. fin.insert (rest i) (key i) c.in-Some.modified.stored) ∙ slot_again xs k None (Some c.in-Some.modified.stored) in
    ap (λ r. and_then r (λ s. Ok (with_slot xs k s))) slot ∙ ap Ok (sym put)
