use Rattle.std.proofs.Common.{◌≡◌, false, [], ◌∷◌, ◌++◌, Result, Ok, is_some, refl, sym, ap, subst, ◌∙◌}
use Rattle.std.specs.Prelude.{Err, IfOk, OnOk}
use Rattle.std.proofs.lemmas.Result.{err_from_is_err_and}
use Rattle.dir_names.specs.Keys.{DnKeys}
use Rattle.dir_names.specs.Orders.{dn_key_eq}
use Rattle.dir_ldif.specs.declared.records.ChangeKind.TheVariants as kind
use Rattle.dir_tree.specs.Content.{Content}
use Rattle.dir_tree.specs.Dir.{Dir}
use Rattle.dir_tree.specs.Moves.{move_subtree}
use Rattle.dir_change.specs.Operation.{IsRefused}
use Rattle.dir_change.specs.Rename.{directory_after_rename, place_at, renamed_entry}
use Rattle.dir_change.specs.Undo.{undo_of}
use Rattle.dir_change.proofs.RenameAccepted.{accepted, refused_place, refused_values}
use Rattle.dir_change.proofs.RenameUndo.{Built, built}
use Rattle.dir_change.proofs.rename.rename.Goals as goal
use Rattle.dir_change.proofs.rename.rename.Goals.{In_ok-to}
use Rattle.dir_change.proofs.rename.rename.Given.{Over}

if_ok : {A E : Type 0} (P : Type 0) (Q R : A → Type 0) (r : Result A E) → OnOk r P → IfOk r Q → (P → (x : A) → Q x → R x) → IfOk r R
if_ok P Q R (Ok x) p q next = next p x q
if_ok P Q R (Err e) p q next = tt

-- what is known once the destination is, for each entry that the renamed one may be
at_place : (g : Over) (c : In_ok-to g) (n : DnKeys) → n ≡ c.in_ok-to.to.place → (y : Content) → renamed_entry c.args.schema.now c.in-Some.entry.now c.args.newrdn.now c.in_ok-to.to.rdn c.args.delete_old ≡ Ok y
    → Built c.args.schema.now (g.D.Directory.state c.args.directory.now) c.args.key.now c.args.newrdn.now c.args.delete_old c.args.newsuperior.now c.in-Some.entry.now c.in_ok-to.to.superior n y
at_place g c n is y renamed =
    let d : Dir = g.D.Directory.state c.args.directory.now in
    let apart : dn_key_eq c.args.key.now d.suffix ≡ false = sym (c.eq.ensures ∙ ap (dn_key_eq c.args.key.now) c.suffix.ensures.key) ∙ c.if-eq.false in
    let to = c.in_ok-to.to in
    built c.args.schema.now d c.suffix.ensures.closed c.args.key.now c.args.newrdn.now c.args.delete_old c.args.newsuperior.now c.in-Some.entry.now (sym c.in-Some.ensures) apart
    to.superior c.in_ok-to.ensures.superior to.rdn c.in_ok-to.ensures.named n (is ∙ c.in_ok-to.ensures.is) (subst (λ n. place_at d c.args.key.now n ≡ Ok n) (sym is) c.in_ok-to.ensures.place) y renamed

pub returns-in_err-to-clause-refused : goal.returns-in_err-to-clause-refused
returns-in_err-to-clause-refused g c =
    let rows = c.args.schema.now in
    let d : Dir = g.D.Directory.state c.args.directory.now in
    let k = c.args.key.now in
    let apart : dn_key_eq k d.suffix ≡ false = sym (c.eq.ensures ∙ ap (dn_key_eq k) c.suffix.ensures.key) ∙ c.if-eq.false in
    let refused = refused_place rows d k c.args.newrdn.now c.args.delete_old c.args.newsuperior.now c.in-Some.entry.now (sym c.in-Some.ensures) apart c.in_err-to.field-0.0 c.in_err-to.ensures.refused in
    let e = err_from_is_err_and c.from_residual.result c.from_residual.ensures.1 in
    rw e.1 (subst (λ r. IsRefused r (directory_after_rename rows d k c.args.newrdn.now c.args.delete_old c.args.newsuperior.now)) (sym e.2) refused)

pub move_to-requires-clause-undoable : goal.move_to-requires-clause-undoable
move_to-requires-clause-undoable g c y renamed =
    let at = at_place g (goal.at.move_to-requires-clause-undoable g c).In_ok-to c.in_ok-to.to.place refl y renamed in
    record { there = ap is_some (sym c.in-Some.ensures); above = at.superior_there; has_parent = at.has_parent_key; parent = at.parent_there; fits = at.name_fits; same = at.same }

pub returns-in_err-planned-clause-refused : goal.returns-in_err-planned-clause-refused
returns-in_err-planned-clause-refused g c =
    let rows = c.args.schema.now in
    let d : Dir = g.D.Directory.state c.args.directory.now in
    let k = c.args.key.now in
    let to = c.in_ok-to.to in
    let apart : dn_key_eq k d.suffix ≡ false = sym (c.eq.ensures ∙ ap (dn_key_eq k) c.suffix.ensures.key) ∙ c.if-eq.false in
    let refused = refused_values rows d k c.args.newrdn.now c.args.delete_old c.args.newsuperior.now c.in-Some.entry.now (sym c.in-Some.ensures) apart to.superior c.in_ok-to.ensures.superior to.rdn c.in_ok-to.ensures.named
    (subst (λ n. place_at d k n ≡ Ok n) c.in_ok-to.ensures.is c.in_ok-to.ensures.place) c.in_err-planned.field-0.0 c.in_err-planned.ensures.refused in
    let e = err_from_is_err_and c.from_residual-in_err-planned.result c.from_residual-in_err-planned.ensures.1 in
    rw e.1 (subst (λ r. IsRefused r (directory_after_rename rows d k c.args.newrdn.now c.args.delete_old c.args.newsuperior.now)) (sym e.2) refused)

pub carry_out-requires-clause-inner : goal.carry_out-requires-clause-inner
carry_out-requires-clause-inner g c = (at_place g (goal.at.carry_out-requires-clause-inner g c).In_ok-to c.in_ok-planned.planned.place c.in_ok-planned.ensures.place c.in_ok-planned.planned.renamed c.in_ok-planned.ensures.renamed).inner

pub carry_out-requires-clause-parent : goal.carry_out-requires-clause-parent
carry_out-requires-clause-parent g c = (at_place g (goal.at.carry_out-requires-clause-parent g c).In_ok-to c.in_ok-planned.planned.place c.in_ok-planned.ensures.place c.in_ok-planned.planned.renamed c.in_ok-planned.ensures.renamed).parent

pub carry_out-requires-clause-place : goal.carry_out-requires-clause-place
carry_out-requires-clause-place g c = (at_place g (goal.at.carry_out-requires-clause-place g c).In_ok-to c.in_ok-planned.planned.place c.in_ok-planned.ensures.place c.in_ok-planned.planned.renamed c.in_ok-planned.ensures.renamed).place

pub carry_out-requires-clause-fits : goal.carry_out-requires-clause-fits
carry_out-requires-clause-fits g c = (at_place g (goal.at.carry_out-requires-clause-fits g c).In_ok-to c.in_ok-planned.planned.place c.in_ok-planned.ensures.place c.in_ok-planned.planned.renamed c.in_ok-planned.ensures.renamed).room

pub returns-clause-ok : goal.returns-clause-ok
returns-clause-ok g c =
    let rows = c.args.schema.now in
    let d : Dir = g.D.Directory.state c.args.directory.now in
    let k = c.args.key.now in
    let to = c.in_ok-to.to in
    let apart : dn_key_eq k d.suffix ≡ false = sym (c.eq.ensures ∙ ap (dn_key_eq k) c.suffix.ensures.key) ∙ c.if-eq.false in
    let renamed = c.in_ok-planned.planned.renamed in
    let new : Dir = g.D.Directory.state c.carry_out.new.directory in
    let at_key : c.in_ok-planned.planned.place ≡ to.superior ++ to.rdn ∷ [] = c.in_ok-planned.ensures.place ∙ c.in_ok-to.ensures.is in
    let is : directory_after_rename rows d k c.args.newrdn.now c.args.delete_old c.args.newsuperior.now ≡ Ok (move_subtree d k (to.superior ++ to.rdn ∷ []) renamed) =
    accepted rows d k c.args.newrdn.now c.args.delete_old c.args.newsuperior.now c.in-Some.entry.now (sym c.in-Some.ensures) apart to.superior c.in_ok-to.ensures.superior to.rdn c.in_ok-to.ensures.named
    (subst (λ n. place_at d k n ≡ Ok n) c.in_ok-to.ensures.is c.in_ok-to.ensures.place) renamed c.in_ok-planned.ensures.renamed in
    if_ok (new ≡ move_subtree d k c.in_ok-planned.planned.place renamed) (λ u. u ≡ c.in_ok-planned.planned.undo) (λ u. directory_after_rename rows d k c.args.newrdn.now c.args.delete_old c.args.newsuperior.now ≡ Ok new) c.carry_out.result c.carry_out.ensures.ok c.carry_out.ensures.undo
    (λ moved undo same. is ∙ ap (λ n. Ok (move_subtree d k n renamed)) (sym at_key) ∙ ap Ok (sym moved))

pub returns-clause-undo : goal.returns-clause-undo
returns-clause-undo g c =
    let d : Dir = g.D.Directory.state c.args.directory.now in
    let k = c.args.key.now in
    let planned = c.in_ok-planned.planned in
    let new : Dir = g.D.Directory.state c.carry_out.new.directory in
    let at = at_place g (goal.at.returns-clause-undo g c).In_ok-to planned.place c.in_ok-planned.ensures.place planned.renamed c.in_ok-planned.ensures.renamed in
    if_ok (new ≡ move_subtree d k planned.place planned.renamed) (λ u. u ≡ planned.undo) (λ u. u ≡ undo_of c.args.schema.now d new k (kind.Rename c.args.newrdn.now c.args.delete_old c.args.newsuperior.now)) c.carry_out.result c.carry_out.ensures.ok c.carry_out.ensures.undo
    (λ moved undo same. same ∙ c.in_ok-planned.ensures.undo ∙ sym (ap (λ z. undo_of c.args.schema.now d z k (kind.Rename c.args.newrdn.now c.args.delete_old c.args.newsuperior.now)) moved ∙ at.group))
