use Rattle.std.proofs.Common.{◌≡◌, Ok, false, None, sym, ap, subst, ◌∙◌}
use Rattle.std.specs.FinMap as fin
use Rattle.std.proofs.lemmas.Result.{err_from_is_err_and}
use Rattle.dir_names.specs.Attr.{Attr}
use Rattle.dir_names.specs.Orders.{attr_cmp}
use Rattle.dir_names.specs.Sorted.{set_of}
use Rattle.dir_tree.specs.ChangedEntry.{changed_entry}
use Rattle.dir_change.specs.Difference.{difference_at}
use Rattle.dir_change.specs.Inside.Looked.{AreLooks, is_one_of}
use Rattle.dir_change.specs.Inside.Overlaid.{overlaid}
use Rattle.dir_change.specs.Inside.Touched.{IsPartAt}
use Rattle.dir_change.specs.Modify.{attributes_after, entry_after, with_attributes}
use Rattle.dir_change.specs.Operation.{IsRefused}
use Rattle.dir_change.specs.Refusals.{entry_or_code}
use Rattle.dir_change.proofs.LookedModify.{are_fit, entry_accepted, entry_refused, exchanged_are, mods_refused, only_named, same_difference}
use Rattle.dir_change.proofs.ModifiedAttributes.{named_keys}
use Rattle.dir_change.proofs.WholeParts.{slots_exchanged}
use Rattle.dir_change.proofs.modify.planned.Goals as goal

pub returns-in_err-apply_all-clause-refused : goal.returns-in_err-apply_all-clause-refused
returns-in_err-apply_all-clause-refused c =
    let rows = c.args.schema.now in
    let entry = c.args.entry.now in
    let mods = c.args.mods.now in
    let keys = c.in_ok-keys.keys.items in
    let before = c.in_ok-before.before in
    let are : keys ≡ set_of attr_cmp (named_keys mods) = c.in_ok-keys.ensures.ok in
    let looks : AreLooks rows entry mods keys before = subst (λ ks. AreLooks rows entry mods ks before) c.as_slice-2.ensures.value c.in_ok-before.ensures.ok in
    let refused : IsRefused c.in_err-apply_all.field-0.0 (attributes_after rows before mods) = subst (λ xs. IsRefused c.in_err-apply_all.field-0.0 (attributes_after rows xs mods)) c.in_ok-after.ensures c.in_err-apply_all.ensures.refused in
    let e = err_from_is_err_and c.from_residual-in_err-apply_all.result c.from_residual-in_err-apply_all.ensures.1 in
    rw e.1 (subst (λ r. IsRefused r (entry_after rows entry mods)) (sym e.2) (mods_refused rows entry mods keys are before looks c.in_err-apply_all.field-0.0 refused))

pub judge-requires : goal.judge-requires
judge-requires c =
    let rows = c.args.schema.now in
    let entry = c.args.entry.now in
    let mods = c.args.mods.now in
    let keys = c.in_ok-keys.keys.items in
    let before = c.in_ok-before.before in
    let are : keys ≡ set_of attr_cmp (named_keys mods) = c.in_ok-keys.ensures.ok in
    let looks : AreLooks rows entry mods keys before = subst (λ ks. AreLooks rows entry mods ks before) c.as_slice-2.ensures.value c.in_ok-before.ensures.ok in
    let gs = c.apply_all.new.attributes in
    let done : attributes_after rows before mods ≡ Ok gs = ap (λ xs. attributes_after rows xs mods) (sym c.in_ok-after.ensures) ∙ c.in_ok-apply_all.ensures.ok in
    subst (λ ks. (q : Attr) → is_one_of q ks ≡ false → fin.get gs q ≡ None) (sym c.as_slice-3.ensures.value) (only_named rows entry mods keys are before looks gs done)

pub returns-in_err-judge-clause-refused : goal.returns-in_err-judge-clause-refused
returns-in_err-judge-clause-refused c =
    let rows = c.args.schema.now in
    let entry = c.args.entry.now in
    let mods = c.args.mods.now in
    let keys = c.in_ok-keys.keys.items in
    let before = c.in_ok-before.before in
    let are : keys ≡ set_of attr_cmp (named_keys mods) = c.in_ok-keys.ensures.ok in
    let looks : AreLooks rows entry mods keys before = subst (λ ks. AreLooks rows entry mods ks before) c.as_slice-2.ensures.value c.in_ok-before.ensures.ok in
    let gs = c.apply_all.new.attributes in
    let done : attributes_after rows before mods ≡ Ok gs = ap (λ xs. attributes_after rows xs mods) (sym c.in_ok-after.ensures) ∙ c.in_ok-apply_all.ensures.ok in
    let refused : IsRefused c.in_err-judge.field-0.0 (entry_or_code (changed_entry rows (with_attributes entry (overlaid entry.attributes keys gs)))) =
    subst (λ ks. IsRefused c.in_err-judge.field-0.0 (entry_or_code (changed_entry rows (with_attributes entry (overlaid entry.attributes ks gs))))) c.as_slice-3.ensures.value c.in_err-judge.ensures.refused in
    let e = err_from_is_err_and c.from_residual-in_err-judge.result c.from_residual-in_err-judge.ensures.1 in
    rw e.1 (subst (λ r. IsRefused r (entry_after rows entry mods)) (sym e.2) (entry_refused rows entry mods keys are before looks gs done c.in_err-judge.field-0.0 refused))

pub returns-clause-ok : goal.returns-clause-ok
returns-clause-ok c =
    let rows = c.args.schema.now in
    let entry = c.args.entry.now in
    let mods = c.args.mods.now in
    let keys = c.in_ok-keys.keys.items in
    let before = c.in_ok-before.before in
    let are : keys ≡ set_of attr_cmp (named_keys mods) = c.in_ok-keys.ensures.ok in
    let looks : AreLooks rows entry mods keys before = subst (λ ks. AreLooks rows entry mods ks before) c.as_slice-2.ensures.value c.in_ok-before.ensures.ok in
    let gs = c.apply_all.new.attributes in
    let done : attributes_after rows before mods ≡ Ok gs = ap (λ xs. attributes_after rows xs mods) (sym c.in_ok-after.ensures) ∙ c.in_ok-apply_all.ensures.ok in
    let fine : entry_or_code (changed_entry rows (with_attributes entry (overlaid entry.attributes keys gs))) ≡ Ok (with_attributes entry (overlaid entry.attributes keys gs)) =
    subst (λ ks. entry_or_code (changed_entry rows (with_attributes entry (overlaid entry.attributes ks gs))) ≡ Ok (with_attributes entry (overlaid entry.attributes ks gs))) c.as_slice-3.ensures.value c.in_ok-judge.ensures.ok in
    let back : c.in_ok-back.back.items ≡ difference_at keys gs before = c.in_ok-back.ensures.ok ∙ ap (λ ks. difference_at ks gs before) c.as_slice-4.ensures.value in
    record {
      fits = are_fit rows entry mods keys are before looks gs done;
      leads = λ new h. entry_accepted rows entry mods keys are before looks gs done fine new (exchanged_are rows entry mods keys are before looks gs done new h);
      leads_back = λ new h. back ∙ same_difference rows entry mods keys are before looks gs done new (exchanged_are rows entry mods keys are before looks gs done new h);
    }

pub returns-clause-whole : goal.returns-clause-whole
returns-clause-whole c is_whole =
    let rows = c.args.schema.now in
    let entry = c.args.entry.now in
    let mods = c.args.mods.now in
    let keys = c.in_ok-keys.keys.items in
    let before = c.in_ok-before.before in
    let are : keys ≡ set_of attr_cmp (named_keys mods) = c.in_ok-keys.ensures.ok in
    let looks : AreLooks rows entry mods keys before = subst (λ ks. AreLooks rows entry mods ks before) c.as_slice-2.ensures.value c.in_ok-before.ensures.ok in
    let whole : IsPartAt keys entry.attributes before = subst (λ ks. IsPartAt ks entry.attributes before) c.as_slice-2.ensures.value (c.in_ok-before.ensures.whole is_whole) in
    let gs = c.apply_all.new.attributes in
    let done : attributes_after rows before mods ≡ Ok gs = ap (λ xs. attributes_after rows xs mods) (sym c.in_ok-after.ensures) ∙ c.in_ok-apply_all.ensures.ok in
    slots_exchanged entry.attributes keys before whole gs (only_named rows entry mods keys are before looks gs done)
