use Rattle.std.proofs.Common.{◌≡◌, Bool, true, false, not, cond, List, Ok, Err, refl, sym, ap, subst, ◌∙◌, true≢false}
use Rattle.std.specs.FinMap as fin
use Rattle.std.proofs.lemmas.Result.{err_from_is_err_and}
use Rattle.dir_tree.specs.declared.fault.EntryFault.{EntryFault}
use Rattle.dir_tree.specs.declared.fault.EntryFault.TheVariants.{BadValue, Twice, NotNamed, Single, Memory}
use Rattle.dir_tree.specs.declared.lines.KeyedLine.{KeyedLine}
use Rattle.dir_tree.specs.Inside.Arranged.{IsArranged}
use Rattle.dir_tree.specs.Content.{StoredAttributes}
use Rattle.dir_tree.specs.NewEntry.{IsEntryFaultOf, IsTwiceFaultOf, attributes_if_distinct, give_distinct_values, with_lines}
use Rattle.dir_tree.proofs.Orderless.{arranged_as_is}
use Rattle.dir_tree.proofs.lines.attributes_if_distinct.Goals as goal
use Rattle.dir_tree.proofs.lines.attributes_if_distinct.Goals.{then-len-gt-MOST_UNSORTED_LINES+in_ok-attributes, else-len-gt-MOST_UNSORTED_LINES}

moved : (all : List KeyedLine) (xs ys : StoredAttributes) (ls ms : List KeyedLine) → ys ≡ xs → ms ≡ ls → IsArranged all xs ls → IsArranged all ys ms
moved all xs ys ls ms x l told = subst (λ z. IsArranged all z ms) (sym x) (subst (λ z. IsArranged all xs z) (sym l) told)

-- a value is refused where the lines give one twice
fails_twice : (fault : EntryFault) (ls : List KeyedLine) → IsTwiceFaultOf fault (not (give_distinct_values ls)) → IsEntryFaultOf fault (attributes_if_distinct ls)
fails_twice BadValue ls e = absurd (e)
fails_twice Twice ls e = by (give_distinct_values ls) e
  where
    by : (b : Bool) → not b ≡ true → cond b (Ok (with_lines fin.empty ls)) (Err Twice) ≡ Err Twice
    by true e = absurd (true≢false (sym e))
    by false e = refl
fails_twice NotNamed ls e = absurd (e)
fails_twice Single ls e = absurd (e)
fails_twice Memory ls e = tt

pub returns : goal.returns
returns c =
    let told : IsArranged c.args.lines.items c.if-len-gt-MOST_UNSORTED_LINES.attributes c.if-len-gt-MOST_UNSORTED_LINES.lines.items = elim c.if-len-gt-MOST_UNSORTED_LINES.branch [
      | then-len-gt-MOST_UNSORTED_LINES+in_ok-attributes w ↦ moved c.args.lines.items _ _ _ _ w.attributes-is (ap (λ v. v.items) w.lines-is) w.in_ok-attributes.ensures.ok
      | else-len-gt-MOST_UNSORTED_LINES w ↦ moved c.args.lines.items _ _ _ _ (w.attributes-is ∙ c.empty-attributes.ensures) (ap (λ v. v.items) w.lines-is) (arranged_as_is c.args.lines.items)
    ] in
    let apart : give_distinct_values c.args.lines.items ≡ true = sym told.1 ∙ c.in_ok-add_all.ensures.free in
    ap (λ b. cond b (Ok (with_lines fin.empty c.args.lines.items)) (Err Twice)) apart ∙ ap Ok (sym told.0 ∙ sym c.in_ok-add_all.ensures.ok)

pub returns-in_err-add_all : goal.returns-in_err-add_all
returns-in_err-add_all c =
    let told : IsArranged c.args.lines.items c.if-len-gt-MOST_UNSORTED_LINES.attributes c.if-len-gt-MOST_UNSORTED_LINES.lines.items = elim c.if-len-gt-MOST_UNSORTED_LINES.branch [
      | then-len-gt-MOST_UNSORTED_LINES+in_ok-attributes w ↦ moved c.args.lines.items _ _ _ _ w.attributes-is (ap (λ v. v.items) w.lines-is) w.in_ok-attributes.ensures.ok
      | else-len-gt-MOST_UNSORTED_LINES w ↦ moved c.args.lines.items _ _ _ _ (w.attributes-is ∙ c.empty-attributes.ensures) (ap (λ v. v.items) w.lines-is) (arranged_as_is c.args.lines.items)
    ] in
    let fails = fails_twice c.in_err-add_all.field-0.0 c.args.lines.items (subst (λ b. IsTwiceFaultOf c.in_err-add_all.field-0.0 (not b)) told.1 c.in_err-add_all.ensures.fault) in
    let e = err_from_is_err_and c.from_residual-in_err-add_all.result c.from_residual-in_err-add_all.ensures.1 in
    rw e.1 (subst (λ f. IsEntryFaultOf f (attributes_if_distinct c.args.lines.items)) (sym e.2) fails)
