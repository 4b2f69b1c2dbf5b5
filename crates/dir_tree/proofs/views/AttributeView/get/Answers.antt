use Rattle.std.proofs.Common.{[], sym, ap, subst, ◌∙◌, Some}
use Rattle.std.specs.FinMap as fin
use Rattle.dir_names.specs.Sorted.{place}
use Rattle.dir_names.specs.Values.{value_key_cmp, value_key_cmp_total}
use Rattle.dir_tree.specs.Inside.Packed.{values_of}
use Rattle.dir_tree.specs.Inside.Stored.{value_pair}
use Rattle.dir_tree.specs.Inside.Lent.{AreInOrder, lent_values}
use Rattle.dir_tree.proofs.SortedVecs.{got, keys_in, missing}
use Rattle.dir_tree.proofs.views.AttributeView.get.Goals as goal

pub returns-in-Ok : goal.returns-in-Ok
returns-in-Ok c =
    let rises = subst AreInOrder c.in-Packed.is c.self.invariant in
    let key = c.args.key.now in
    let at = c.find.ensures.place ∙ ap (λ k. place value_key_cmp k (keys_in value_key_cmp_total value_pair (values_of c.in-Packed.values))) c.of.ensures in
    ap Some (c.bytes.ensures (key, []))
    ∙ sym (got value_key_cmp_total value_pair (values_of c.in-Packed.values) rises key c.find.result at c.in-Ok.at c.in-Ok.is (key, []))
    ∙ ap (λ v. fin.get (lent_values v) key) (sym c.in-Packed.is) ∙ ap (λ a. fin.get a.stored.values key) c.self.view_is

pub returns-in-Err : goal.returns-in-Err
returns-in-Err c =
    let rises = subst AreInOrder c.in-Packed.is c.self.invariant in
    let key = c.args.key.now in
    let at = c.find.ensures.place ∙ ap (λ k. place value_key_cmp k (keys_in value_key_cmp_total value_pair (values_of c.in-Packed.values))) c.of.ensures in
    sym (missing value_key_cmp_total value_pair (values_of c.in-Packed.values) rises key c.find.result at c.in-Err.field-0 c.in-Err.is [])
    ∙ ap (λ v. fin.get (lent_values v) key) (sym c.in-Packed.is) ∙ ap (λ a. fin.get a.stored.values key) c.self.view_is
