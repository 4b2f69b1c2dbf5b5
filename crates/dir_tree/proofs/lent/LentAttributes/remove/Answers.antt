use Rattle.std.proofs.Common.{◌≡◌, sym, ap, subst, ◌∙◌}
use Rattle.std.specs.FinMap as fin
use Rattle.dir_names.specs.Sorted.{place}
use Rattle.dir_names.specs.Orders.{attr_cmp, attr_cmp_total, attr_cmp_exact}
use Rattle.dir_tree.specs.Inside.Stored.{attribute_pair, attributes_in, attributes_rise}
use Rattle.dir_tree.proofs.SortedVecs.{gone, keys_in, none_gone, rises_gone}
use Rattle.dir_tree.proofs.lent.LentAttributes.remove.Goals as goal

pub invariant_of-self : goal.invariant_of-self
invariant_of-self c =
    let at : c.place_of.result ≡ place attr_cmp c.args.key.now (keys_in attr_cmp_total attribute_pair c.self.inside.items.items) = subst (λ xs. c.place_of.result ≡ place attr_cmp c.args.key.now (keys_in attr_cmp_total attribute_pair xs)) c.as_slice.ensures.value c.place_of.ensures.place in
    ap (λ items. attributes_rise items) c.remove.ensures.items ∙ rises_gone attr_cmp_total attribute_pair c.self.inside.items.items c.self.invariant c.args.key.now c.place_of.result at c.in-Ok.at c.in-Ok.is

pub returns-in-Ok : goal.returns-in-Ok
returns-in-Ok c =
    let at : c.place_of.result ≡ place attr_cmp c.args.key.now (keys_in attr_cmp_total attribute_pair c.self.inside.items.items) = subst (λ xs. c.place_of.result ≡ place attr_cmp c.args.key.now (keys_in attr_cmp_total attribute_pair xs)) c.as_slice.ensures.value c.place_of.ensures.place in
    ap (λ items. attributes_in items) c.remove.ensures.items
    ∙ sym (gone attr_cmp_total attribute_pair c.self.inside.items.items c.self.invariant c.args.key.now c.place_of.result at c.in-Ok.at attr_cmp_exact c.in-Ok.is)
    ∙ ap (λ m. fin.remove m c.args.key.now) c.self.view_is

pub returns-in-Err : goal.returns-in-Err
returns-in-Err c =
    let at : c.place_of.result ≡ place attr_cmp c.args.key.now (keys_in attr_cmp_total attribute_pair c.self.inside.items.items) = subst (λ xs. c.place_of.result ≡ place attr_cmp c.args.key.now (keys_in attr_cmp_total attribute_pair xs)) c.as_slice.ensures.value c.place_of.ensures.place in
    sym c.self.view_is
    ∙ sym (none_gone attr_cmp_total attribute_pair c.self.inside.items.items c.self.invariant c.args.key.now c.place_of.result at c.in-Err.field-0 attr_cmp_exact c.in-Err.is)
    ∙ ap (λ m. fin.remove m c.args.key.now) c.self.view_is
