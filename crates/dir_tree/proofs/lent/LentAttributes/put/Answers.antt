use Rattle.std.proofs.Common.{◌≡◌, sym, ap, subst, ◌∙◌, rules}
use Rattle.std.specs.FinMap as fin
use Rattle.dir_names.specs.Sorted.{place}
use Rattle.dir_names.specs.Orders.{attr_cmp, attr_cmp_total, attr_cmp_exact}
use Rattle.dir_tree.specs.Inside.Stored.{attribute_pair, attributes_in}
use Rattle.dir_tree.proofs.SortedVecs.{found, keys_in, put, put_over, rises_over, still_rises}
use Rattle.dir_tree.proofs.lent.LentAttributes.put.Goals as goal

pub invariant_of-self : goal.invariant_of-self
invariant_of-self c =
    let at : c.place_of.result ≡ place attr_cmp c.args.key.now (keys_in attr_cmp_total attribute_pair c.self.inside.items.items) = subst (λ xs. c.place_of.result ≡ place attr_cmp c.args.key.now (keys_in attr_cmp_total attribute_pair xs)) c.as_slice.ensures.value c.place_of.ensures.place in
    let there = found attr_cmp_total attribute_pair attr_cmp_exact c.args.key.now c.self.inside.items.items c.in-Ok.at c.args.attribute (sym at ∙ c.in-Ok.is) in
    rises_over attr_cmp_total attribute_pair c.self.inside.items.items c.self.invariant c.args.key.now c.place_of.result at c.in-Ok.at c.in-Ok.is c.args.attribute (c.requires ∙ sym there)

pub invariant_of-self-in-Err : goal.invariant_of-self-in-Err
invariant_of-self-in-Err c =
    let at : c.place_of.result ≡ place attr_cmp c.args.key.now (keys_in attr_cmp_total attribute_pair c.self.inside.items.items) = subst (λ xs. c.place_of.result ≡ place attr_cmp c.args.key.now (keys_in attr_cmp_total attribute_pair xs)) c.as_slice.ensures.value c.place_of.ensures.place in
    let kept = still_rises attr_cmp_total attribute_pair c.self.inside.items.items c.self.invariant c.args.key.now c.place_of.result at c.in-Err.at c.in-Err.is c.args.attribute c.requires in
    search rules

pub returns-in-Ok : goal.returns-in-Ok
returns-in-Ok c =
    let at : c.place_of.result ≡ place attr_cmp c.args.key.now (keys_in attr_cmp_total attribute_pair c.self.inside.items.items) = subst (λ xs. c.place_of.result ≡ place attr_cmp c.args.key.now (keys_in attr_cmp_total attribute_pair xs)) c.as_slice.ensures.value c.place_of.ensures.place in
    let there = found attr_cmp_total attribute_pair attr_cmp_exact c.args.key.now c.self.inside.items.items c.in-Ok.at c.args.attribute (sym at ∙ c.in-Ok.is) in
    sym (put_over attr_cmp_total attribute_pair c.self.inside.items.items c.self.invariant c.args.key.now c.place_of.result at c.in-Ok.at c.in-Ok.is c.args.attribute (c.requires ∙ sym there))
    ∙ ap (λ m. fin.insert m c.args.key.now c.args.attribute.stored) c.self.view_is

pub returns-in_ok-insert-in-Err : goal.returns-in_ok-insert-in-Err
returns-in_ok-insert-in-Err c =
    let at : c.place_of.result ≡ place attr_cmp c.args.key.now (keys_in attr_cmp_total attribute_pair c.self.inside.items.items) = subst (λ xs. c.place_of.result ≡ place attr_cmp c.args.key.now (keys_in attr_cmp_total attribute_pair xs)) c.as_slice.ensures.value c.place_of.ensures.place in
    ap (λ items. attributes_in items) c.in_ok-insert-in-Err.ensures.items
    ∙ sym (put attr_cmp_total attribute_pair c.self.inside.items.items c.self.invariant c.args.key.now c.place_of.result at c.in-Err.at c.in-Err.is c.args.attribute c.requires)
    ∙ ap (λ m. fin.insert m c.args.key.now c.args.attribute.stored) c.self.view_is
