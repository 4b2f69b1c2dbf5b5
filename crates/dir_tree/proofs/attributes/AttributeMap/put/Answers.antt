use Rattle.std.proofs.Common.{◌≡◌, refl, sym, ap, ◌∙◌, rules}
use Rattle.std.specs.FinMap as fin
use Rattle.dir_names.specs.Sorted.{place}
use Rattle.dir_names.specs.Orders.{attr_cmp, attr_cmp_total, attr_cmp_exact}
use Rattle.dir_tree.specs.Inside.Stored.{attribute_pair, attributes_in, attributes_rise}
use Rattle.dir_tree.proofs.SortedVecs.{found, keys_in, put, put_over, rises_over, still_rises}
use Rattle.dir_tree.proofs.attributes.AttributeMap.put.Goals as goal

pub invariant_of-self : goal.invariant_of-self
invariant_of-self c =
    let at : c.find.result ≡ place attr_cmp c.args.attribute.key (keys_in attr_cmp_total attribute_pair c.self.inside.items) = c.find.ensures.place ∙ ap (λ k. place attr_cmp k (keys_in attr_cmp_total attribute_pair c.self.inside.items)) (c.key.ensures ∙ ap (λ d. d.key) c.description.ensures) in
    let there = found attr_cmp_total attribute_pair attr_cmp_exact c.args.attribute.key c.self.inside.items c.in-Ok.at c.args.attribute (sym at ∙ c.in-Ok.is) in
    ap attributes_rise c.replace.ensures.new ∙ rises_over attr_cmp_total attribute_pair c.self.inside.items c.self.invariant c.args.attribute.key c.find.result at c.in-Ok.at c.in-Ok.is c.args.attribute (sym there)

pub invariant_of-self-in-Err : goal.invariant_of-self-in-Err
invariant_of-self-in-Err c =
    let at : c.find.result ≡ place attr_cmp c.args.attribute.key (keys_in attr_cmp_total attribute_pair c.self.inside.items) = c.find.ensures.place ∙ ap (λ k. place attr_cmp k (keys_in attr_cmp_total attribute_pair c.self.inside.items)) (c.key.ensures ∙ ap (λ d. d.key) c.description.ensures) in
    let kept = still_rises attr_cmp_total attribute_pair c.self.inside.items c.self.invariant c.args.attribute.key c.find.result at c.in-Err.at c.in-Err.is c.args.attribute refl in
    search rules

pub returns-in-Ok-clause-ok : goal.returns-in-Ok-clause-ok
returns-in-Ok-clause-ok c =
    let at : c.find.result ≡ place attr_cmp c.args.attribute.key (keys_in attr_cmp_total attribute_pair c.self.inside.items) = c.find.ensures.place ∙ ap (λ k. place attr_cmp k (keys_in attr_cmp_total attribute_pair c.self.inside.items)) (c.key.ensures ∙ ap (λ d. d.key) c.description.ensures) in
    let there = found attr_cmp_total attribute_pair attr_cmp_exact c.args.attribute.key c.self.inside.items c.in-Ok.at c.args.attribute (sym at ∙ c.in-Ok.is) in
    ap attributes_in c.replace.ensures.new ∙ sym (put_over attr_cmp_total attribute_pair c.self.inside.items c.self.invariant c.args.attribute.key c.find.result at c.in-Ok.at c.in-Ok.is c.args.attribute (sym there))
    ∙ ap (λ m. fin.insert m c.args.attribute.key c.args.attribute.stored) c.self.view_is

pub returns-in_ok-insert-in-Err-clause-ok : goal.returns-in_ok-insert-in-Err-clause-ok
returns-in_ok-insert-in-Err-clause-ok c =
    let at : c.find.result ≡ place attr_cmp c.args.attribute.key (keys_in attr_cmp_total attribute_pair c.self.inside.items) = c.find.ensures.place ∙ ap (λ k. place attr_cmp k (keys_in attr_cmp_total attribute_pair c.self.inside.items)) (c.key.ensures ∙ ap (λ d. d.key) c.description.ensures) in
    ap (λ items. attributes_in items) c.in_ok-insert-in-Err.ensures.ok
    ∙ sym (put attr_cmp_total attribute_pair c.self.inside.items c.self.invariant c.args.attribute.key c.find.result at c.in-Err.at c.in-Err.is c.args.attribute refl)
    ∙ ap (λ m. fin.insert m c.args.attribute.key c.args.attribute.stored) c.self.view_is
