use Rattle.std.proofs.Common.{◌≡◌, sym, ap, ◌∙◌, Some, is_some, true≢false}
use Rattle.std.specs.FinMap as fin
use Rattle.dir_names.specs.Sorted.{place}
use Rattle.dir_names.specs.Orders.{attr_cmp, attr_cmp_total, attr_cmp_exact}
use Rattle.dir_tree.specs.Content.{Keyed}
use Rattle.dir_tree.specs.Inside.Stored.{attribute_pair, attributes_in, attributes_rise}
use Rattle.dir_tree.proofs.SortedVecs.{found, got, keys_in, missing, put_over, rises_over}
use Rattle.dir_tree.proofs.attributes.AttributeMap.replace.Goals as goal

pub invariant_of-self : goal.invariant_of-self
invariant_of-self c =
    let at : c.find.result ≡ place attr_cmp c.args.attribute.key (keys_in attr_cmp_total attribute_pair c.self.inside.items) = c.find.ensures.place ∙ ap (λ k. place attr_cmp k (keys_in attr_cmp_total attribute_pair c.self.inside.items)) (c.key.ensures ∙ ap (λ d. d.key) c.description.ensures) in
    let there = found attr_cmp_total attribute_pair attr_cmp_exact c.args.attribute.key c.self.inside.items c.in-Ok.at c.args.attribute (sym at ∙ c.in-Ok.is) in
    ap attributes_rise c.replace.ensures.new
    ∙ rises_over attr_cmp_total attribute_pair c.self.inside.items c.self.invariant c.args.attribute.key c.find.result at c.in-Ok.at c.in-Ok.is c.args.attribute (sym there)

pub unreachable-requires : goal.unreachable-requires
unreachable-requires c =
    let at : c.find.result ≡ place attr_cmp c.args.attribute.key (keys_in attr_cmp_total attribute_pair c.self.inside.items) = c.find.ensures.place ∙ ap (λ k. place attr_cmp k (keys_in attr_cmp_total attribute_pair c.self.inside.items)) (c.key.ensures ∙ ap (λ d. d.key) c.description.ensures) in
    let none = ap (λ m. fin.get m c.args.attribute.key) (sym c.self.view_is) ∙ missing attr_cmp_total attribute_pair c.self.inside.items c.self.invariant c.args.attribute.key c.find.result at c.in-Err.field-0 c.in-Err.is c.args.attribute.stored in
    absurd (true≢false (sym c.requires ∙ ap is_some none))

pub returns-clause-old : goal.returns-clause-old
returns-clause-old c =
    let at : c.find.result ≡ place attr_cmp c.args.attribute.key (keys_in attr_cmp_total attribute_pair c.self.inside.items) = c.find.ensures.place ∙ ap (λ k. place attr_cmp k (keys_in attr_cmp_total attribute_pair c.self.inside.items)) (c.key.ensures ∙ ap (λ d. d.key) c.description.ensures) in
    ap (λ m. fin.get m c.args.attribute.key) (sym c.self.view_is)
    ∙ got attr_cmp_total attribute_pair c.self.inside.items c.self.invariant c.args.attribute.key c.find.result at c.in-Ok.at c.in-Ok.is c.replace.result
    ∙ ap (λ (a : Keyed). Some a.stored) (sym c.replace.ensures.old)

pub returns-clause-key : goal.returns-clause-key
returns-clause-key c =
    let at : c.find.result ≡ place attr_cmp c.args.attribute.key (keys_in attr_cmp_total attribute_pair c.self.inside.items) = c.find.ensures.place ∙ ap (λ k. place attr_cmp k (keys_in attr_cmp_total attribute_pair c.self.inside.items)) (c.key.ensures ∙ ap (λ d. d.key) c.description.ensures) in
    ap (λ (a : Keyed). a.key) c.replace.ensures.old
    ∙ found attr_cmp_total attribute_pair attr_cmp_exact c.args.attribute.key c.self.inside.items c.in-Ok.at c.replace.result (sym at ∙ c.in-Ok.is)

pub returns-clause-new : goal.returns-clause-new
returns-clause-new c =
    let at : c.find.result ≡ place attr_cmp c.args.attribute.key (keys_in attr_cmp_total attribute_pair c.self.inside.items) = c.find.ensures.place ∙ ap (λ k. place attr_cmp k (keys_in attr_cmp_total attribute_pair c.self.inside.items)) (c.key.ensures ∙ ap (λ d. d.key) c.description.ensures) in
    let there = found attr_cmp_total attribute_pair attr_cmp_exact c.args.attribute.key c.self.inside.items c.in-Ok.at c.args.attribute (sym at ∙ c.in-Ok.is) in
    ap attributes_in c.replace.ensures.new
    ∙ sym (put_over attr_cmp_total attribute_pair c.self.inside.items c.self.invariant c.args.attribute.key c.find.result at c.in-Ok.at c.in-Ok.is c.args.attribute (sym there))
    ∙ ap (λ m. fin.insert m c.args.attribute.key c.args.attribute.stored) c.self.view_is
