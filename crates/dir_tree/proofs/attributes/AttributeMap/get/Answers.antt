use Rattle.std.proofs.Common.{◌≡◌, [], sym, ap, ◌∙◌, Some}
use Rattle.std.specs.FinMap as fin
use Rattle.dir_names.specs.Sorted.{place}
use Rattle.dir_names.specs.Orders.{attr_cmp, attr_cmp_total, attr_cmp_exact}
use Rattle.dir_tree.specs.Inside.Stored.{attribute_pair}
use Rattle.dir_tree.proofs.SortedVecs.{got, missing, found, keys_in}
use Rattle.dir_tree.proofs.attributes.AttributeMap.get.Goals as goal

pub returns-in-Ok-clause-value : goal.returns-in-Ok-clause-value
returns-in-Ok-clause-value c =
    let at : c.find.result ≡ place attr_cmp c.args.key.now (keys_in attr_cmp_total attribute_pair c.self.inside.items) = c.find.ensures.place in
    let there = got attr_cmp_total attribute_pair c.self.inside.items c.self.invariant c.args.key.now c.find.result at c.in-Ok.at c.in-Ok.is c.get.result.now in
    sym (ap (λ m. fin.get m c.args.key.now) (sym c.self.view_is) ∙ there ∙ ap (λ attribute. Some attribute.stored) (sym c.get.ensures))

pub returns-in-Ok-clause-key : goal.returns-in-Ok-clause-key
returns-in-Ok-clause-key c =
    let at : c.find.result ≡ place attr_cmp c.args.key.now (keys_in attr_cmp_total attribute_pair c.self.inside.items) = c.find.ensures.place in
    ap (λ attribute. attribute.key) c.get.ensures ∙ found attr_cmp_total attribute_pair attr_cmp_exact c.args.key.now c.self.inside.items c.in-Ok.at c.get.result.now (sym at ∙ c.in-Ok.is)

pub returns-in-Err-clause-value : goal.returns-in-Err-clause-value
returns-in-Err-clause-value c =
    let at : c.find.result ≡ place attr_cmp c.args.key.now (keys_in attr_cmp_total attribute_pair c.self.inside.items) = c.find.ensures.place in
    sym (ap (λ m. fin.get m c.args.key.now) (sym c.self.view_is) ∙ missing attr_cmp_total attribute_pair c.self.inside.items c.self.invariant c.args.key.now c.find.result at c.in-Err.field-0 c.in-Err.is (record { spelling = []; values = fin.empty }))
