use Rattle.std.proofs.Common.{◌≡◌, [], sym, ap, ◌∙◌, Some}
use Rattle.std.specs.FinMap as fin
use Rattle.dir_names.specs.Sorted.{place}
use Rattle.dir_names.specs.Orders.{attr_cmp, attr_cmp_total, attr_cmp_exact}
use Rattle.dir_tree.specs.Inside.Stored.{attribute_pair, attributes_in, attributes_rise}
use Rattle.dir_tree.proofs.SortedVecs.{found, gone, got, keys_in, missing, none_gone, rises_gone}
use Rattle.dir_tree.proofs.attributes.AttributeMap.take.Goals as goal

pub invariant_of-self : goal.invariant_of-self
invariant_of-self c =
    let at : c.find.result ≡ place attr_cmp c.args.key.now (keys_in attr_cmp_total attribute_pair c.self.inside.items) = c.find.ensures.place in
    ap (λ items. attributes_rise items) c.remove.ensures.rest ∙ rises_gone attr_cmp_total attribute_pair c.self.inside.items c.self.invariant c.args.key.now c.find.result at c.in-Ok.at c.in-Ok.is

pub returns-in-Ok-clause-attribute : goal.returns-in-Ok-clause-attribute
returns-in-Ok-clause-attribute c =
    let at : c.find.result ≡ place attr_cmp c.args.key.now (keys_in attr_cmp_total attribute_pair c.self.inside.items) = c.find.ensures.place in
    ap (λ a. Some a.stored) c.remove.ensures.value
    ∙ sym (ap (λ m. fin.get m c.args.key.now) (sym c.self.view_is) ∙ got attr_cmp_total attribute_pair c.self.inside.items c.self.invariant c.args.key.now c.find.result at c.in-Ok.at c.in-Ok.is c.remove.result)

pub returns-in-Ok-clause-key : goal.returns-in-Ok-clause-key
returns-in-Ok-clause-key c =
    let at : c.find.result ≡ place attr_cmp c.args.key.now (keys_in attr_cmp_total attribute_pair c.self.inside.items) = c.find.ensures.place in
    ap (λ a. a.key) c.remove.ensures.value ∙ found attr_cmp_total attribute_pair attr_cmp_exact c.args.key.now c.self.inside.items c.in-Ok.at c.remove.result (sym at ∙ c.in-Ok.is)

pub returns-in-Ok-clause-rest : goal.returns-in-Ok-clause-rest
returns-in-Ok-clause-rest c =
    let at : c.find.result ≡ place attr_cmp c.args.key.now (keys_in attr_cmp_total attribute_pair c.self.inside.items) = c.find.ensures.place in
    ap (λ items. attributes_in items) c.remove.ensures.rest
    ∙ sym (gone attr_cmp_total attribute_pair c.self.inside.items c.self.invariant c.args.key.now c.find.result at c.in-Ok.at attr_cmp_exact c.in-Ok.is)
    ∙ ap (λ m. fin.remove m c.args.key.now) c.self.view_is

pub returns-in-Err-clause-attribute : goal.returns-in-Err-clause-attribute
returns-in-Err-clause-attribute c =
    let at : c.find.result ≡ place attr_cmp c.args.key.now (keys_in attr_cmp_total attribute_pair c.self.inside.items) = c.find.ensures.place in
    sym (ap (λ m. fin.get m c.args.key.now) (sym c.self.view_is) ∙ missing attr_cmp_total attribute_pair c.self.inside.items c.self.invariant c.args.key.now c.find.result at c.in-Err.field-0 c.in-Err.is (record { spelling = []; values = fin.empty }))

pub returns-in-Err-clause-rest : goal.returns-in-Err-clause-rest
returns-in-Err-clause-rest c =
    let at : c.find.result ≡ place attr_cmp c.args.key.now (keys_in attr_cmp_total attribute_pair c.self.inside.items) = c.find.ensures.place in
    sym c.self.view_is
    ∙ sym (none_gone attr_cmp_total attribute_pair c.self.inside.items c.self.invariant c.args.key.now c.find.result at c.in-Err.field-0 attr_cmp_exact c.in-Err.is)
    ∙ ap (λ m. fin.remove m c.args.key.now) c.self.view_is
