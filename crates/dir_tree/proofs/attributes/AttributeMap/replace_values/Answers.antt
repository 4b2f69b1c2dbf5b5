use Rattle.std.proofs.Common.{◌≡◌, [], get_or, sym, ap, ◌∙◌, Some, is_some, true≢false}
use Rattle.std.specs.Option.{option_map}
use Rattle.std.specs.FinMap as fin
use Rattle.dir_names.specs.Sorted.{place}
use Rattle.dir_names.specs.Orders.{attr_cmp, attr_cmp_total, attr_cmp_exact}
use Rattle.dir_tree.specs.Content.{Keyed, Stored}
use Rattle.dir_tree.specs.Inside.AttributeLists.{with_values}
use Rattle.dir_tree.specs.Inside.Stored.{attribute_pair, attributes_in, attributes_rise}
use Rattle.dir_tree.specs.Slots.{spelling_or}
use Rattle.dir_tree.proofs.SortedVecs.{found, got, keys_in, missing, put_over, rises_over}
use Rattle.dir_tree.proofs.attributes.AttributeMap.replace_values.Goals as goal

pub invariant_of-self : goal.invariant_of-self
invariant_of-self c =
    let at : c.find.result ≡ place attr_cmp c.args.key.now (keys_in attr_cmp_total attribute_pair c.self.inside.items) = c.find.ensures.place in
    let d : Keyed = record { key = c.args.key.now; stored = record { spelling = []; values = c.args.values } } in
    let old = get_or c.self.inside.items c.in-Ok.at d in
    let item = with_values old c.args.values in
    let there_at = found attr_cmp_total attribute_pair attr_cmp_exact c.args.key.now c.self.inside.items c.in-Ok.at in
    let same : item.key ≡ (get_or c.self.inside.items c.in-Ok.at item).key = there_at d (sym at ∙ c.in-Ok.is) ∙ sym (there_at item (sym at ∙ c.in-Ok.is)) in
    ap attributes_rise (c.replace_values.ensures.new d)
    ∙ rises_over attr_cmp_total attribute_pair c.self.inside.items c.self.invariant c.args.key.now c.find.result at c.in-Ok.at c.in-Ok.is item same

pub unreachable-requires : goal.unreachable-requires
unreachable-requires c =
    let at : c.find.result ≡ place attr_cmp c.args.key.now (keys_in attr_cmp_total attribute_pair c.self.inside.items) = c.find.ensures.place in
    let none = ap (λ m. fin.get m c.args.key.now) (sym c.self.view_is) ∙ missing attr_cmp_total attribute_pair c.self.inside.items c.self.invariant c.args.key.now c.find.result at c.in-Err.field-0 c.in-Err.is (record { spelling = []; values = c.args.values }) in
    absurd (true≢false (sym c.requires ∙ ap is_some none))

pub returns-clause-old : goal.returns-clause-old
returns-clause-old c =
    let at : c.find.result ≡ place attr_cmp c.args.key.now (keys_in attr_cmp_total attribute_pair c.self.inside.items) = c.find.ensures.place in
    let d : Keyed = record { key = c.args.key.now; stored = record { spelling = []; values = c.args.values } } in
    let old = get_or c.self.inside.items c.in-Ok.at d in
    let item = with_values old c.args.values in
    let there : fin.get c.args.self.now c.args.key.now ≡ Some old.stored = ap (λ m. fin.get m c.args.key.now) (sym c.self.view_is) ∙ got attr_cmp_total attribute_pair c.self.inside.items c.self.invariant c.args.key.now c.find.result at c.in-Ok.at c.in-Ok.is d in
    ap (option_map (λ (a : Stored). a.values)) there ∙ ap Some (sym (c.replace_values.ensures.old d))

pub returns-clause-new : goal.returns-clause-new
returns-clause-new c =
    let at : c.find.result ≡ place attr_cmp c.args.key.now (keys_in attr_cmp_total attribute_pair c.self.inside.items) = c.find.ensures.place in
    let d : Keyed = record { key = c.args.key.now; stored = record { spelling = []; values = c.args.values } } in
    let old = get_or c.self.inside.items c.in-Ok.at d in
    let item = with_values old c.args.values in
    let there_at = found attr_cmp_total attribute_pair attr_cmp_exact c.args.key.now c.self.inside.items c.in-Ok.at in
    let same : item.key ≡ (get_or c.self.inside.items c.in-Ok.at item).key = there_at d (sym at ∙ c.in-Ok.is) ∙ sym (there_at item (sym at ∙ c.in-Ok.is)) in
    let there : fin.get c.args.self.now c.args.key.now ≡ Some old.stored = ap (λ m. fin.get m c.args.key.now) (sym c.self.view_is) ∙ got attr_cmp_total attribute_pair c.self.inside.items c.self.invariant c.args.key.now c.find.result at c.in-Ok.at c.in-Ok.is d in
    ap attributes_in (c.replace_values.ensures.new d)
    ∙ sym (put_over attr_cmp_total attribute_pair c.self.inside.items c.self.invariant c.args.key.now c.find.result at c.in-Ok.at c.in-Ok.is item same)
    ∙ ap (λ m. fin.insert m c.args.key.now item.stored) c.self.view_is
    ∙ ap (λ t. fin.insert c.args.self.now c.args.key.now (record { spelling = t; values = c.args.values })) (sym (ap (spelling_or []) there))
