use Rattle.std.proofs.Common.{◌≡◌, cond, [], sym, ap, ◌∙◌, Some, None, is_some, rules, get_or}
use Rattle.std.specs.FinMap as fin
use Rattle.dir_names.specs.Sorted.{place}
use Rattle.dir_names.specs.Orders.{attr_cmp, attr_cmp_total}
use Rattle.dir_names.specs.Described.{Described}
use Rattle.dir_tree.specs.Content.{Keyed, Stored, StoredAttributes}
use Rattle.dir_tree.specs.Inside.Stored.{attribute_pair, attributes_in}
use Rattle.dir_tree.specs.NewEntry.{with_description}
use Rattle.dir_tree.proofs.SortedVecs.{got, missing, put, still_rises, keys_in}
use Rattle.dir_tree.proofs.attributes.AttributeMap.add_description.Goals as goal

-- a new description has no values, and one that is there stays
new_description : (xs : StoredAttributes) (d : Described) → fin.get xs d.key ≡ None → fin.insert xs d.key (record { spelling = d.spelling; values = fin.empty }) ≡ with_description xs d
new_description xs d there = ap (λ o. cond (is_some o) xs (fin.insert xs d.key (record { spelling = d.spelling; values = fin.empty }))) (sym there)

old_description : (xs : StoredAttributes) (d : Described) (a : Stored) → fin.get xs d.key ≡ Some a → xs ≡ with_description xs d
old_description xs d a there = ap (λ o. cond (is_some o) xs (fin.insert xs d.key (record { spelling = d.spelling; values = fin.empty }))) (sym there)

pub invariant_of-self : goal.invariant_of-self
invariant_of-self c =
    let at : c.find.result ≡ place attr_cmp c.key.result.now (keys_in attr_cmp_total attribute_pair c.self.inside.items) = c.find.ensures.place in
    let cloned = c.in_ok-description.ensures in
    let same : c.args.description.now ≡ c.in_ok-description.description = cc in
    let new : Keyed = record { key = c.in_ok-description.description.key; stored = record { spelling = c.in_ok-description.description.spelling; values = c.empty-values.result } } in
    let key = ap (λ d. d.key) (sym same) ∙ sym c.key.ensures in
    let kept = still_rises attr_cmp_total attribute_pair c.self.inside.items c.self.invariant c.key.result.now c.find.result at c.in-Err.at c.in-Err.is new key in
    search rules

pub returns-in_ok-insert-clause-ok : goal.returns-in_ok-insert-clause-ok
returns-in_ok-insert-clause-ok c =
    let at : c.find.result ≡ place attr_cmp c.args.description.now.key (keys_in attr_cmp_total attribute_pair c.self.inside.items) = c.find.ensures.place ∙ ap (λ k. place attr_cmp k (keys_in attr_cmp_total attribute_pair c.self.inside.items)) c.key.ensures in
    let cloned = c.in_ok-description.ensures in
    let same : c.args.description.now ≡ c.in_ok-description.description = cc in
    let new : Keyed = record { key = c.in_ok-description.description.key; stored = record { spelling = c.in_ok-description.description.spelling; values = c.empty-values.result } } in
    let none : fin.get c.args.self.now c.args.description.now.key ≡ None = ap (λ m. fin.get m c.args.description.now.key) (sym c.self.view_is) ∙ missing attr_cmp_total attribute_pair c.self.inside.items c.self.invariant c.args.description.now.key c.find.result at c.in-Err.at c.in-Err.is new.stored in
    ap (λ items. attributes_in items) c.in_ok-insert.ensures.ok
    ∙ sym (put attr_cmp_total attribute_pair c.self.inside.items c.self.invariant c.args.description.now.key c.find.result at c.in-Err.at c.in-Err.is new (ap (λ d. d.key) (sym same)))
    ∙ ap (λ m. fin.insert m c.args.description.now.key new.stored) c.self.view_is
    ∙ ap (λ s. fin.insert c.args.self.now c.args.description.now.key s) (λ i. record { spelling = (sym same i).spelling; values = c.empty-values.ensures i })
    ∙ new_description c.args.self.now c.args.description.now none

pub returns-in_default-clause-ok : goal.returns-in_default-clause-ok
returns-in_default-clause-ok c =
    let at : c.find.result ≡ place attr_cmp c.args.description.now.key (keys_in attr_cmp_total attribute_pair c.self.inside.items) = c.find.ensures.place ∙ ap (λ k. place attr_cmp k (keys_in attr_cmp_total attribute_pair c.self.inside.items)) c.key.ensures in
    old_description c.args.self.now c.args.description.now (get_or c.self.inside.items c.in_default.field-0 (record { key = c.args.description.now.key; stored = record { spelling = []; values = fin.empty } })).stored (ap (λ m. fin.get m c.args.description.now.key) (sym c.self.view_is) ∙ got attr_cmp_total attribute_pair c.self.inside.items c.self.invariant c.args.description.now.key c.find.result at c.in_default.field-0 c.in_default.is (record { key = c.args.description.now.key; stored = record { spelling = []; values = fin.empty } }))
