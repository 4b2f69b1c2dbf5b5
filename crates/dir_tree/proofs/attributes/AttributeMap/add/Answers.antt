use Rattle.std.proofs.Common.{◌≡◌, [], get_or, refl, sym, ap, subst, ◌∙◌, Some, None, Result, Ok, Err, OnErr, OnOk, IfErr, rules}
use Rattle.std.specs.FinMap as fin
use Rattle.dir_names.specs.Sorted.{place}
use Rattle.dir_names.specs.Orders.{attr_cmp, attr_cmp_total, attr_cmp_exact}
use Rattle.dir_tree.specs.declared.lines.KeyedLine.{KeyedLine}
use Rattle.dir_tree.specs.Content.{Keyed, Stored, StoredAttributes, has_in}
use Rattle.dir_tree.specs.Inside.AttributeLists.{with_values}
use Rattle.dir_tree.specs.Inside.Stored.{attribute_pair, attributes_in, attributes_rise}
use Rattle.dir_tree.specs.NewEntry.{IsTwiceFaultOf, with_line, with_value}
use Rattle.dir_tree.proofs.SortedVecs.{got, missing, put, put_over, still_rises, rises_over, found, keys_in}
use Rattle.dir_tree.proofs.attributes.AttributeMap.add.Goals as goal

on_ok : {A E P Q : Type 0} → (r : Result A E) → (P → Q) → OnOk r P → OnOk r Q
on_ok (Ok x) f p = f p
on_ok (Err e) f p = p

if_err : {A E : Type 0} {P Q : E → Type 0} → (r : Result A E) → ((e : E) → P e → Q e) → IfErr r P → IfErr r Q
if_err (Ok x) f p = p
if_err (Err e) f p = f e p

-- an attribute that is there has one value more
with_value_there : (xs : StoredAttributes) (l : KeyedLine) (a b : Stored) → fin.get xs l.description.key ≡ Some a → b ≡ record { spelling = a.spelling; values = fin.insert a.values l.key l.bytes } → fin.insert xs l.description.key b ≡ with_line xs l
with_value_there xs l a b there same = ap (λ s. fin.insert xs l.description.key s) (same ∙ sym (ap (λ o. with_value o l) there))

-- an attribute that is new has this value alone
with_value_new : (xs : StoredAttributes) (l : KeyedLine) (b : Stored) → fin.get xs l.description.key ≡ None → b ≡ record { spelling = l.description.spelling; values = fin.insert fin.empty l.key l.bytes } → fin.insert xs l.description.key b ≡ with_line xs l
with_value_new xs l b there same = ap (λ s. fin.insert xs l.description.key s) (same ∙ sym (ap (λ o. with_value o l) there))

-- what holds of what is there if a call fails, and of what it leaves if it doesn't, holds
by_result : {A E P X Y : Type 0} (r : Result A E) → OnOk r X → OnErr r Y → (X → P) → (Y → P) → P
by_result (Ok x) p q f g = f p
by_result (Err e) p q f g = g q

pub invariant_of-self : goal.invariant_of-self
invariant_of-self c =
    let at : c.find.result ≡ place attr_cmp c.args.description.key (keys_in attr_cmp_total attribute_pair c.self.inside.items) = c.find.ensures.place ∙ ap (λ k. place attr_cmp k (keys_in attr_cmp_total attribute_pair c.self.inside.items)) c.key.ensures in
    let d : Keyed = record { key = c.args.description.key; stored = record { spelling = []; values = fin.empty } } in
    let old = get_or c.self.inside.items c.in-Ok.at d in
    let item = with_values old (fin.insert old.stored.values c.args.key c.args.bytes) in
    let there_at = found attr_cmp_total attribute_pair attr_cmp_exact c.args.description.key c.self.inside.items c.in-Ok.at in
    let same : item.key ≡ (get_or c.self.inside.items c.in-Ok.at item).key = there_at d (sym at ∙ c.in-Ok.is) ∙ sym (there_at item (sym at ∙ c.in-Ok.is)) in
    by_result c.add.result c.add.ensures.ok c.add.ensures.err
    (λ new. ap attributes_rise (new d) ∙ rises_over attr_cmp_total attribute_pair c.self.inside.items c.self.invariant c.args.description.key c.find.result at c.in-Ok.at c.in-Ok.is item same)
    (λ stays. ap attributes_rise stays ∙ c.self.invariant)

pub invariant_of-self-in-Err : goal.invariant_of-self-in-Err
invariant_of-self-in-Err c =
    let at : c.find.result ≡ place attr_cmp c.args.description.key (keys_in attr_cmp_total attribute_pair c.self.inside.items) = c.find.ensures.place ∙ ap (λ k. place attr_cmp k (keys_in attr_cmp_total attribute_pair c.self.inside.items)) c.key.ensures in
    let new : Keyed = record { key = c.args.description.key; stored = record { spelling = c.args.description.spelling; values = c.one-values.result } } in
    let kept = still_rises attr_cmp_total attribute_pair c.self.inside.items c.self.invariant c.args.description.key c.find.result at c.in-Err.at c.in-Err.is new refl in
    search rules

pub returns-in-Ok-clause-ok : goal.returns-in-Ok-clause-ok
returns-in-Ok-clause-ok c =
    let at : c.find.result ≡ place attr_cmp c.args.description.key (keys_in attr_cmp_total attribute_pair c.self.inside.items) = c.find.ensures.place ∙ ap (λ k. place attr_cmp k (keys_in attr_cmp_total attribute_pair c.self.inside.items)) c.key.ensures in
    let d : Keyed = record { key = c.args.description.key; stored = record { spelling = []; values = fin.empty } } in
    let old = get_or c.self.inside.items c.in-Ok.at d in
    let item = with_values old (fin.insert old.stored.values c.args.key c.args.bytes) in
    let there_at = found attr_cmp_total attribute_pair attr_cmp_exact c.args.description.key c.self.inside.items c.in-Ok.at in
    let same : item.key ≡ (get_or c.self.inside.items c.in-Ok.at item).key = there_at d (sym at ∙ c.in-Ok.is) ∙ sym (there_at item (sym at ∙ c.in-Ok.is)) in
    let there : fin.get c.args.self.now c.args.description.key ≡ Some old.stored = ap (λ m. fin.get m c.args.description.key) (sym c.self.view_is) ∙ got attr_cmp_total attribute_pair c.self.inside.items c.self.invariant c.args.description.key c.find.result at c.in-Ok.at c.in-Ok.is d in
    let line : KeyedLine = record { description = c.args.description; key = c.args.key; bytes = c.args.bytes } in
    on_ok c.add.result (λ new. ap attributes_in (new d)
    ∙ sym (put_over attr_cmp_total attribute_pair c.self.inside.items c.self.invariant c.args.description.key c.find.result at c.in-Ok.at c.in-Ok.is item same)
    ∙ ap (λ m. fin.insert m c.args.description.key item.stored) c.self.view_is
    ∙ with_value_there c.args.self.now line old.stored item.stored there refl) c.add.ensures.ok

pub returns-in-Ok-clause-free : goal.returns-in-Ok-clause-free
returns-in-Ok-clause-free c =
    let at : c.find.result ≡ place attr_cmp c.args.description.key (keys_in attr_cmp_total attribute_pair c.self.inside.items) = c.find.ensures.place ∙ ap (λ k. place attr_cmp k (keys_in attr_cmp_total attribute_pair c.self.inside.items)) c.key.ensures in
    let d : Keyed = record { key = c.args.description.key; stored = record { spelling = []; values = fin.empty } } in
    let old = get_or c.self.inside.items c.in-Ok.at d in
    let item = with_values old (fin.insert old.stored.values c.args.key c.args.bytes) in
    let there : fin.get c.args.self.now c.args.description.key ≡ Some old.stored = ap (λ m. fin.get m c.args.description.key) (sym c.self.view_is) ∙ got attr_cmp_total attribute_pair c.self.inside.items c.self.invariant c.args.description.key c.find.result at c.in-Ok.at c.in-Ok.is d in
    on_ok c.add.result (λ e. ap (λ o. has_in c.args.key o) there ∙ e d) c.add.ensures.free

pub returns-in-Ok-clause-fault : goal.returns-in-Ok-clause-fault
returns-in-Ok-clause-fault c =
    let at : c.find.result ≡ place attr_cmp c.args.description.key (keys_in attr_cmp_total attribute_pair c.self.inside.items) = c.find.ensures.place ∙ ap (λ k. place attr_cmp k (keys_in attr_cmp_total attribute_pair c.self.inside.items)) c.key.ensures in
    let d : Keyed = record { key = c.args.description.key; stored = record { spelling = []; values = fin.empty } } in
    let old = get_or c.self.inside.items c.in-Ok.at d in
    let item = with_values old (fin.insert old.stored.values c.args.key c.args.bytes) in
    let there : fin.get c.args.self.now c.args.description.key ≡ Some old.stored = ap (λ m. fin.get m c.args.description.key) (sym c.self.view_is) ∙ got attr_cmp_total attribute_pair c.self.inside.items c.self.invariant c.args.description.key c.find.result at c.in-Ok.at c.in-Ok.is d in
    if_err c.add.result (λ e f. subst (IsTwiceFaultOf e) (sym (ap (λ o. has_in c.args.key o) there)) (f d)) c.add.ensures.fault

pub returns-in_ok-insert-in-Err-clause-ok : goal.returns-in_ok-insert-in-Err-clause-ok
returns-in_ok-insert-in-Err-clause-ok c =
    let at : c.find.result ≡ place attr_cmp c.args.description.key (keys_in attr_cmp_total attribute_pair c.self.inside.items) = c.find.ensures.place ∙ ap (λ k. place attr_cmp k (keys_in attr_cmp_total attribute_pair c.self.inside.items)) c.key.ensures in
    let new : Keyed = record { key = c.args.description.key; stored = record { spelling = c.args.description.spelling; values = c.one-values.result } } in
    let line : KeyedLine = record { description = c.args.description; key = c.args.key; bytes = c.args.bytes } in
    let none : fin.get c.args.self.now c.args.description.key ≡ None = ap (λ m. fin.get m c.args.description.key) (sym c.self.view_is) ∙ missing attr_cmp_total attribute_pair c.self.inside.items c.self.invariant c.args.description.key c.find.result at c.in-Err.at c.in-Err.is new.stored in
    ap (λ items. attributes_in items) c.in_ok-insert-in-Err.ensures.ok
    ∙ sym (put attr_cmp_total attribute_pair c.self.inside.items c.self.invariant c.args.description.key c.find.result at c.in-Err.at c.in-Err.is new refl)
    ∙ ap (λ m. fin.insert m c.args.description.key new.stored) c.self.view_is
    ∙ with_value_new c.args.self.now line new.stored none (ap (λ values. record { spelling = c.args.description.spelling; values = values }) c.one-values.ensures)

pub returns-in_ok-insert-in-Err-clause-free : goal.returns-in_ok-insert-in-Err-clause-free
returns-in_ok-insert-in-Err-clause-free c =
    let at : c.find.result ≡ place attr_cmp c.args.description.key (keys_in attr_cmp_total attribute_pair c.self.inside.items) = c.find.ensures.place ∙ ap (λ k. place attr_cmp k (keys_in attr_cmp_total attribute_pair c.self.inside.items)) c.key.ensures in
    ap (λ o. has_in c.args.key o) (ap (λ m. fin.get m c.args.description.key) (sym c.self.view_is) ∙ missing attr_cmp_total attribute_pair c.self.inside.items c.self.invariant c.args.description.key c.find.result at c.in-Err.at c.in-Err.is (record { spelling = []; values = fin.empty }))
