use Rattle.std.proofs.Common.{◌≡◌, Some, true, false, subst, sym, ap, ◌∙◌, rules}
use Rattle.std.specs.FinMap as fin
use Rattle.std.proofs.lemmas.Result.{IfOk-weaker}
use Rattle.dir_tree.specs.Lent.{lent_key}
use Rattle.dir_tree.specs.Content.{Keyed, Stored, StoredValues}
use Rattle.dir_change.specs.Inside.Looked.{LooksAt, all_name_values, all_named, is_free, with_each}
use Rattle.dir_change.proofs.LookedParts.{only, looks_at_all, looks_at_part}
use Rattle.dir_change.proofs.looked.looked_part.Goals as goal

pub returns-in-Some-clause-looks : goal.returns-in-Some-clause-looks
returns-in-Some-clause-looks c =
    let rows = c.args.schema.now in
    let own = c.args.own.now in
    let mods = c.args.mods.now in
    let k = c.args.attribute.now.key in
    let a = c.args.attribute.now.stored in
    let one = lent_key c.in-Some.one in
    let bytes = c.in-Some.bytes.now in
    let same : c.key-key.result.now ≡ k = search rules in
    let named : c.in_ok-named.named ≡ all_named rows k fin.empty mods = c.in_ok-named.ensures.ok ∙ ap (λ z. all_named rows z fin.empty mods) same in
    let there : fin.get a.values one ≡ Some bytes = c.in-Some.ensures.there in
    let other : fin.contains_key (all_named rows k fin.empty mods) one ≡ false = ap (λ (m : StoredValues). fin.contains_key m one) (sym named) ∙ c.in-Some.ensures.other in
    let free : is_free rows own k ≡ true = search rules in
    let name : all_name_values k mods ≡ true = search rules in
    let looks = looks_at_part rows own mods k a one bytes there other free name in
    IfOk-weaker c.part_with.result _ _ (λ part is. subst (λ (b : Stored). LooksAt rows own mods k (Some a) (Some b)) ((λ i. record { spelling = a.spelling; values = with_each a.values (only one bytes) (fin.entries (sym named i)) }) ∙ sym (ap (λ (p : Keyed). p.stored) is)) looks) c.part_with.ensures.ok

pub returns-clause-looks : goal.returns-clause-looks
returns-clause-looks c =
    let a = c.args.attribute.now in
    let same : a.stored ≡ c.in_ok-to_attribute.field-0.stored = search rules in
    subst (λ b. LooksAt c.args.schema.now c.args.own.now c.args.mods.now a.key (Some a.stored) (Some b)) same (looks_at_all c.args.schema.now c.args.own.now c.args.mods.now a.key (Some a.stored))
