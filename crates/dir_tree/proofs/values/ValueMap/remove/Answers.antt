use Rattle.std.proofs.Common.{[], sym, ap, ◌∙◌, Some}
use Rattle.std.specs.FinMap as fin
use Rattle.dir_names.specs.Sorted.{place}
use Rattle.dir_names.specs.Values.{value_key_cmp, value_key_cmp_total, value_key_cmp_exact}
use Rattle.dir_tree.specs.Inside.Stored.{are_rising, value_pair, values_in}
use Rattle.dir_tree.proofs.SortedVecs.{gone, got, keys_in, missing, none_gone, rises_gone}
use Rattle.dir_tree.proofs.values.ValueMap.remove.Goals as goal

pub invariant_of-self : goal.invariant_of-self
invariant_of-self c =
    let at = c.find.ensures.place ∙ ap (λ k. place value_key_cmp k (keys_in value_key_cmp_total value_pair c.self.inside.items)) c.of.ensures in
    ap (λ items. are_rising items) c.remove.ensures.rest ∙ rises_gone value_key_cmp_total value_pair c.self.inside.items c.self.invariant c.args.key.now c.find.result at c.in-Ok.at c.in-Ok.is

pub returns-in-Ok-clause-value : goal.returns-in-Ok-clause-value
returns-in-Ok-clause-value c =
    let at = c.find.ensures.place ∙ ap (λ k. place value_key_cmp k (keys_in value_key_cmp_total value_pair c.self.inside.items)) c.of.ensures in
    ap Some (c.into_bytes.ensures ∙ ap (λ value. value.1) c.remove.ensures.value)
    ∙ sym (ap (λ m. fin.get m c.args.key.now) (sym c.self.view_is) ∙ got value_key_cmp_total value_pair c.self.inside.items c.self.invariant c.args.key.now c.find.result at c.in-Ok.at c.in-Ok.is c.remove.result)

pub returns-in-Ok-clause-rest : goal.returns-in-Ok-clause-rest
returns-in-Ok-clause-rest c =
    let at = c.find.ensures.place ∙ ap (λ k. place value_key_cmp k (keys_in value_key_cmp_total value_pair c.self.inside.items)) c.of.ensures in
    ap (λ items. values_in items) c.remove.ensures.rest
    ∙ sym (gone value_key_cmp_total value_pair c.self.inside.items c.self.invariant c.args.key.now c.find.result at c.in-Ok.at value_key_cmp_exact c.in-Ok.is)
    ∙ ap (λ m. fin.remove m c.args.key.now) c.self.view_is

pub returns-in-Err-clause-value : goal.returns-in-Err-clause-value
returns-in-Err-clause-value c =
    let at = c.find.ensures.place ∙ ap (λ k. place value_key_cmp k (keys_in value_key_cmp_total value_pair c.self.inside.items)) c.of.ensures in
    sym (ap (λ m. fin.get m c.args.key.now) (sym c.self.view_is) ∙ missing value_key_cmp_total value_pair c.self.inside.items c.self.invariant c.args.key.now c.find.result at c.in-Err.field-0 c.in-Err.is [])

pub returns-in-Err-clause-rest : goal.returns-in-Err-clause-rest
returns-in-Err-clause-rest c =
    let at = c.find.ensures.place ∙ ap (λ k. place value_key_cmp k (keys_in value_key_cmp_total value_pair c.self.inside.items)) c.of.ensures in
    sym c.self.view_is
    ∙ sym (none_gone value_key_cmp_total value_pair c.self.inside.items c.self.invariant c.args.key.now c.find.result at c.in-Err.field-0 value_key_cmp_exact c.in-Err.is)
    ∙ ap (λ m. fin.remove m c.args.key.now) c.self.view_is
