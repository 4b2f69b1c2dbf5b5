use Rattle.std.proofs.Common.{ℕ, List, [], cond, get_or, is_some, sym, ap, ◌∙◌}
use Rattle.std.specs.FinMap as fin
use Rattle.dir_names.specs.Sorted.{place}
use Rattle.dir_names.specs.Values.{value_key_cmp, value_key_cmp_total, value_key_cmp_exact}
use Rattle.dir_names.specs.declared.value.ValueKey.{ValueKey}
use Rattle.dir_tree.specs.Inside.Stored.{are_rising, value_pair, values_in}
use Rattle.dir_tree.proofs.SortedVecs.{found, got, keys_in, missing, put_over, rises_over}
use Rattle.dir_tree.proofs.values.ValueMap.set.Goals as goal

pub invariant_of-self : goal.invariant_of-self
invariant_of-self c =
    let at = c.find.ensures.place ∙ ap (λ k. place value_key_cmp k (keys_in value_key_cmp_total value_pair c.self.inside.items)) c.of.ensures in
    let given : ValueKey × List ℕ = (c.args.key.now, c.args.bytes) in
    let item : ValueKey × List ℕ = ((get_or c.self.inside.items c.in-Ok.at given).0, c.args.bytes) in
    let same = found value_key_cmp_total value_pair value_key_cmp_exact c.args.key.now c.self.inside.items c.in-Ok.at given (sym at ∙ c.in-Ok.is) ∙ sym (found value_key_cmp_total value_pair value_key_cmp_exact c.args.key.now c.self.inside.items c.in-Ok.at item (sym at ∙ c.in-Ok.is)) in
    ap are_rising (c.set_bytes.ensures given)
    ∙ rises_over value_key_cmp_total value_pair c.self.inside.items c.self.invariant c.args.key.now c.find.result at c.in-Ok.at c.in-Ok.is item same

pub returns-in-Ok : goal.returns-in-Ok
returns-in-Ok c =
    let at = c.find.ensures.place ∙ ap (λ k. place value_key_cmp k (keys_in value_key_cmp_total value_pair c.self.inside.items)) c.of.ensures in
    let given : ValueKey × List ℕ = (c.args.key.now, c.args.bytes) in
    let item : ValueKey × List ℕ = ((get_or c.self.inside.items c.in-Ok.at given).0, c.args.bytes) in
    let same = found value_key_cmp_total value_pair value_key_cmp_exact c.args.key.now c.self.inside.items c.in-Ok.at given (sym at ∙ c.in-Ok.is) ∙ sym (found value_key_cmp_total value_pair value_key_cmp_exact c.args.key.now c.self.inside.items c.in-Ok.at item (sym at ∙ c.in-Ok.is)) in
    let old = ap (λ m. fin.get m c.args.key.now) (sym c.self.view_is) ∙ got value_key_cmp_total value_pair c.self.inside.items c.self.invariant c.args.key.now c.find.result at c.in-Ok.at c.in-Ok.is given in
    ap values_in (c.set_bytes.ensures given)
    ∙ sym (put_over value_key_cmp_total value_pair c.self.inside.items c.self.invariant c.args.key.now c.find.result at c.in-Ok.at c.in-Ok.is item same)
    ∙ ap (λ m. fin.insert m c.args.key.now c.args.bytes) c.self.view_is
    ∙ sym (ap (λ o. cond (is_some o) (fin.insert c.args.self.now c.args.key.now c.args.bytes) c.args.self.now) old)

pub returns-in_default : goal.returns-in_default
returns-in_default c =
    let at = c.find.ensures.place ∙ ap (λ k. place value_key_cmp k (keys_in value_key_cmp_total value_pair c.self.inside.items)) c.of.ensures in
    let none = ap (λ m. fin.get m c.args.key.now) (sym c.self.view_is) ∙ missing value_key_cmp_total value_pair c.self.inside.items c.self.invariant c.args.key.now c.find.result at c.in_default.field-0 c.in_default.is [] in
    sym (ap (λ o. cond (is_some o) (fin.insert c.args.self.now c.args.key.now c.args.bytes) c.args.self.now) none)
