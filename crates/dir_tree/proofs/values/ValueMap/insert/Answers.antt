use Rattle.std.proofs.Common.{[], refl, sym, ap, ◌∙◌, is_some, rules}
use Rattle.std.specs.FinMap as fin
use Rattle.std.specs.List.{insert}
use Rattle.dir_names.specs.Sorted.{place}
use Rattle.dir_names.specs.Values.{value_key_cmp, value_key_cmp_total}
use Rattle.dir_tree.specs.Inside.Stored.{value_pair, values_in}
use Rattle.dir_tree.proofs.SortedVecs.{got, keys_in, missing, put, still_rises}
use Rattle.dir_tree.proofs.values.ValueMap.insert.Goals as goal

pub invariant_of-self-in-Err : goal.invariant_of-self-in-Err
invariant_of-self-in-Err c =
    let at = c.place_for.ensures.place ∙ ap (λ k. place value_key_cmp k (keys_in value_key_cmp_total value_pair c.self.inside.items)) c.of.ensures in
    let kept = still_rises value_key_cmp_total value_pair c.self.inside.items c.self.invariant c.args.key c.place_for.result at c.in-Err.at c.in-Err.is (c.args.key, c.args.bytes) refl in
    search rules

pub returns-in-Ok-clause-fault : goal.returns-in-Ok-clause-fault
returns-in-Ok-clause-fault c =
    let at = c.place_for.ensures.place ∙ ap (λ k. place value_key_cmp k (keys_in value_key_cmp_total value_pair c.self.inside.items)) c.of.ensures in
    ap (λ m. is_some (fin.get m c.args.key)) (sym c.self.view_is) ∙ ap is_some (got value_key_cmp_total value_pair c.self.inside.items c.self.invariant c.args.key c.place_for.result at c.in-Ok.field-0 c.in-Ok.is (c.args.key, c.args.bytes))

pub returns-in_ok-insert-in-Err-clause-ok : goal.returns-in_ok-insert-in-Err-clause-ok
returns-in_ok-insert-in-Err-clause-ok c =
    let at = c.place_for.ensures.place ∙ ap (λ k. place value_key_cmp k (keys_in value_key_cmp_total value_pair c.self.inside.items)) c.of.ensures in
    ap (λ items. values_in items) c.in_ok-insert-in-Err.ensures.ok
    ∙ ap (λ value. values_in (insert c.self.inside.items c.in-Err.at value)) c.new.ensures
    ∙ sym (put value_key_cmp_total value_pair c.self.inside.items c.self.invariant c.args.key c.place_for.result at c.in-Err.at c.in-Err.is (c.args.key, c.args.bytes) refl)
    ∙ ap (λ m. fin.insert m c.args.key c.args.bytes) c.self.view_is

pub returns-in_ok-insert-in-Err-clause-free : goal.returns-in_ok-insert-in-Err-clause-free
returns-in_ok-insert-in-Err-clause-free c =
    let at = c.place_for.ensures.place ∙ ap (λ k. place value_key_cmp k (keys_in value_key_cmp_total value_pair c.self.inside.items)) c.of.ensures in
    ap (λ m. is_some (fin.get m c.args.key)) (sym c.self.view_is) ∙ ap is_some (missing value_key_cmp_total value_pair c.self.inside.items c.self.invariant c.args.key c.place_for.result at c.in-Err.at c.in-Err.is [])
