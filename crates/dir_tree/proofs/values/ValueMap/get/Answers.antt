use Rattle.std.proofs.Common.{◌≡◌, [], sym, ap, ◌∙◌, Some, get_or}
use Rattle.std.specs.FinMap as fin
use Rattle.dir_names.specs.Sorted.{place}
use Rattle.dir_names.specs.Values.{value_key_cmp, value_key_cmp_total}
use Rattle.dir_tree.specs.Inside.Stored.{value_pair}
use Rattle.dir_tree.proofs.SortedVecs.{got, keys_in, missing}
use Rattle.dir_tree.proofs.values.ValueMap.get.Goals as goal

pub returns-in-Ok : goal.returns-in-Ok
returns-in-Ok c =
    let at = c.find.ensures.place ∙ ap (λ k. place value_key_cmp k (keys_in value_key_cmp_total value_pair c.self.inside.items)) c.of.ensures in
    let found = c.get.result.now in
    let here : found ≡ get_or c.self.inside.items c.in-Ok.at found = c.get.ensures in
    let there = got value_key_cmp_total value_pair c.self.inside.items c.self.invariant c.args.key.now c.find.result at c.in-Ok.at c.in-Ok.is found in
    sym (ap (λ m. fin.get m c.args.key.now) (sym c.self.view_is) ∙ there ∙ ap (λ value. Some value.1) (sym here) ∙ ap Some (sym c.bytes.ensures))

pub returns-in-Err : goal.returns-in-Err
returns-in-Err c =
    let at = c.find.ensures.place ∙ ap (λ k. place value_key_cmp k (keys_in value_key_cmp_total value_pair c.self.inside.items)) c.of.ensures in
    sym (ap (λ m. fin.get m c.args.key.now) (sym c.self.view_is) ∙ missing value_key_cmp_total value_pair c.self.inside.items c.self.invariant c.args.key.now c.find.result at c.in-Err.field-0 c.in-Err.is [])
