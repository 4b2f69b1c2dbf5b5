use Rattle.std.proofs.Common.{Err, IfOk, Ok, Result, ap, map, take, ◌∙◌, arith}
use Rattle.std.proofs.lemmas.Grind.{common_steps}
use Rattle.dir_ldif.specs.declared.records.Mod.{Mod}
use Rattle.dir_names.specs.Orders.{attr_cmp}
use Rattle.dir_names.specs.Sorted.{rises, set_of}
use Rattle.dir_change.proofs.DistinctKeys.{same_set}
use Rattle.dir_change.proofs.KeysInOrder.{set_rises}
use Rattle.dir_change.proofs.difference.named_keys.Goals as goal

if_ok : {A E : Type 0} {P Q : A → Type 0} → (r : Result A E) → ((x : A) → P x → Q x) → IfOk r P → IfOk r Q
if_ok (Ok x) f p = f x p
if_ok (Err e) f p = p

pub insert_key-requires : goal.insert_key-requires
insert_key-requires c = ap (rises attr_cmp) c.loop-m.invariant ∙ set_rises (map (λ (m : Mod). m.description.key) (take c.loop-m.m-index c.args.mods.now))

pub returns-then-mods-gt-MOST_UNSORTED_MODS-clause-ok : goal.returns-then-mods-gt-MOST_UNSORTED_MODS-clause-ok
returns-then-mods-gt-MOST_UNSORTED_MODS-clause-ok c =
    if_ok c.distinct_keys.result (λ keys distinct. distinct ∙ ap (set_of attr_cmp) c.as_slice.ensures.value ∙ same_set _ _ c.in_ok-sorted_keys.ensures.ok) c.distinct_keys.ensures.ok

pub loop-m-preserved : goal.loop-m-preserved
loop-m-preserved c = grind (arith, common_steps)

pub returns-clause-ok : goal.returns-clause-ok
returns-clause-ok c = grind (arith, common_steps)
