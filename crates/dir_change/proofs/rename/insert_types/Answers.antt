use Rattle.std.proofs.Common.{◌≡◌, suc, ◌+◌, ◌∷◌, fold, drop, sym, ap, ◌∙◌, arith}
use Rattle.std.proofs.Math.Seq.{drop-cons}
use Rattle.dir_names.specs.Orders.{attr_cmp}
use Rattle.dir_names.specs.Sorted.{rises, with_member}
use Rattle.dir_change.specs.Inside.Touched.{types_of}
use Rattle.dir_change.proofs.KeysInOrder.{member_rises}
use Rattle.dir_change.proofs.rename.insert_types.Goals as goal

pub loop-pair-preserved : goal.loop-pair-preserved
loop-pair-preserved c =
    let pairs = c.pairs-pair-items.result.now in
    let i = c.loop-pair.pair-index in
    let p = c.pair-item.result in
    let types = c.loop-pair.types.items in
    let on : suc i ≡ i + 1 = omega arith in
    let left : drop i pairs ≡ p ∷ drop (i + 1) pairs = drop-cons pairs i p c.loop-pair-test.true ∙ (λ j. sym c.pair-item.is j ∷ drop (on j) pairs) in
    let more = c.in_ok-insert_key.ensures.ok in
    record {
      rises = ap (rises attr_cmp) more ∙ member_rises p.0 types c.loop-pair.invariant.rises;
      so_far =
          c.loop-pair.invariant.so_far
          ∙ ap (λ ps. fold (λ set k. with_member attr_cmp k set) types (types_of ps)) left
          ∙ ap (λ items. fold (λ set k. with_member attr_cmp k set) items (types_of (drop (i + 1) pairs))) (sym more);
    }
