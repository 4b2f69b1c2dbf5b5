use Rattle.std.proofs.Common.{◌≡◌, [], ◌∷◌, ◌++◌, length, sym, ap, subst, ◌∙◌, rules}
use Rattle.dir_tree.specs.Inside.Patterns.{HasEach}
use Rattle.dir_tree.proofs.EachLine.{each_none, each_more, each_kept}
use Rattle.dir_tree.proofs.packed.pattern.order_of.Goals as goal

pub loop-at-init : goal.loop-at-init
loop-at-init c =
    let none : c.in_ok-order.order.items ≡ [] = search rules in
    (ap length none, subst HasEach (sym none) each_none)

pub loop-at-preserved : goal.loop-at-preserved
loop-at-preserved c =
    let number : c.in_ok-ok.field-0 ≡ c.loop-at.at = search rules in
    let items : c.push.new.self.items ≡ c.loop-at.order.items ++ c.loop-at.at ∷ [] = search rules in
    let more = each_more c.loop-at.order.items c.loop-at.at c.loop-at.invariant.0 c.loop-at.invariant.1 in
    (ap length items ∙ more.0, subst HasEach (sym items) more.1)

pub returns : goal.returns
returns c = each_kept c.loop-at.order.items c.sort_by.new.self.items c.sort_by.ensures.permutation c.loop-at.invariant.1
