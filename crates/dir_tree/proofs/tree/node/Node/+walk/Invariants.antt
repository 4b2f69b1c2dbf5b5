use Rattle.std.proofs.Common.{◌≡◌, ◌++◌, map}
use Rattle.std.specs.FinMap as fin
use Rattle.dir_tree.specs.WellFormed.{Each}
use Rattle.dir_tree.specs.Inside.TreeNames.{named_places}
use Rattle.dir_tree.proofs.TreeChildren.{IsChildOf}
use Rattle.dir_tree.proofs.TreeNames.{named_children}
use Rattle.dir_tree.proofs.tree.node.Node.+walk.Given as goal

abbrev pub invariant-loop-place : goal.invariant-loop-place
invariant-loop-place l = record {
  so_far : map (λ item. (item.0, item.1.now)) l.walk.items ++ named_children l.name.items l.place-iterator ≡ map (λ item. (item.0, item.1.now)) l.fn.walk.items ++ named_places l.self l.depth l.above;
  each : Each (IsChildOf l.self) l.place-iterator;
}

abbrev pub decreases-walk : goal.decreases-walk
decreases-walk l = fin.len l.self.now
