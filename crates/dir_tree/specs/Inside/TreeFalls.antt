-- The nodes below a node are smaller.
use Rattle.std.specs.Prelude.{ℕ, ◌+◌, ◌≤◌, Option, Some, None}
use Rattle.std.proofs.Common.{arith}
use Rattle.std.specs.FinMap as fin
use Rattle.dir_tree.specs.declared.tree.node.Node.{Node}
use Rattle.dir_tree.specs.declared.tree.node.Node.TheDeep.{deep-Node}
use Rattle.dir_tree.specs.declared.tree.node.Node.TheInside.{Inside}
use Rattle.dir_tree.specs.declared.tree.node.Node.TheShapes.{weighed-Node-children-at-1}
use Rattle.dir_tree.specs.Inside.TreeOrder.{AreOrdered, children_are_smaller}
use Rattle.dir_tree.specs.Inside.TreePlaces.{Places, node_map, place_map}

abbrev weight : Option Places → ℕ
weight place = weighed-Node-children-at-1.weight Node (λ m. fin.len m + 1) place

within : (place : Option Places) → weight place ≤ fin.len (place_map place) + 1
within None = omega arith
within (Some m) = omega arith

pub children_fall : (n : Inside) → AreOrdered n.children.entries → deep-Node n ≤ fin.len (node_map n.entry n.children.entries)
children_fall n ordered = let least = children_are_smaller weight within n.entry n.children.entries ordered in omega (arith, least)
