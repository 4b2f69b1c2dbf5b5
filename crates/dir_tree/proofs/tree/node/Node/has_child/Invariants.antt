use Rattle.std.proofs.Common.{◌≡◌, true, [], ◌∷◌, is_some}
use Rattle.std.specs.FinMap.{find}
use Rattle.dir_names.specs.Keys.{RdnKeys}
use Rattle.dir_names.specs.Orders.{rdn_key_cmp}
use Rattle.dir_tree.specs.WellFormed.{Each}
use Rattle.dir_tree.specs.Inside.TreePlaces.{entry_on}
use Rattle.dir_tree.proofs.TreeChildren.{IsChildOf}
use Rattle.dir_tree.proofs.tree.node.Node.has_child.Given as goal

abbrev pub invariant-loop-place : goal.invariant-loop-place
invariant-loop-place l = record {
  listed : (x : RdnKeys) → is_some (entry_on l.self (x ∷ [])) ≡ true → is_some (find rdn_key_cmp x l.place-iterator) ≡ true;
  each : Each (IsChildOf l.self) l.place-iterator;
}
