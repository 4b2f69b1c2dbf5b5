use Rattle.std.proofs.Common.{◌≡◌, ℕ, ◌+◌, ◌≤◌, ◌⊎◌, true, ◌∷◌, is_some, length}
use Rattle.std.specs.FinMap as fin
use Rattle.std.specs.FinMap.{find}
use Rattle.dir_names.specs.Keys.{DnKeys, RdnKeys}
use Rattle.dir_names.specs.Orders.{rdn_key_cmp}
use Rattle.dir_tree.specs.WellFormed.{Each}
use Rattle.dir_tree.specs.Inside.TreePlaces.{entry_on}
use Rattle.dir_tree.proofs.TreeChildren.{IsChildOf}
use Rattle.dir_tree.proofs.tree.node.Node.+height.Given as goal

abbrev pub invariant-loop-place : goal.invariant-loop-place
invariant-loop-place l = record {
  reaches : (x : RdnKeys) (path : DnKeys) → is_some (entry_on l.self (x ∷ path)) ≡ true → (length path + 1 ≤ l.height) ⊎ (is_some (find rdn_key_cmp x l.place-iterator) ≡ true);
  least : (n : ℕ) → ((path : DnKeys) → is_some (entry_on l.self path) ≡ true → length path ≤ n) → l.height ≤ n;
  each : Each (IsChildOf l.self) l.place-iterator;
}

abbrev pub decreases-height : goal.decreases-height
decreases-height l = fin.len l.self.now
