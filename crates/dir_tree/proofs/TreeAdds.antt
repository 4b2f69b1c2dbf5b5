-- An entry that is added to a tree of nodes, as one that is added to its directory.
use Rattle.std.proofs.Common.{◌≡◌, Bool, true, false, ◌||◌, ◌∷◌, ◌++◌, ◌≤◌, length, IfErr, Result, Ok, Err, OnErr, OnOk, Option, Some, None, is_some, refl, sym, ap, subst, ◌∙◌, true≢false}
use Rattle.std.specs.FinMap as fin
use Rattle.dir_names.specs.Keys.{DnKeys, RdnKeys, parent_of}
use Rattle.dir_names.specs.Orders.{dn_key_eq, dn_key_eq_decides}
use Rattle.dir_tree.specs.Added.{IsNotAdded}
use Rattle.dir_tree.specs.Content.{Content}
use Rattle.dir_tree.specs.Dir.{IsClosed, entry_at, has_parent, is_there, put_entry}
use Rattle.dir_tree.specs.Moves.{rest_below}
use Rattle.dir_tree.specs.declared.directory.NotAdded.{NotAdded}
use Rattle.dir_tree.specs.declared.directory.NotAdded.TheVariants.{Taken, NoParent, Memory}
use Rattle.dir_tree.specs.Inside.TreeAdds.{IsNotAddedOn, leaf_places, path_above}
use Rattle.dir_tree.specs.Inside.TreePlaces.{IsGraft, Places, entry_on}
use Rattle.dir_tree.specs.Inside.Trees.{IsTree, tree_dir}
use Rattle.dir_tree.proofs.RestBelow.{rest_is, rest_of}
use Rattle.dir_tree.proofs.TreeDirs.{entry_of, get_tree}
use Rattle.dir_tree.proofs.TreeWrites.{Spot, on_path, parent_at, parent_below, parent_there, spot_entry, spot_grown, spot_key, tree_grown}

pub if_err : {A E : Type 0} {P Q : E → Type 0} (r : Result A E) → ((e : E) → P e → Q e) → IfErr r P → IfErr r Q
if_err (Ok x) f h = h
if_err (Err e) f h = f e h

not_true : (b : Bool) → (b ≡ true → ⊥) → b ≡ false
not_true true h = absurd (h refl)
not_true false h = refl

or_right : (a b : Bool) → b ≡ true → (a || b) ≡ true
or_right true b h = refl
or_right false b h = h

or_left : (a b : Bool) → a ≡ true → (a || b) ≡ true
or_left true b h = refl
or_left false b h = absurd (true≢false (sym h))

-- the suffix has the place of one that has a parent
pub suffix_has : (s : DnKeys) (root : Option Places) (k : DnKeys) → k ≡ s → has_parent (tree_dir s root) k ≡ true
suffix_has s root k same = or_left (dn_key_eq k s) (is_there (tree_dir s root) (parent_of k)) ((dn_key_eq_decides k s).1 same)

-- nothing has its place outside of the suffix
pub none_outside : (s : DnKeys) (root : Option Places) (k : DnKeys) → IsClosed (tree_dir s root) → rest_below s k ≡ None → (entry_at (tree_dir s root) k ≡ None) × (has_parent (tree_dir s root) k ≡ false)
none_outside s root k closed out = (
  get_tree s root k ∙ ap (entry_of root) out,
  not_true (has_parent (tree_dir s root) k) (λ up. true≢false (sym (parent_below s root k closed up) ∙ ap is_some out)),
)

none_rooted : (o : Option DnKeys) → entry_of None o ≡ None
none_rooted None = refl
none_rooted (Some path) = refl

-- nothing is in a tree without a root
pub none_at : (s : DnKeys) (root : Option Places) → root ≡ None → (k : DnKeys) → entry_at (tree_dir s root) k ≡ None
none_at s root none k = get_tree s root k ∙ ap (λ root. entry_of root (rest_below s k)) none ∙ none_rooted (rest_below s k)

pub none_above : (s : DnKeys) (root : Option Places) → IsClosed (tree_dir s root) → root ≡ None → (k : DnKeys) (first : RdnKeys) (rest : DnKeys) → Some (first ∷ rest) ≡ rest_below s k → has_parent (tree_dir s root) k ≡ false
none_above s root closed none k first rest is =
    not_true (has_parent (tree_dir s root) k) (λ up.
    true≢false
    (sym (parent_there s root first rest closed (subst (λ k. has_parent (tree_dir s root) k ≡ true) (rest_is s k (first ∷ rest) (sym is)) up))
    ∙ ap is_some (none_at s root none (s ++ path_above first rest))))

module _ (s : DnKeys) (root : Option Places) (closed : IsClosed (tree_dir s root)) (k : DnKeys) (m : Places) (first : RdnKeys) (rest : DnKeys) (spot : Spot s root k m (first ∷ rest)) where
  above_on : entry_at (tree_dir s root) (s ++ path_above first rest) ≡ entry_on m (path_above first rest)
  above_on = on_path s root m spot.root_is (s ++ path_above first rest) (path_above first rest) (sym (rest_of s (path_above first rest)))

  key_is : k ≡ s ++ first ∷ rest
  key_is = spot_key s root k m (first ∷ rest) spot

  pub parent_on : is_some (entry_on m (path_above first rest)) ≡ true → has_parent (tree_dir s root) k ≡ true
  parent_on there =
      subst (λ k. has_parent (tree_dir s root) k ≡ true) (sym key_is)
      (or_right (dn_key_eq (s ++ first ∷ rest) s) (is_there (tree_dir s root) (parent_of (s ++ first ∷ rest))) (ap (is_there (tree_dir s root)) (parent_at s root first rest closed) ∙ ap is_some above_on ∙ there))

  no_parent_on : entry_on m (path_above first rest) ≡ None → has_parent (tree_dir s root) k ≡ false
  no_parent_on none =
      not_true (has_parent (tree_dir s root) k) (λ up.
      true≢false
      (sym (parent_there s root first rest closed (subst (λ k. has_parent (tree_dir s root) k ≡ true) key_is up)) ∙ ap is_some (above_on ∙ none)))

  -- why it was not added
  pub cause_on : (e : Content) (cause : NotAdded) → IsNotAddedOn m first rest e cause → IsNotAdded (tree_dir s root) k e cause
  cause_on e Taken h = ap is_some (spot_entry s root k m (first ∷ rest) spot) ∙ h
  cause_on e (NoParent back) h = (h.0, spot_entry s root k m (first ∷ rest) spot ∙ h.1, no_parent_on h.2)
  cause_on e Memory h = tt

  -- what the call leaves
  module _ (tree : IsTree s root) (e : Content) (after : Places) where
    pub added_tree : {A : Type 0} (r : Result A NotAdded) → OnOk r (IsGraft m (first ∷ rest) (fin.get (leaf_places e)) after) → OnOk r (entry_on m (first ∷ rest) ≡ None) → OnOk r (is_some (entry_on m (path_above first rest)) ≡ true)
        → OnErr r (after ≡ m) → length k ≤ 64 → IsTree s (Some after)
    added_tree (Ok x) grown free parent same short =
        tree_grown s root k m (first ∷ rest) spot tree after (leaf_places e) e refl grown (spot_entry s root k m (first ∷ rest) spot ∙ free) (parent_on parent) short
    added_tree (Err x) grown free parent same short = subst (IsTree s) (spot.root_is ∙ ap (λ m. Some m) (sym same)) tree

    pub added_put : {A : Type 0} (r : Result A NotAdded) → OnOk r (IsGraft m (first ∷ rest) (fin.get (leaf_places e)) after) → OnOk r (entry_on m (first ∷ rest) ≡ None) → OnOk r (tree_dir s (Some after) ≡ put_entry (tree_dir s root) k e)
    added_put (Ok x) grown free = spot_grown s root k m (first ∷ rest) spot tree after (leaf_places e) e refl grown (spot_entry s root k m (first ∷ rest) spot ∙ free)
    added_put (Err x) grown free = tt

  pub added_free : {A : Type 0} (r : Result A NotAdded) → OnOk r (entry_on m (first ∷ rest) ≡ None) → OnOk r (entry_at (tree_dir s root) k ≡ None)
  added_free (Ok x) free = spot_entry s root k m (first ∷ rest) spot ∙ free
  added_free (Err x) free = tt

  pub added_parent : {A : Type 0} (r : Result A NotAdded) → OnOk r (is_some (entry_on m (path_above first rest)) ≡ true) → OnOk r (has_parent (tree_dir s root) k ≡ true)
  added_parent (Ok x) parent = parent_on parent
  added_parent (Err x) parent = tt

  pub added_same : {A : Type 0} (after : Places) (r : Result A NotAdded) → OnErr r (after ≡ m) → OnErr r (tree_dir s (Some after) ≡ tree_dir s root)
  added_same after (Ok x) same = tt
  added_same after (Err x) same = ap (tree_dir s) (ap (λ m. Some m) same ∙ sym spot.root_is)
