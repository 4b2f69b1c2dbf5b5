-- A subtree that moves in a tree of nodes, as a move in its directory.
use Rattle.std.proofs.Common.{◌≡◌, ◌+◌, ◌≤◌, Bool, true, false, cond, inl, inr, [], ◌∷◌, ◌++◌, length, take, Option, Some, None, is_some, refl, sym, ap, subst, ◌∙◌, append_assoc, true≢false}
use Rattle.std.specs.Ordering.{eq_by_cmp}
use Rattle.std.specs.FinMap as fin
use Rattle.dir_names.specs.Keys.{DnKeys, RdnKeys}
use Rattle.dir_names.specs.Orders.{dn_key_cmp}
use Rattle.dir_tree.specs.Content.{Content}
use Rattle.dir_tree.specs.Dir.{Dir, IsClosed, entry_at, put_entry}
use Rattle.dir_tree.specs.Moves.{IsShallow, MayMoveTo, height_below, move_subtree, rest_below}
use Rattle.dir_tree.specs.Inside.TreePlaces.{IsMove, Places, entry_in, entry_on, moved_place}
use Rattle.dir_tree.specs.Inside.Trees.{IsTree, tree_dir}
use Rattle.dir_tree.proofs.DirLemmas.{get_put}
use Rattle.dir_tree.proofs.MoveLemmas.{IsClear, Place, clear_place, closed_moved, get_moved, shallow_moved, was_at}
use Rattle.dir_tree.proofs.RestBelow.{rest_is}
use Rattle.dir_tree.proofs.TreeDirs.{entry_of, get_path, get_tree, same_tree}
use Rattle.dir_tree.proofs.TreeWrites.{inner, long_path, no_entry, none_below_free, not_both, other_test, parent_at, rest_outside, rest_under, same_test}

-- a move to the same key is a put
pub move_same : (d : Dir) (k : DnKeys) (e : Content) → put_entry d k e ≡ move_subtree d k k e
move_same d k e = same_tree (put_entry d k e) (move_subtree d k k e) refl (λ q. get_put d k e q ∙ ap (cond (eq_by_cmp dn_key_cmp q k) (Some e)) (by q (rest_below k q) refl) ∙ sym (get_moved d k k (λ x there below. below) e q))
  where
    by : (q : DnKeys) (o : Option DnKeys) → rest_below k q ≡ o → entry_at d q ≡ was_at d k q o
    by q None t = ap (λ o. cond (is_some o) None (entry_at d q)) (sym t)
    by q (Some r) t = ap (entry_at d) (rest_is k q r t)

-- the conditions of a move between two paths of a root's map
pub record Moving (s : DnKeys) (m : Places) (p new : DnKeys) : Type 0 where
  pub tree : IsTree s (Some m)
  pub at : Place (tree_dir s (Some m)) (s ++ p) (s ++ new)
  pub other : s ++ p ≡ s ++ new → ⊥
  pub fits : length (s ++ new) + height_below (tree_dir s (Some m)) (s ++ p) ≤ 64

pub moving : (s : DnKeys) (root : Option Places) (m : Places) → root ≡ Some m → IsTree s root → (k l p new : DnKeys) → k ≡ s ++ p → l ≡ s ++ new → Place (tree_dir s root) k l → (k ≡ l → ⊥) → length l + height_below (tree_dir s root) k ≤ 64 → Moving s m p new
moving s root m root_is tree k l p new k_is l_is at other fits = record {
  tree = subst (IsTree s) root_is tree;
  at = subst (λ root. Place (tree_dir s root) (s ++ p) (s ++ new)) root_is (subst (λ l. Place (tree_dir s root) (s ++ p) l) l_is (subst (λ k. Place (tree_dir s root) k l) k_is at));
  other = λ same. other (k_is ∙ same ∙ sym l_is);
  fits = subst (λ root. length (s ++ new) + height_below (tree_dir s root) (s ++ p) ≤ 64) root_is (subst (λ l. length l + height_below (tree_dir s root) (s ++ p) ≤ 64) l_is (subst (λ k. length l + height_below (tree_dir s root) k ≤ 64) k_is fits));
}

module _ (s : DnKeys) (m : Places) (p new : DnKeys) (h : Moving s m p new) where
  free_there : (entry_at (tree_dir s (Some m)) (s ++ new) ≡ None) × (rest_below (s ++ p) (s ++ new) ≡ None)
  free_there = by h.at.place
    where
      by : MayMoveTo (tree_dir s (Some m)) (s ++ p) (s ++ new) → (entry_at (tree_dir s (Some m)) (s ++ new) ≡ None) × (rest_below (s ++ p) (s ++ new) ≡ None)
      by (inl same) = absurd (h.other (sym same))
      by (inr free) = free

  pub move_there : is_some (entry_on m p) ≡ true
  move_there = ap is_some (sym (get_path s m p)) ∙ h.at.there

  pub move_free : fin.get m new ≡ None
  move_free = by (fin.get m new) refl
    where
      by : (o : Option (Option Content)) → fin.get m new ≡ o → o ≡ None
      by None t = refl
      by (Some None) t = absurd (h.tree.filled new t)
      by (Some (Some e)) t = absurd (not_both (sym free_there.0 ∙ get_path s m new ∙ ap entry_in t))

  pub move_outside : rest_below p new ≡ None
  move_outside = sym (rest_under s p new) ∙ free_there.1

  pub move_apart : rest_below new p ≡ None
  move_apart = no_entry (rest_below new p) (λ there. by (rest_below new p) refl there)
    where
      by : (o : Option DnKeys) → rest_below new p ≡ o → is_some o ≡ true → ⊥
      by None t there = true≢false (sym there)
      by (Some r) t there =
          true≢false (
          sym h.at.there ∙ ap (λ z. is_some (entry_at (tree_dir s (Some m)) z)) (ap (λ z. s ++ z) (rest_is new p r t) ∙ sym (append_assoc s new r))
          ∙ ap is_some (none_below_free (tree_dir s (Some m)) h.tree.closed (s ++ new) (long_path s new) free_there.0 r))

  clear : IsClear (tree_dir s (Some m)) (s ++ p) (s ++ new)
  clear = clear_place (tree_dir s (Some m)) h.tree.closed (s ++ p) (s ++ new) h.at

  module _ (e : Content) (after : Places) (move : IsMove m p new e after) where
    pub move_made : tree_dir s (Some after) ≡ move_subtree (tree_dir s (Some m)) (s ++ p) (s ++ new) e
    move_made = same_tree (tree_dir s (Some after)) (move_subtree (tree_dir s (Some m)) (s ++ p) (s ++ new) e) refl (λ q. get_tree s (Some after) q ∙ by q (rest_below s q) refl ∙ sym (get_moved (tree_dir s (Some m)) (s ++ p) (s ++ new) clear e q))
      where
        by : (q : DnKeys) (o : Option DnKeys) → rest_below s q ≡ o → entry_of (Some after) o ≡ cond (eq_by_cmp dn_key_cmp q (s ++ new)) (Some e) (was_at (tree_dir s (Some m)) (s ++ p) q (rest_below (s ++ new) q))
        by q None t = sym (
            (λ i. cond (other_test (s ++ new) q (rest_outside s new q t) i) (Some e) (was_at (tree_dir s (Some m)) (s ++ p) q (rest_outside s new q t i)))
            ∙ (λ i. cond (is_some (rest_outside s p q t i)) None ((get_tree s (Some m) q ∙ ap (entry_of (Some m)) t) i)))
        by q (Some r) t = ap entry_in (move r) ∙ here (rest_below new r) refl (rest_below p r) refl
          where
            new_rest : rest_below (s ++ new) q ≡ rest_below new r
            new_rest = ap (rest_below (s ++ new)) (rest_is s q r t) ∙ rest_under s new r

            old_rest : rest_below (s ++ p) q ≡ rest_below p r
            old_rest = ap (rest_below (s ++ p)) (rest_is s q r t) ∙ rest_under s p r

            was : entry_at (tree_dir s (Some m)) q ≡ entry_on m r
            was = get_tree s (Some m) q ∙ ap (entry_of (Some m)) t

            here : (o : Option DnKeys) → rest_below new r ≡ o → (w : Option DnKeys) → rest_below p r ≡ w →
                entry_in (moved_place m p e o w (fin.get m r)) ≡ cond (eq_by_cmp dn_key_cmp q (s ++ new)) (Some e) (was_at (tree_dir s (Some m)) (s ++ p) q (rest_below (s ++ new) q))
            here None u None v = sym (
                (λ i. cond (other_test (s ++ new) q (new_rest ∙ u) i) (Some e) (was_at (tree_dir s (Some m)) (s ++ p) q ((new_rest ∙ u) i)))
                ∙ (λ i. cond (is_some ((old_rest ∙ v) i)) None (was i)))
            here None u (Some x) v = sym (
                (λ i. cond (other_test (s ++ new) q (new_rest ∙ u) i) (Some e) (was_at (tree_dir s (Some m)) (s ++ p) q ((new_rest ∙ u) i)))
                ∙ (λ i. cond (is_some ((old_rest ∙ v) i)) None (entry_at (tree_dir s (Some m)) q)))
            here (Some x) u w v =
                split (eq_by_cmp dn_key_cmp x [])
                ∙ sym (
                (λ i. cond (same_test (s ++ new) q x (new_rest ∙ u) i) (Some e) (was_at (tree_dir s (Some m)) (s ++ p) q ((new_rest ∙ u) i)))
                ∙ ap (cond (eq_by_cmp dn_key_cmp x []) (Some e)) (ap (entry_at (tree_dir s (Some m))) (append_assoc s p x) ∙ get_path s m (p ++ x)))
              where
                split : (b : Bool) → entry_in (cond b (Some (Some e)) (fin.get m (p ++ x))) ≡ cond b (Some e) (entry_on m (p ++ x))
                split true = refl
                split false = refl

    pub tree_moved : IsTree s (Some after)
    tree_moved = record {
      closed = subst IsClosed (sym move_made) (closed_moved (tree_dir s (Some m)) h.tree.closed (s ++ p) (s ++ new) h.at e);
      shallow = subst IsShallow (sym move_made) (shallow_moved (tree_dir s (Some m)) h.tree.shallow (s ++ p) (s ++ new) clear e h.fits);
      filled = λ q empty. by q (rest_below new q) (rest_below p q) (sym (move q) ∙ empty);
    }
      where
        by : (q : DnKeys) (o w : Option DnKeys) → moved_place m p e o w (fin.get m q) ≡ Some None → ⊥
        by q None None t = h.tree.filled q t
        by q None (Some r) t = not_both t
        by q (Some r) w t = split (eq_by_cmp dn_key_cmp r []) t
          where
            split : (b : Bool) → cond b (Some (Some e)) (fin.get m (p ++ r)) ≡ Some None → ⊥
            split true t = not_both (sym (inner t))
            split false t = h.tree.filled (p ++ r) t

-- the parent's node
pub move_parent : (s : DnKeys) (m : Places) (p : DnKeys) (first : RdnKeys) (rest : DnKeys) → Moving s m p (first ∷ rest) → is_some (entry_on m (take (length rest) (first ∷ rest))) ≡ true
move_parent s m p first rest h =
    let same : h.at.parent ≡ s ++ take (length rest) (first ∷ rest) = inner (sym h.at.parent_is ∙ parent_at s (Some m) first rest h.tree.closed) in
    ap is_some (sym (get_path s m (take (length rest) (first ∷ rest)))) ∙ ap (λ k. is_some (entry_at (tree_dir s (Some m)) k)) (sym same) ∙ h.at.parent_there
