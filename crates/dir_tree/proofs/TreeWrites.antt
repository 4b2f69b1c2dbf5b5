-- Writes into a tree of nodes, as writes into its directory.
use Rattle.std.proofs.Common.{◌≡◌, ◌+◌, ◌≤◌, Bool, true, false, cond, [], ◌∷◌, ◌++◌, length, take, drop, Bor, MatchOption, Option, Some, None, is_some, refl, sym, ap, subst, ◌∙◌, arith, append_assoc, length-append, true≢false}
use Rattle.std.proofs.lemmas.List.{append-nil, take-append-drop}
use Rattle.std.specs.Option.{option_map}
use Rattle.std.specs.Cmp.{tied_itself}
use Rattle.std.specs.Ordering.{eq_by_cmp, is_eq}
use Rattle.std.specs.FinMap as fin
use Rattle.std.specs.FinMap.{get-empty, get-insert}
use Rattle.dir_names.specs.Keys.{DnKeys, RdnKeys, parent_of}
use Rattle.dir_names.specs.Orders.{dn_key_cmp, dn_key_cmp_total, dn_key_eq, dn_key_eq_decides, rdn_key_eq, rdn_key_eq_decides}
use Rattle.dir_tree.specs.Content.{Content}
use Rattle.dir_tree.specs.Dir.{Dir, HasChild, IsClosed, entry_at, has_parent, is_there, put_entry, remove_entry}
use Rattle.dir_tree.specs.Moves.{IsShallow, rest_below}
use Rattle.dir_tree.specs.SpelledNames.{spelled_name}
use Rattle.dir_tree.specs.Inside.TreeNames.{name_in}
use Rattle.dir_tree.specs.Inside.TreePlaces.{IsGraft, Places, entry_in, entry_on, grafted}
use Rattle.dir_tree.specs.Inside.Trees.{IsBelow, IsFilled, IsTree, tree_dir}
use Rattle.dir_tree.proofs.DirLemmas.{closed_put, closed_without, get_put, get_without, last_part, parent_child, same_key}
use Rattle.dir_tree.proofs.MoveLemmas.{ancestor_there, shallow_put, shallow_without}
use Rattle.dir_tree.proofs.NextKey.{or_cases, parent_snoc}
use Rattle.dir_tree.proofs.RestBelow.{is_below, rest_is, rest_joined, rest_of}
use Rattle.dir_tree.proofs.TreeDirs.{entry_of, eq_below, get_tree, same_tree, spelled_path}

pub not_both : {A : Type 0} {x : A} → ◌≡◌ {A = Option A} None (Some x) → ⊥
not_both e = cc

pub inner : {A : Type 0} {x y : A} → ◌≡◌ {A = Option A} (Some x) (Some y) → x ≡ y
inner e = cc

pub no_entry : {A : Type 0} (o : Option A) → (is_some o ≡ true → ⊥) → o ≡ None
no_entry None h = refl
no_entry (Some x) h = absurd (h refl)

-- ---- the path in a key

-- what a slice's `strip_prefix` gives
pub stripped : (s k : DnKeys) (r : Option (Bor DnKeys)) →
    MatchOption r (dn_key_eq (take (length s) k) s ≡ false) (λ x. (dn_key_eq (take (length s) k) s ≡ true) × (x.now ≡ drop (length s) k) × (length x.now + length s ≡ length k)) →
    option_map (λ path. path.now) r ≡ rest_below s k
stripped s k None h = sym (no_entry (rest_below s k) (λ there. true≢false (sym there ∙ sym (is_below s k) ∙ h)))
stripped s k (Some x) h =
    let same : k ≡ s ++ drop (length s) k = sym (take-append-drop (length s) k) ∙ ap (λ z. z ++ drop (length s) k) ((dn_key_eq_decides (take (length s) k) s).0 h.0) in
    ap (λ z. Some z) h.1 ∙ sym (ap (rest_below s) same ∙ rest_of s (drop (length s) k))

pub rest_under : (s path p : DnKeys) → rest_below (s ++ path) (s ++ p) ≡ rest_below path p
rest_under [] path p = refl
rest_under (x ∷ s) path p = ap (λ b. cond b (rest_below (s ++ path) (s ++ p)) None) ((rdn_key_eq_decides x x).1 refl) ∙ rest_under s path p

pub rest_outside : (s path q : DnKeys) → rest_below s q ≡ None → rest_below (s ++ path) q ≡ None
rest_outside s path q none = no_entry (rest_below (s ++ path) q) (λ there. by (rest_below (s ++ path) q) refl there)
  where
    by : (o : Option DnKeys) → rest_below (s ++ path) q ≡ o → is_some o ≡ true → ⊥
    by None t h = true≢false (sym h)
    by (Some r) t h = not_both (sym none ∙ ap (rest_below s) (rest_is (s ++ path) q r t ∙ append_assoc s path r) ∙ rest_of s (path ++ r))

-- a key with an entry is at or below the suffix, and so is the node there
pub path_there : (s : DnKeys) (root : Option Places) (k : DnKeys) → is_some (entry_at (tree_dir s root) k) ≡ true → is_some (rest_below s k) ≡ true
path_there s root k there = by root (rest_below s k) (ap is_some (sym (get_tree s root k)) ∙ there)
  where
    by : (root : Option Places) (o : Option DnKeys) → is_some (entry_of root o) ≡ true → is_some o ≡ true
    by root None h = h
    by root (Some path) h = refl

pub root_there : (s : DnKeys) (root : Option Places) (k : DnKeys) → is_some (entry_at (tree_dir s root) k) ≡ true → is_some root ≡ true
root_there s root k there = by root (rest_below s k) (ap is_some (sym (get_tree s root k)) ∙ there)
  where
    by : (root : Option Places) (o : Option DnKeys) → is_some (entry_of root o) ≡ true → is_some root ≡ true
    by None None h = h
    by None (Some path) h = h
    by (Some m) o h = refl

-- the entry at a key is that on its path
pub on_path : (s : DnKeys) (root : Option Places) (m : Places) → root ≡ Some m → (k path : DnKeys) → Some path ≡ rest_below s k → entry_at (tree_dir s root) k ≡ entry_on m path
on_path s root m same k path is = get_tree s root k ∙ (λ i. entry_of (same i) (sym is i))

-- ---- the entry at each key after a write

pub entry_grafted : (s : DnKeys) (m : Places) (path : DnKeys) (new : DnKeys → Option (Option Content)) (after : Places) → IsGraft m path new after → (q : DnKeys) →
    entry_at (tree_dir s (Some after)) q ≡ grafted (rest_below (s ++ path) q) (λ r. entry_in (new r)) (entry_at (tree_dir s (Some m)) q)
entry_grafted s m path new after graft q =
    get_tree s (Some after) q ∙ by (rest_below s q) refl ∙ ap (grafted (rest_below (s ++ path) q) (λ r. entry_in (new r))) (sym (get_tree s (Some m) q))
  where
    by : (o : Option DnKeys) → rest_below s q ≡ o → entry_of (Some after) o ≡ grafted (rest_below (s ++ path) q) (λ r. entry_in (new r)) (entry_of (Some m) o)
    by None t = ap (λ o. grafted o (λ r. entry_in (new r)) None) (sym (rest_outside s path q t))
    by (Some p) t =
        ap entry_in (graft p) ∙ here (rest_below path p)
        ∙ ap (λ o. grafted o (λ r. entry_in (new r)) (entry_on m p)) (sym (rest_under s path p) ∙ ap (rest_below (s ++ path)) (sym (rest_is s q p t)))
      where
        here : (o : Option DnKeys) → entry_in (grafted o new (fin.get m p)) ≡ grafted o (λ r. entry_in (new r)) (entry_on m p)
        here None = refl
        here (Some r) = refl

-- nothing is below a key that has no entry, and nothing is below a leaf
module _ (d : Dir) (closed : IsClosed d) (k : DnKeys) (long : length d.suffix ≤ length k) where
  pub none_below_free : entry_at d k ≡ None → (rest : DnKeys) → entry_at d (k ++ rest) ≡ None
  none_below_free free rest = no_entry (entry_at d (k ++ rest)) (λ there. true≢false (sym (ancestor_there d closed k long rest there) ∙ ap is_some free))

  pub none_below_leaf : (HasChild d k → ⊥) → (part : RdnKeys) (rest : DnKeys) → entry_at d (k ++ part ∷ rest) ≡ None
  none_below_leaf leaf part rest =
      no_entry (entry_at d (k ++ part ∷ rest)) (λ there.
      let count = length-append k (part ∷ []) in
      leaf (part, ancestor_there d closed (k ++ part ∷ []) (omega (arith, count, long)) rest (ap (λ z. is_some (entry_at d z)) (append_assoc k (part ∷ []) rest) ∙ there)))

pub long_path : (s path : DnKeys) → length s ≤ length (s ++ path)
long_path s path = let count = length-append s path in omega (arith, count)

pub same_test : (k q : DnKeys) (rest : DnKeys) → rest_below k q ≡ Some rest → eq_by_cmp dn_key_cmp q k ≡ eq_by_cmp dn_key_cmp rest []
same_test k q rest is = by (eq_by_cmp dn_key_cmp q k) refl rest is
  where
    by : (b : Bool) → eq_by_cmp dn_key_cmp q k ≡ b → (rest : DnKeys) → rest_below k q ≡ Some rest → b ≡ eq_by_cmp dn_key_cmp rest []
    by b t [] u = sym t ∙ ap (λ z. eq_by_cmp dn_key_cmp z k) (rest_is k q [] u ∙ append-nil k) ∙ itself k
      where
        itself : (k : DnKeys) → eq_by_cmp dn_key_cmp k k ≡ true
        itself k = ap is_eq (tied_itself dn_key_cmp_total k)
    by false t (x ∷ rest) u = refl
    by true t (x ∷ rest) u =
        let same : k ++ x ∷ rest ≡ k = sym (rest_is k q (x ∷ rest) u) ∙ same_key q k t in
        let count = length-append k (x ∷ rest) in
        let equal = ap length same in
        absurd (omega (arith, count, equal))

pub other_test : (k q : DnKeys) → rest_below k q ≡ None → eq_by_cmp dn_key_cmp q k ≡ false
other_test k q none = by (eq_by_cmp dn_key_cmp q k) refl
  where
    by : (b : Bool) → eq_by_cmp dn_key_cmp q k ≡ b → b ≡ false
    by false t = refl
    by true t = absurd (not_both (sym none ∙ ap (rest_below k) (same_key q k t ∙ sym (append-nil k)) ∙ rest_of k []))

module _ (s : DnKeys) (m : Places) (path : DnKeys) (after : Places) (e : Content) where
  -- a new leaf
  pub leaf_grown : IsClosed (tree_dir s (Some m)) → entry_at (tree_dir s (Some m)) (s ++ path) ≡ None → IsGraft m path (fin.get {R = dn_key_cmp} (fin.insert fin.empty [] (Some e))) after → tree_dir s (Some after) ≡ put_entry (tree_dir s (Some m)) (s ++ path) e
  leaf_grown closed free graft = same_tree (tree_dir s (Some after)) (put_entry (tree_dir s (Some m)) (s ++ path) e) refl (λ q. entry_grafted s m path (fin.get leaf) after graft q ∙ by q (rest_below (s ++ path) q) refl ∙ sym (get_put (tree_dir s (Some m)) (s ++ path) e q))
    where
      leaf : Places
      leaf = fin.insert fin.empty [] (Some e)

      none_yet : Places
      none_yet = fin.empty

      at_leaf : (r : DnKeys) → entry_in (fin.get leaf r) ≡ cond (eq_by_cmp dn_key_cmp r []) (Some e) None
      at_leaf r = ap entry_in (get-insert dn_key_cmp_total none_yet [] (Some e) r ∙ ap (cond (eq_by_cmp dn_key_cmp r []) (Some (Some e))) (get-empty dn_key_cmp r)) ∙ split (eq_by_cmp dn_key_cmp r [])
        where
          split : (b : Bool) → entry_in (cond b (Some (Some e)) None) ≡ cond b (Some e) None
          split true = refl
          split false = refl

      by : (q : DnKeys) (o : Option DnKeys) → rest_below (s ++ path) q ≡ o → grafted o (λ r. entry_in (fin.get leaf r)) (entry_at (tree_dir s (Some m)) q) ≡ cond (eq_by_cmp dn_key_cmp q (s ++ path)) (Some e) (entry_at (tree_dir s (Some m)) q)
      by q None t = ap (λ b. cond b (Some e) (entry_at (tree_dir s (Some m)) q)) (sym (other_test (s ++ path) q t))
      by q (Some r) t =
          at_leaf r
          ∙ (λ i. cond (sym (same_test (s ++ path) q r t) i) (Some e) (sym (none_below_free (tree_dir s (Some m)) closed (s ++ path) (long_path s path) free r) i))
          ∙ ap (λ z. cond (eq_by_cmp dn_key_cmp q (s ++ path)) (Some e) (entry_at (tree_dir s (Some m)) z)) (sym (rest_is (s ++ path) q r t))

  -- another entry
  pub entry_exchanged : after ≡ fin.insert m path (Some e) → tree_dir s (Some after) ≡ put_entry (tree_dir s (Some m)) (s ++ path) e
  entry_exchanged same = same_tree (tree_dir s (Some after)) (put_entry (tree_dir s (Some m)) (s ++ path) e) refl (λ q. get_tree s (Some after) q ∙ by q (rest_below s q) refl ∙ sym (get_put (tree_dir s (Some m)) (s ++ path) e q ∙ ap (cond (eq_by_cmp dn_key_cmp q (s ++ path)) (Some e)) (get_tree s (Some m) q)))
    where
      by : (q : DnKeys) (o : Option DnKeys) → rest_below s q ≡ o → entry_of (Some after) o ≡ cond (eq_by_cmp dn_key_cmp q (s ++ path)) (Some e) (entry_of (Some m) o)
      by q None t = ap (λ b. cond b (Some e) None) (sym (other_test (s ++ path) q (rest_outside s path q t)))
      by q (Some p) t =
          ap (λ n. entry_on n p) same ∙ ap entry_in (get-insert dn_key_cmp_total m path (Some e) p) ∙ split (eq_by_cmp dn_key_cmp p path)
          ∙ ap (λ b. cond b (Some e) (entry_on m p)) (sym (eq_below s p path) ∙ ap (λ z. eq_by_cmp dn_key_cmp z (s ++ path)) (sym (rest_is s q p t)))
        where
          split : (b : Bool) → entry_in (cond b (Some (Some e)) (fin.get m p)) ≡ cond b (Some e) (entry_on m p)
          split true = refl
          split false = refl

-- a leaf that is taken out
pub leaf_cut : (s : DnKeys) (m : Places) (path : DnKeys) (after : Places) → IsClosed (tree_dir s (Some m)) → (HasChild (tree_dir s (Some m)) (s ++ path) → ⊥) → IsGraft m path (λ _. None) after → tree_dir s (Some after) ≡ remove_entry (tree_dir s (Some m)) (s ++ path)
leaf_cut s m path after closed leaf graft = same_tree (tree_dir s (Some after)) (remove_entry (tree_dir s (Some m)) (s ++ path)) refl (λ q. entry_grafted s m path (λ _. None) after graft q ∙ gone s m path closed leaf q (rest_below (s ++ path) q) refl ∙ sym (get_without (tree_dir s (Some m)) (s ++ path) q))
  where
    gone : (s : DnKeys) (m : Places) (path : DnKeys) → IsClosed (tree_dir s (Some m)) → (HasChild (tree_dir s (Some m)) (s ++ path) → ⊥) →
        (q : DnKeys) (o : Option DnKeys) → rest_below (s ++ path) q ≡ o → grafted o (λ r. None) (entry_at (tree_dir s (Some m)) q) ≡ cond (eq_by_cmp dn_key_cmp q (s ++ path)) None (entry_at (tree_dir s (Some m)) q)
    gone s m path closed leaf q None t = ap (λ b. cond b None (entry_at (tree_dir s (Some m)) q)) (sym (other_test (s ++ path) q t))
    gone s m path closed leaf q (Some []) t = ap (λ b. cond b None (entry_at (tree_dir s (Some m)) q)) (sym (same_test (s ++ path) q [] t))
    gone s m path closed leaf q (Some (x ∷ r)) t =
        (λ i. cond (sym (same_test (s ++ path) q (x ∷ r) t) i) None (sym (ap (entry_at (tree_dir s (Some m))) (rest_is (s ++ path) q (x ∷ r) t) ∙ none_below_leaf (tree_dir s (Some m)) closed (s ++ path) (long_path s path) leaf x r) i))

-- the first entry, that of the suffix
pub first_put : (s : DnKeys) (root : Option Places) (leaf : Places) (e : Content) → IsClosed (tree_dir s root) → entry_at (tree_dir s root) s ≡ None → leaf ≡ fin.insert fin.empty [] (Some e) → tree_dir s (Some leaf) ≡ put_entry (tree_dir s root) s e
first_put s root leaf e closed free same = same_tree (tree_dir s (Some leaf)) (put_entry (tree_dir s root) s e) refl (λ q. get_tree s (Some leaf) q ∙ by q (rest_below s q) refl ∙ sym (get_put (tree_dir s root) s e q))
  where
    none_yet : Places
    none_yet = fin.empty

    split : (b : Bool) → entry_in (cond b (Some (Some e)) None) ≡ cond b (Some e) None
    split true = refl
    split false = refl

    by : (q : DnKeys) (o : Option DnKeys) → rest_below s q ≡ o → entry_of (Some leaf) o ≡ cond (eq_by_cmp dn_key_cmp q s) (Some e) (entry_at (tree_dir s root) q)
    by q None t =
        (λ i. cond (sym (other_test s q t) i) (Some e) (sym (get_tree s root q ∙ ap (entry_of root) t) i))
    by q (Some p) t =
        ap (λ n. entry_on n p) same ∙ ap entry_in (get-insert dn_key_cmp_total none_yet [] (Some e) p ∙ ap (cond (eq_by_cmp dn_key_cmp p []) (Some (Some e))) (get-empty dn_key_cmp p)) ∙ split (eq_by_cmp dn_key_cmp p [])
        ∙ (λ i. cond (sym (same_test s q p t) i) (Some e) (sym (none_below_free (tree_dir s root) closed s (omega arith) free p) i))
        ∙ ap (λ z. cond (eq_by_cmp dn_key_cmp q s) (Some e) (entry_at (tree_dir s root) z)) (sym (rest_is s q p t))

-- the last entry, that of the suffix
pub last_cut : (s : DnKeys) (root : Option Places) → IsClosed (tree_dir s root) → (HasChild (tree_dir s root) s → ⊥) → tree_dir s None ≡ remove_entry (tree_dir s root) s
last_cut s root closed leaf = same_tree (tree_dir s None) (remove_entry (tree_dir s root) s) refl (λ q. get_tree s None q ∙ by q (rest_below s q) refl ∙ sym (get_without (tree_dir s root) s q))
  where
    by : (q : DnKeys) (o : Option DnKeys) → rest_below s q ≡ o → entry_of None o ≡ cond (eq_by_cmp dn_key_cmp q s) None (entry_at (tree_dir s root) q)
    by q None t = (λ i. cond (sym (other_test s q t) i) None (sym (get_tree s root q ∙ ap (entry_of root) t) i))
    by q (Some []) t = ap (λ b. cond b None (entry_at (tree_dir s root) q)) (sym (same_test s q [] t))
    by q (Some (x ∷ r)) t = (λ i. cond (sym (same_test s q (x ∷ r) t) i) None (sym (ap (entry_at (tree_dir s root)) (rest_is s q (x ∷ r) t) ∙ none_below_leaf (tree_dir s root) closed s (omega arith) leaf x r) i))

-- ---- no place is empty

pub filled_grafted : (m : Places) (path : DnKeys) (new : DnKeys → Option (Option Content)) (after : Places) → IsGraft m path new after → IsFilled (Some m) → ((r : DnKeys) → new r ≡ Some None → ⊥) → IsFilled (Some after)
filled_grafted m path new after graft filled full q empty = by (rest_below path q) (sym (graft q) ∙ empty)
  where
    by : (o : Option DnKeys) → grafted o new (fin.get m q) ≡ Some None → ⊥
    by None h = filled q h
    by (Some r) h = full r h

pub filled_insert : (m : Places) (path : DnKeys) (e : Content) → ((q : DnKeys) → fin.get m q ≡ Some None → ⊥) → (q : DnKeys) → fin.get (fin.insert m path (Some e)) q ≡ Some None → ⊥
filled_insert m path e filled q empty = by (eq_by_cmp dn_key_cmp q path) (sym (get-insert dn_key_cmp_total m path (Some e) q) ∙ empty)
  where
    by : (b : Bool) → cond b (Some (Some e)) (fin.get m q) ≡ Some None → ⊥
    by true h = not_both (sym (inner h))
    by false h = filled q h

pub filled_leaf : (e : Content) (q : DnKeys) → fin.get (fin.insert (fin.empty {R = dn_key_cmp}) [] (Some e)) q ≡ Some None → ⊥
filled_leaf e = filled_insert fin.empty [] e (λ q h. not_both (sym (get-empty dn_key_cmp q) ∙ h))

-- ---- the directory of a tree after a write is that of a tree

pub tree_put : (s : DnKeys) (root after : Option Places) (k : DnKeys) (e : Content) → IsTree s root → tree_dir s after ≡ put_entry (tree_dir s root) k e → has_parent (tree_dir s root) k ≡ true → length k ≤ 64 → IsFilled after → IsTree s after
tree_put s root after k e tree same parent short filled = record {
  closed = subst IsClosed (sym same) (closed_put (tree_dir s root) k e tree.closed parent);
  shallow = subst IsShallow (sym same) (shallow_put (tree_dir s root) k e tree.shallow short);
  filled = filled;
}

pub tree_without : (s : DnKeys) (root after : Option Places) (k : DnKeys) → IsTree s root → tree_dir s after ≡ remove_entry (tree_dir s root) k → (HasChild (tree_dir s root) k → ⊥) → IsFilled after → IsTree s after
tree_without s root after k tree same leaf filled = record {
  closed = subst IsClosed (sym same) (closed_without (tree_dir s root) k tree.closed leaf);
  shallow = subst IsShallow (sym same) (shallow_without (tree_dir s root) k tree.shallow);
  filled = filled;
}

pub parent_at : (s : DnKeys) (root : Option Places) (first : RdnKeys) (rest : DnKeys) → IsClosed (tree_dir s root) → parent_of (s ++ first ∷ rest) ≡ Some (s ++ take (length rest) (first ∷ rest))
parent_at s root first rest closed =
    let last = last_part first rest in
    ap parent_of (ap (λ z. s ++ z) last.1 ∙ sym (append_assoc s (take (length rest) (first ∷ rest)) (last.0 ∷ []))) ∙ parent_snoc (tree_dir s root) closed (s ++ take (length rest) (first ∷ rest)) last.0 _ refl

-- ---- a key, and the path in the root's map that it gives

pub record Spot (s : DnKeys) (root : Option Places) (k : DnKeys) (m : Places) (path : DnKeys) : Type 0 where
  pub root_is : root ≡ Some m
  pub path_is : Some path ≡ rest_below s k

module _ (s : DnKeys) (root : Option Places) (k : DnKeys) (m : Places) (path : DnKeys) (spot : Spot s root k m path) where
  pub spot_key : k ≡ s ++ path
  spot_key = rest_is s k path (sym spot.path_is)

  pub spot_entry : entry_at (tree_dir s root) k ≡ entry_on m path
  spot_entry = on_path s root m spot.root_is k path spot.path_is

  pub spot_there : is_some (entry_at (tree_dir s root) k) ≡ true → is_some (entry_on m path) ≡ true
  spot_there there = ap is_some (sym spot_entry) ∙ there

  pub spot_filled : IsTree s root → IsFilled (Some m)
  spot_filled tree = subst IsFilled spot.root_is tree.filled

  module _ (tree : IsTree s root) (after : Places) where
    closed_here : IsClosed (tree_dir s (Some m))
    closed_here = subst (λ root. IsClosed (tree_dir s root)) spot.root_is tree.closed

    pub spot_replaced : (e : Content) → after ≡ fin.insert m path (Some e) → tree_dir s (Some after) ≡ put_entry (tree_dir s root) k e
    spot_replaced e same = entry_exchanged s m path after e same ∙ (λ i. put_entry (tree_dir s (sym spot.root_is i)) (sym spot_key i) e)

    pub tree_replaced : (e : Content) → after ≡ fin.insert m path (Some e) → is_some (entry_at (tree_dir s root) k) ≡ true → IsTree s (Some after)
    tree_replaced e same there =
        tree_put s root (Some after) k e tree (spot_replaced e same) (tree.closed k there) (tree.shallow k there) (subst (λ n. IsFilled (Some n)) (sym same) (filled_insert m path e (spot_filled tree)))

    module _ (leaf : Places) (e : Content) (leaf_is : leaf ≡ fin.insert fin.empty [] (Some e)) (graft : IsGraft m path (fin.get leaf) after) where
      pub spot_grown : entry_at (tree_dir s root) k ≡ None → tree_dir s (Some after) ≡ put_entry (tree_dir s root) k e
      spot_grown free =
          leaf_grown s m path after e closed_here ((λ i. entry_at (tree_dir s (sym spot.root_is i)) (sym spot_key i)) ∙ free) (subst (λ leaf. IsGraft m path (fin.get leaf) after) leaf_is graft)
          ∙ (λ i. put_entry (tree_dir s (sym spot.root_is i)) (sym spot_key i) e)

      pub tree_grown : entry_at (tree_dir s root) k ≡ None → has_parent (tree_dir s root) k ≡ true → length k ≤ 64 → IsTree s (Some after)
      tree_grown free parent short =
          tree_put s root (Some after) k e tree (spot_grown free) parent short
          (filled_grafted m path (fin.get leaf) after graft (spot_filled tree) (λ r. subst (λ leaf. fin.get leaf r ≡ Some None → ⊥) (sym leaf_is) (filled_leaf e r)))

    module _ (leaf : HasChild (tree_dir s root) k → ⊥) (graft : IsGraft m path (λ _. None) after) where
      pub spot_cut : tree_dir s (Some after) ≡ remove_entry (tree_dir s root) k
      spot_cut =
          leaf_cut s m path after closed_here (λ child. leaf (subst (λ d. HasChild d k) (ap (tree_dir s) (sym spot.root_is)) (subst (HasChild (tree_dir s (Some m))) (sym spot_key) child))) graft
          ∙ (λ i. remove_entry (tree_dir s (sym spot.root_is i)) (sym spot_key i))

      pub tree_cut : IsTree s (Some after)
      tree_cut = tree_without s root (Some after) k tree spot_cut leaf (filled_grafted m path (λ _. None) after graft (spot_filled tree) (λ r h. not_both h))

-- a reference is lent if there is a value
pub mapped_some : {A : Type 0} (r : Option (Bor A)) → is_some r ≡ is_some (option_map (λ x. x.now) r)
mapped_some None = refl
mapped_some (Some x) = refl

-- a key that has a parent is at or below the suffix
pub parent_below : (s : DnKeys) (root : Option Places) (k : DnKeys) → IsClosed (tree_dir s root) → has_parent (tree_dir s root) k ≡ true → is_some (rest_below s k) ≡ true
parent_below s root k closed parent =
    or_cases (tree_dir s root) closed (dn_key_eq k s) (is_there (tree_dir s root) (parent_of k))
    (λ t. ap (λ o. is_some o) (ap (rest_below s) ((dn_key_eq_decides k s).0 t ∙ sym (append-nil s)) ∙ rest_of s []))
    (above (parent_of k) refl)
    parent
  where
    above : (o : Option DnKeys) → parent_of k ≡ o → is_there (tree_dir s root) o ≡ true → is_some (rest_below s k) ≡ true
    above None t h = absurd (true≢false (sym h))
    above (Some p) t h = by (rest_below s p) refl (path_there s root p h)
      where
        child : (part : RdnKeys) × (k ≡ p ++ part ∷ [])
        child = parent_child k p t

        by : (o : Option DnKeys) → rest_below s p ≡ o → is_some o ≡ true → is_some (rest_below s k) ≡ true
        by None u g = absurd (true≢false (sym g))
        by (Some r) u g = ap is_some (ap (rest_below s) child.1 ∙ rest_joined s p r (child.0 ∷ []) u)

-- the parent of a key below the suffix is there
pub parent_there : (s : DnKeys) (root : Option Places) (first : RdnKeys) (rest : DnKeys) → IsClosed (tree_dir s root) → has_parent (tree_dir s root) (s ++ first ∷ rest) ≡ true → is_some (entry_at (tree_dir s root) (s ++ take (length rest) (first ∷ rest))) ≡ true
parent_there s root first rest closed parent =
    or_cases (tree_dir s root) closed (dn_key_eq (s ++ first ∷ rest) s) (is_there (tree_dir s root) (parent_of (s ++ first ∷ rest)))
    (λ t.
    let same : length (s ++ first ∷ rest) ≡ length s = ap length ((dn_key_eq_decides (s ++ first ∷ rest) s).0 t) in
    let count = length-append s (first ∷ rest) in
    absurd (omega (arith, same, count)))
    (λ t. sym (ap (is_there (tree_dir s root)) (parent_at s root first rest closed)) ∙ t)
    parent

-- a key without an entry has a child only if the child is the suffix's entry
pub child_of_none : (d : Dir) → IsClosed d → (k : DnKeys) → entry_at d k ≡ None → HasChild d k → (part : RdnKeys) × (d.suffix ≡ k ++ part ∷ []) × (is_some (entry_at d d.suffix) ≡ true)
child_of_none d closed k none child =
    let q : DnKeys = k ++ child.0 ∷ [] in
    or_cases d closed (dn_key_eq q d.suffix) (is_there d (parent_of q))
    (λ t. let same : q ≡ d.suffix = (dn_key_eq_decides q d.suffix).0 t in (child.0, sym same, ap (λ z. is_some (entry_at d z)) (sym same) ∙ child.1))
    (λ t. absurd (true≢false (sym t ∙ ap (is_there d) (parent_snoc d closed k child.0 _ refl) ∙ ap is_some none)))
    (closed q child.1)

-- the only key whose path is empty
pub suffix_key : (s k path : DnKeys) → Some path ≡ rest_below s k → length path ≡ 0 → k ≡ s
suffix_key s k [] is none = rest_is s k [] (sym is) ∙ append-nil s
suffix_key s k (x ∷ path) is none = absurd (omega arith)

module _ (s : DnKeys) (root : Option Places) (k : DnKeys) (at : k ≡ s) (tree : IsTree s root) where
  module _ (leaf : Places) (e : Content) (leaf_is : leaf ≡ fin.insert fin.empty [] (Some e)) (free : entry_at (tree_dir s root) k ≡ None) where
    pub suffix_put : tree_dir s (Some leaf) ≡ put_entry (tree_dir s root) k e
    suffix_put = first_put s root leaf e tree.closed (ap (entry_at (tree_dir s root)) (sym at) ∙ free) leaf_is ∙ ap (λ k. put_entry (tree_dir s root) k e) (sym at)

    pub tree_begun : has_parent (tree_dir s root) k ≡ true → length k ≤ 64 → IsTree s (Some leaf)
    tree_begun parent short = tree_put s root (Some leaf) k e tree suffix_put parent short (subst (λ n. IsFilled (Some n)) (sym leaf_is) (filled_leaf e))

  module _ (after : Option Places) (after_is : after ≡ None) (leaf : HasChild (tree_dir s root) k → ⊥) where
    pub suffix_cut : tree_dir s after ≡ remove_entry (tree_dir s root) k
    suffix_cut = ap (tree_dir s) after_is ∙ last_cut s root tree.closed (λ child. leaf (subst (HasChild (tree_dir s root)) (sym at) child)) ∙ ap (remove_entry (tree_dir s root)) (sym at)

    pub tree_emptied : IsTree s after
    tree_emptied = tree_without s root after k tree suffix_cut leaf (subst IsFilled (sym after_is) tt)

pub leaf_entry : (leaf : Places) (e f : Content) → leaf ≡ fin.insert fin.empty [] (Some e) → fin.get leaf [] ≡ Some (Some f) → f ≡ e
leaf_entry leaf e f is there = inner (inner (sym there ∙ ap (λ n. fin.get n []) is ∙ get-insert dn_key_cmp_total fin.empty [] (Some e) []))

-- ---- keys below the suffix

pub below_there : (s : DnKeys) (root : Option Places) (k : DnKeys) → is_some (entry_at (tree_dir s root) k) ≡ true → (k ≡ s → ⊥) → IsBelow s k
below_there s root k there other = by (rest_below s k) refl (path_there s root k there)
  where
    by : (o : Option DnKeys) → rest_below s k ≡ o → is_some o ≡ true → IsBelow s k
    by None t h = absurd (true≢false (sym h))
    by (Some []) t h = absurd (other (rest_is s k [] t ∙ append-nil s))
    by (Some (x ∷ path)) t h = (x, path, rest_is s k (x ∷ path) t)

pub below_parent : (s : DnKeys) (root : Option Places) (k : DnKeys) → is_there (tree_dir s root) (parent_of k) ≡ true → IsBelow s k
below_parent s root k there = by (parent_of k) refl there
  where
    by : (o : Option DnKeys) → parent_of k ≡ o → is_there (tree_dir s root) o ≡ true → IsBelow s k
    by None t h = absurd (true≢false (sym h))
    by (Some p) t h = below (rest_below s p) refl (path_there s root p h)
      where
        child : (part : RdnKeys) × (k ≡ p ++ part ∷ [])
        child = parent_child k p t

        below : (o : Option DnKeys) → rest_below s p ≡ o → is_some o ≡ true → IsBelow s k
        below None u g = absurd (true≢false (sym g))
        below (Some []) u g = (child.0, [], child.1 ∙ ap (λ z. z ++ child.0 ∷ []) (rest_is s p [] u ∙ append-nil s))
        below (Some (x ∷ r)) u g = (x, r ++ child.0 ∷ [], child.1 ∙ ap (λ z. z ++ child.0 ∷ []) (rest_is s p (x ∷ r) u) ∙ append_assoc s (x ∷ r) (child.0 ∷ []))

-- ---- names

pub spot_spelled : (s : DnKeys) (root : Option Places) (k : DnKeys) (m : Places) (path : DnKeys) → Spot s root k m path → IsClosed (tree_dir s root) → name_in m (length s) path ≡ spelled_name (tree_dir s root) k
spot_spelled s root k m path spot closed =
    sym (spelled_path s m (subst (λ root. IsClosed (tree_dir s root)) spot.root_is closed) path) ∙ (λ i. spelled_name (tree_dir s (sym spot.root_is i)) (sym (spot_key s root k m path spot) i))

-- nothing is at or below both of two keys that are apart
pub apart_below : (old new : DnKeys) → rest_below old new ≡ None → rest_below new old ≡ None → (r : DnKeys) → rest_below new (old ++ r) ≡ None
apart_below [] new outside apart r = absurd (not_both (sym outside))
apart_below (x ∷ old) [] outside apart r = absurd (not_both (sym apart))
apart_below (x ∷ old) (y ∷ new) outside apart r = by (apart_below old new) (rdn_key_eq y x) refl apart
  where
    by : (rest_below old new ≡ None → rest_below new old ≡ None → (r : DnKeys) → rest_below new (old ++ r) ≡ None) → (b : Bool) → rdn_key_eq y x ≡ b → cond b (rest_below new old) None ≡ None → cond b (rest_below new (old ++ r)) None ≡ None
    by more false t h = refl
    by more true t h =
        let same : x ≡ y = sym ((rdn_key_eq_decides y x).0 t) in
        more (ap (λ b. cond b (rest_below old new) None) (sym ((rdn_key_eq_decides x y).1 same)) ∙ outside) h r
