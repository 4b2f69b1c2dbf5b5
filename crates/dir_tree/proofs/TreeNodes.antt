-- The map of a node: what is on each path, that its paths are in order, and what is there after the place of one child has changed.
use Rattle.std.proofs.Common.{◌≡◌, Bool, true, false, cond, not, T, [], ◌∷◌, ◌++◌, map, Option, Some, None, is_some, length, refl, sym, ap, subst, ◌∙◌, arith}
use Rattle.std.specs.declared.cmp.Ordering.{Ordering}
use Rattle.std.specs.declared.cmp.Ordering.TheVariants.{Less, Equal, Greater}
use Rattle.std.specs.Ordering.{eq_by_cmp, is_eq, is_lt, ordering_then}
use Rattle.std.specs.Cmp.{Equal-is, tied_itself, eq_by_cmp_equiv}
use Rattle.std.specs.List.{list_all, filter}
use Rattle.std.specs.Map.{lookup}
use Rattle.std.specs.Option.{option_flatten}
use Rattle.std.specs.BTreeMap.{is_at}
use Rattle.std.specs.FinMap as fin
use Rattle.std.specs.FinMap.{find, get-empty, get-entries, get-from_entries, get-from_sorted, get-insert, same_map}
use Rattle.std.specs.FinMap.Entries.{find-where_key}
use Rattle.dir_names.specs.Keys.{DnKeys, RdnKeys}
use Rattle.dir_names.specs.Orders.{dn_key_cmp, dn_key_cmp_exact, dn_key_cmp_total, rdn_key_cmp, rdn_key_cmp_exact, rdn_key_cmp_ties, rdn_key_cmp_total, rdn_key_eq, rdn_key_eq_decides}
use Rattle.dir_names.specs.Sorted.{rises}
use Rattle.dir_names.proofs.Maps.{lookup_find, rises_from_ordered}
use Rattle.dir_names.proofs.Placed.{first, second, keys_of}
use Rattle.dir_tree.specs.Content.{Content}
use Rattle.dir_tree.specs.Moves.{rest_below}
use Rattle.dir_tree.specs.Inside.TreeOrder.{AreOrdered, Children, Found, node_sorted}
use Rattle.dir_tree.specs.Inside.TreePlaces.{HasPlace, IsAt, IsGraft, Places, begins_with, below_children, below_part, entry_in, entry_on, grafted, node_map, place_map, with_child}
use Rattle.dir_tree.proofs.EachEntry.{apart}

pub truth : {b : Bool} → T b → b ≡ true
truth {b} t = elim b as (λ b. T b → b ≡ true) [ true ↦ λ _. refl | _ ↦ λ f. absurd f ] t

-- ---- looking for a path in a list

not_equal : (o r : Ordering) → is_eq o ≡ false → is_eq (ordering_then o r) ≡ false
not_equal Less r h = refl
not_equal Equal r h = absurd (cc)
not_equal Greater r h = refl

pub eq_under : (x : RdnKeys) (q p : DnKeys) → eq_by_cmp dn_key_cmp (x ∷ q) (x ∷ p) ≡ eq_by_cmp dn_key_cmp q p
eq_under x q p = ap (λ o. is_eq (ordering_then o (dn_key_cmp q p))) (tied_itself rdn_key_cmp_total x)

find_under : (x : RdnKeys) (q : DnKeys) (es : Found) → find dn_key_cmp (x ∷ q) (map (below_part x) es) ≡ find dn_key_cmp q es
find_under x q [] = refl
find_under x q (e ∷ es) = λ i. cond (eq_under x q e.0 i) (Some e.1) (find_under x q es i)

find_apart : (x y : RdnKeys) → is_eq (rdn_key_cmp y x) ≡ false → (q : DnKeys) (es : Found) → find dn_key_cmp (y ∷ q) (map (below_part x) es) ≡ None
find_apart x y t q [] = refl
find_apart x y t q (e ∷ es) = ap (λ b. cond b (Some e.1) (find dn_key_cmp (y ∷ q) (map (below_part x) es))) (not_equal (rdn_key_cmp y x) (dn_key_cmp q e.0) t) ∙ find_apart x y t q es

find_root : (x : RdnKeys) (es : Found) → find dn_key_cmp [] (map (below_part x) es) ≡ None
find_root x [] = refl
find_root x (e ∷ es) = find_root x es

abbrev or_else : {A : Type 0} → Option A → Option A → Option A
or_else None b = b
or_else (Some a) b = Some a

or_none : {A : Type 0} (a : Option A) → or_else a None ≡ a
or_none None = refl
or_none (Some a) = refl

find_append : (q : DnKeys) (xs ys : Found) → find dn_key_cmp q (xs ++ ys) ≡ or_else (find dn_key_cmp q xs) (find dn_key_cmp q ys)
find_append q [] ys = refl
find_append q (x ∷ xs) ys = by (find_append q xs ys) (eq_by_cmp dn_key_cmp q x.0)
  where
    by : find dn_key_cmp q (xs ++ ys) ≡ or_else (find dn_key_cmp q xs) (find dn_key_cmp q ys) →
        (b : Bool) → cond b (Some x.1) (find dn_key_cmp q (xs ++ ys)) ≡ or_else (cond b (Some x.1) (find dn_key_cmp q xs)) (find dn_key_cmp q ys)
    by rest true = refl
    by rest false = rest

-- what is there at a path, from a child's place on
abbrev pub child_get : Option (Option Places) → DnKeys → Option (Option Content)
child_get None q = None
child_get (Some place) q = fin.get (place_map place) q

find_child : (cs : Children) → T (rises rdn_key_cmp (keys_of rdn_key_cmp cs)) → (y : RdnKeys) (q : DnKeys) → find dn_key_cmp (y ∷ q) (below_children cs) ≡ child_get (find rdn_key_cmp y cs) q
find_child [] t y q = refl
find_child (c ∷ cs) t y q =
    find_append (y ∷ q) (map (below_part c.0) (fin.entries (place_map c.1))) (below_children cs)
    ∙ by (λ z. find_child cs (second (list_all (λ z. is_lt (rdn_key_cmp c.0 z)) (keys_of rdn_key_cmp cs)) _ t) z q) (eq_by_cmp rdn_key_cmp y c.0) refl
  where
    by : ((z : RdnKeys) → find dn_key_cmp (z ∷ q) (below_children cs) ≡ child_get (find rdn_key_cmp z cs) q) →
        (b : Bool) → eq_by_cmp rdn_key_cmp y c.0 ≡ b →
        or_else (find dn_key_cmp (y ∷ q) (map (below_part c.0) (fin.entries (place_map c.1)))) (find dn_key_cmp (y ∷ q) (below_children cs)) ≡ child_get (cond b (Some c.1) (find rdn_key_cmp y cs)) q
    by rest true e =
        let same : y ≡ c.0 = rdn_key_cmp_exact y c.0 ((Equal-is (rdn_key_cmp y c.0)).0 e) in
        let alone : find rdn_key_cmp c.0 cs ≡ None = apart rdn_key_cmp_total rdn_key_cmp_exact (λ _. Unit {0}) c.0 cs (truth (first (list_all (λ z. is_lt (rdn_key_cmp c.0 z)) (keys_of rdn_key_cmp cs)) _ t)) in
        let none : find dn_key_cmp (c.0 ∷ q) (below_children cs) ≡ None = rest c.0 ∙ ap (λ o. child_get o q) alone in
        subst (λ z. or_else (find dn_key_cmp (z ∷ q) (map (below_part c.0) (fin.entries (place_map c.1)))) (find dn_key_cmp (z ∷ q) (below_children cs)) ≡ fin.get (place_map c.1) q) (sym same)
        ((λ i. or_else (find_under c.0 q (fin.entries (place_map c.1)) i) (none i)) ∙ or_none (find dn_key_cmp q (fin.entries (place_map c.1))) ∙ sym (get-entries (place_map c.1) q))
    by rest false e = ap (λ o. or_else o (find dn_key_cmp (y ∷ q) (below_children cs))) (find_apart c.0 y e q (fin.entries (place_map c.1))) ∙ rest y

-- ---- the map of a node

module _ (e : Content) (cs : Children) (ordered : AreOrdered cs) where
  pub get_root : fin.get (node_map e cs) [] ≡ Some (Some e)
  get_root = get-from_sorted dn_key_cmp (([], Some e) ∷ below_children cs) [] (node_sorted e cs ordered)

  pub get_child : (y : RdnKeys) (q : DnKeys) → fin.get (node_map e cs) (y ∷ q) ≡ child_get (lookup (is_at (rdn_key_cmp y)) cs) q
  get_child y q =
      get-from_sorted dn_key_cmp (([], Some e) ∷ below_children cs) (y ∷ q) (node_sorted e cs ordered)
      ∙ find_child cs (rises_from_ordered rdn_key_cmp (keys_of rdn_key_cmp cs) ordered) y q
      ∙ ap (λ o. child_get o q) (sym (lookup_find rdn_key_cmp_total y cs))

-- ---- another place for a child

pub get_with_child : (m : Places) (x : RdnKeys) (place : Option Places) → IsGraft m (x ∷ []) (fin.get (place_map place)) (with_child m x place)
get_with_child m x place q =
    get-from_entries dn_key_cmp_total (map (below_part x) (fin.entries (place_map place)) ++ filter (λ p. not (begins_with x p.0)) (fin.entries m)) q
    ∙ find_append q (map (below_part x) (fin.entries (place_map place))) (filter (λ p. not (begins_with x p.0)) (fin.entries m))
    ∙ ap (or_else (find dn_key_cmp q (map (below_part x) (fin.entries (place_map place))))) (find-where_key dn_key_cmp (λ k. not (begins_with x k)) q (λ k same. ap (λ z. not (begins_with x z)) (sym (dn_key_cmp_exact q k same))) (fin.entries m))
    ∙ by q
  where
    by : (q : DnKeys) → or_else (find dn_key_cmp q (map (below_part x) (fin.entries (place_map place)))) (cond (not (begins_with x q)) (find dn_key_cmp q (fin.entries m)) None) ≡ grafted (rest_below (x ∷ []) q) (fin.get (place_map place)) (fin.get m q)
    by [] = ap (λ o. or_else o (find dn_key_cmp [] (fin.entries m))) (find_root x (fin.entries (place_map place))) ∙ sym (get-entries m [])
    by (y ∷ q) = here (rdn_key_eq x y) refl
      where
        here : (b : Bool) → rdn_key_eq x y ≡ b → or_else (find dn_key_cmp (y ∷ q) (map (below_part x) (fin.entries (place_map place)))) (cond (not b) (find dn_key_cmp (y ∷ q) (fin.entries m)) None) ≡ grafted (cond b (Some q) None) (fin.get (place_map place)) (fin.get m (y ∷ q))
        here true t =
            let same : x ≡ y = (rdn_key_eq_decides x y).0 t in
            or_none (find dn_key_cmp (y ∷ q) (map (below_part x) (fin.entries (place_map place))))
            ∙ ap (λ z. find dn_key_cmp (z ∷ q) (map (below_part x) (fin.entries (place_map place)))) (sym same)
            ∙ find_under x q (fin.entries (place_map place)) ∙ sym (get-entries (place_map place) q)
        here false t =
            let other : is_eq (rdn_key_cmp y x) ≡ false = (eq_by_cmp_equiv rdn_key_cmp_total).symm y x ∙ sym (rdn_key_cmp_ties x y) ∙ t in
            ap (λ o. or_else o (find dn_key_cmp (y ∷ q) (fin.entries m))) (find_apart x y other q (fin.entries (place_map place))) ∙ sym (get-entries m (y ∷ q))

-- the map of a node in which one child's place was written or removed
pub place_changed : (e : Content) (cs new : Children) → AreOrdered cs → AreOrdered new → (x : RdnKeys) (o : Option (Option Places)) →
    ((y : RdnKeys) → lookup (is_at (rdn_key_cmp y)) new ≡ cond (is_at (rdn_key_cmp x) y) o (lookup (is_at (rdn_key_cmp y)) cs)) →
    IsGraft (node_map e cs) (x ∷ []) (child_get o) (node_map e new)
place_changed e cs new ordered still x o updates [] = get_root e new still ∙ sym (get_root e cs ordered)
place_changed e cs new ordered still x o updates (y ∷ q) =
    get_child e new still y q ∙ ap (λ found. child_get found q) (updates y ∙ ap (λ b. cond b o (lookup (is_at (rdn_key_cmp y)) cs)) (sym (rdn_key_cmp_ties x y)))
    ∙ by (rdn_key_eq x y)
    ∙ ap (grafted (rest_below (x ∷ []) (y ∷ q)) (child_get o)) (sym (get_child e cs ordered y q))
  where
    by : (b : Bool) → child_get (cond b o (lookup (is_at (rdn_key_cmp y)) cs)) q ≡ grafted (cond b (Some q) None) (child_get o) (child_get (lookup (is_at (rdn_key_cmp y)) cs) q)
    by true = refl
    by false = refl

pub place_written : (e : Content) (cs new : Children) → AreOrdered cs → AreOrdered new → (x : RdnKeys) (place : Option Places) →
    ((y : RdnKeys) → lookup (is_at (rdn_key_cmp y)) new ≡ cond (is_at (rdn_key_cmp x) y) (Some place) (lookup (is_at (rdn_key_cmp y)) cs)) →
    node_map e new ≡ with_child (node_map e cs) x place
place_written e cs new ordered still x place updates =
    same_map dn_key_cmp_total dn_key_cmp_exact _ _ (λ q. place_changed e cs new ordered still x (Some place) updates q ∙ sym (get_with_child (node_map e cs) x place q))

-- another entry in a node
pub root_written : (e new : Content) (cs : Children) → AreOrdered cs → node_map new cs ≡ fin.insert (node_map e cs) [] (Some new)
root_written e new cs ordered = same_map dn_key_cmp_total dn_key_cmp_exact _ _ (λ q. by q ∙ sym (get-insert dn_key_cmp_total (node_map e cs) [] (Some new) q))
  where
    by : (q : DnKeys) → fin.get (node_map new cs) q ≡ cond (eq_by_cmp dn_key_cmp q []) (Some (Some new)) (fin.get (node_map e cs) q)
    by [] = get_root new cs ordered
    by (y ∷ q) = get_child new cs ordered y q ∙ sym (get_child e cs ordered y q)

pub leaf_map : (e : Content) (cs : Children) → AreOrdered cs → cs ≡ [] → node_map e cs ≡ fin.insert fin.empty [] (Some e)
leaf_map e cs ordered none = same_map dn_key_cmp_total dn_key_cmp_exact _ _ (λ q. by q ∙ sym (get-insert dn_key_cmp_total fin.empty [] (Some e) q))
  where
    none_yet : Places
    none_yet = fin.empty

    by : (q : DnKeys) → fin.get (node_map e cs) q ≡ cond (eq_by_cmp dn_key_cmp q []) (Some (Some e)) (fin.get none_yet q)
    by [] = get_root e cs ordered
    by (y ∷ q) = get_child e cs ordered y q ∙ ap (λ cs. child_get (lookup (is_at (rdn_key_cmp y)) cs) q) none ∙ sym (get-empty dn_key_cmp (y ∷ q))

-- ---- one step down

pub no_length : (path : DnKeys) → length path ≡ 0 → path ≡ []
no_length [] e = refl
no_length (x ∷ path) e = absurd (omega arith)

-- an empty place has only itself
pub empty_place : (q : DnKeys) → entry_in (fin.get (place_map None) q) ≡ None
empty_place q = ap entry_in (get-insert dn_key_cmp_total fin.empty [] None q ∙ ap (cond (eq_by_cmp dn_key_cmp q []) (Some None)) (get-empty dn_key_cmp q)) ∙ by (eq_by_cmp dn_key_cmp q [])
  where
    by : (b : Bool) → entry_in (cond b (Some None) None) ≡ None
    by true = refl
    by false = refl

pub has_place : (m : Places) (x : RdnKeys) (path : DnKeys) → is_some (entry_on m (x ∷ path)) ≡ true → HasPlace m x
has_place m x path there = (path, by (fin.get m (x ∷ path)) there)
  where
    by : (o : Option (Option Content)) → is_some (entry_in o) ≡ true → is_some o ≡ true
    by None h = h
    by (Some place) h = refl

-- there is something in a child's place if there is an entry at or below it
pub filled_place : (m : Places) (x : RdnKeys) (place : Option Places) → IsAt m (x ∷ []) (place_map place) → (path : DnKeys) → is_some (entry_on m (x ∷ path)) ≡ true → is_some place ≡ true
filled_place m x (Some n) is path there = refl
filled_place m x None is path there = sym (ap is_some (empty_place path)) ∙ ap (λ o. is_some (entry_in o)) (is path) ∙ there

-- or if there is a place below it
pub parent_place : (m : Places) (x : RdnKeys) (place : Option Places) → IsAt m (x ∷ []) (place_map place) → (y : RdnKeys) (path : DnKeys) → is_some (fin.get m (x ∷ y ∷ path)) ≡ true → is_some place ≡ true
parent_place m x (Some n) is y path there = refl
parent_place m x None is y path there =
    sym (ap is_some (get-insert dn_key_cmp_total fin.empty [] None (y ∷ path) ∙ get-empty dn_key_cmp (y ∷ path))) ∙ ap is_some (is (y ∷ path)) ∙ there

-- the node in a child's place
pub child_at : (m : Places) (x : RdnKeys) (place : Option Places) (n : Places) → IsAt m (x ∷ []) (place_map place) → place ≡ Some n → IsAt m (x ∷ []) n
child_at m x place n is same q = ap (λ place. fin.get (place_map place) q) (sym same) ∙ is q

-- what is in the place of a child
pub looked_up : (e : Content) (cs : Children) → AreOrdered cs → (x : RdnKeys) (place : Option Places) → lookup (is_at (rdn_key_cmp x)) cs ≡ Some place → IsAt (node_map e cs) (x ∷ []) (place_map place)
looked_up e cs ordered x place there q = sym (get_child e cs ordered x q ∙ ap (λ o. child_get o q) there)

pub nothing_below : (e : Content) (cs : Children) → AreOrdered cs → (x : RdnKeys) → option_flatten (lookup (is_at (rdn_key_cmp x)) cs) ≡ None → (q : DnKeys) → entry_on (node_map e cs) (x ∷ q) ≡ None
nothing_below e cs ordered x none q = ap entry_in (get_child e cs ordered x q) ∙ by (lookup (is_at (rdn_key_cmp x)) cs) none
  where
    by : (o : Option (Option Places)) → option_flatten o ≡ None → entry_in (child_get o q) ≡ None
    by None h = refl
    by (Some None) h = empty_place q
    by (Some (Some n)) h = absurd (cc)

pub place_there : (e : Content) (cs : Children) → AreOrdered cs → (x : RdnKeys) → HasPlace (node_map e cs) x → is_some (lookup (is_at (rdn_key_cmp x)) cs) ≡ true
place_there e cs ordered x has = by (lookup (is_at (rdn_key_cmp x)) cs) (sym (ap is_some (get_child e cs ordered x has.0)) ∙ has.1)
  where
    by : (o : Option (Option Places)) → is_some (child_get o has.0) ≡ true → is_some o ≡ true
    by None h = h
    by (Some place) h = refl

pub node_there : (e : Content) (cs : Children) → AreOrdered cs → (x : RdnKeys) → is_some (entry_on (node_map e cs) (x ∷ [])) ≡ true → is_some (option_flatten (lookup (is_at (rdn_key_cmp x)) cs)) ≡ true
node_there e cs ordered x there = by (lookup (is_at (rdn_key_cmp x)) cs) (sym (ap (λ o. is_some (entry_in o)) (get_child e cs ordered x [])) ∙ there)
  where
    by : (o : Option (Option Places)) → is_some (entry_in (child_get o [])) ≡ true → is_some (option_flatten o) ≡ true
    by None h = h
    by (Some None) h = sym (ap is_some (empty_place [])) ∙ h
    by (Some (Some n)) h = refl

pub only_flat : {A : Type 0} (o : Option (Option A)) (a : A) → option_flatten o ≡ Some a → o ≡ Some (Some a)
only_flat None a h = absurd (cc)
only_flat (Some None) a h = absurd (cc)
only_flat (Some (Some b)) a h = ap (λ o. Some o) h

-- ---- a write further down

-- what was in the place of a child is put there again
pub same_place : (m : Places) (x : RdnKeys) (place : Option Places) → IsAt m (x ∷ []) (place_map place) → with_child m x place ≡ m
same_place m x place is = same_map dn_key_cmp_total dn_key_cmp_exact _ _ (λ q. get_with_child m x place q ∙ by q)
  where
    by : (q : DnKeys) → grafted (rest_below (x ∷ []) q) (fin.get (place_map place)) (fin.get m q) ≡ fin.get m q
    by [] = refl
    by (y ∷ q) = here (rdn_key_eq x y) refl
      where
        here : (b : Bool) → rdn_key_eq x y ≡ b → grafted (cond b (Some q) None) (fin.get (place_map place)) (fin.get m (y ∷ q)) ≡ fin.get m (y ∷ q)
        here true t = is q ∙ ap (λ z. fin.get m (z ∷ q)) ((rdn_key_eq_decides x y).0 t)
        here false t = refl

-- nothing is at or below an empty place
pub nothing_in : (m : Places) (x : RdnKeys) (place : Option Places) → IsAt m (x ∷ []) (place_map place) → place ≡ None → (q : DnKeys) → entry_on m (x ∷ q) ≡ None
nothing_in m x place is none q = ap entry_in (sym (is q)) ∙ ap (λ place. entry_in (fin.get (place_map place) q)) none ∙ empty_place q

module _ (m : Places) (x : RdnKeys) (child : Places) (is : IsAt m (x ∷ []) child) where
  pub graft_child : (path : DnKeys) (new : DnKeys → Option (Option Content)) (after : Places) → IsGraft child path new after → IsGraft m (x ∷ path) new (with_child m x (Some after))
  graft_child path new after graft q = get_with_child m x (Some after) q ∙ by q
    where
      by : (q : DnKeys) → grafted (rest_below (x ∷ []) q) (fin.get after) (fin.get m q) ≡ grafted (rest_below (x ∷ path) q) new (fin.get m q)
      by [] = refl
      by (y ∷ q) = here (rdn_key_eq x y) refl
        where
          here : (b : Bool) → rdn_key_eq x y ≡ b → grafted (cond b (Some q) None) (fin.get after) (fin.get m (y ∷ q)) ≡ grafted (cond b (rest_below path q) None) new (fin.get m (y ∷ q))
          here true t = graft q ∙ ap (grafted (rest_below path q) new) (is q ∙ ap (λ z. fin.get m (z ∷ q)) ((rdn_key_eq_decides x y).0 t))
          here false t = refl

  -- or none
  pub same_child : with_child m x (Some child) ≡ m
  same_child = same_place m x (Some child) is

  pub insert_child : (path : DnKeys) (value : Option Content) → with_child m x (Some (fin.insert child path value)) ≡ fin.insert m (x ∷ path) value
  insert_child path value = same_map dn_key_cmp_total dn_key_cmp_exact _ _ (λ q. get_with_child m x (Some (fin.insert child path value)) q ∙ by q ∙ sym (get-insert dn_key_cmp_total m (x ∷ path) value q))
    where
      by : (q : DnKeys) → grafted (rest_below (x ∷ []) q) (fin.get (fin.insert child path value)) (fin.get m q) ≡ cond (eq_by_cmp dn_key_cmp q (x ∷ path)) (Some value) (fin.get m q)
      by [] = refl
      by (y ∷ q) = here (rdn_key_eq x y) refl
        where
          here : (b : Bool) → rdn_key_eq x y ≡ b → grafted (cond b (Some q) None) (fin.get (fin.insert child path value)) (fin.get m (y ∷ q)) ≡ cond (eq_by_cmp dn_key_cmp (y ∷ q) (x ∷ path)) (Some value) (fin.get m (y ∷ q))
          here true t =
              let same : x ≡ y = (rdn_key_eq_decides x y).0 t in
              get-insert dn_key_cmp_total child path value q
              ∙ (λ i. cond (eq_by_cmp dn_key_cmp q path) (Some value) ((is q ∙ ap (λ z. fin.get m (z ∷ q)) same) i))
              ∙ ap (λ b. cond b (Some value) (fin.get m (y ∷ q))) (sym (eq_under x q path) ∙ ap (λ z. eq_by_cmp dn_key_cmp (z ∷ q) (x ∷ path)) same)
          here false t =
              let other : is_eq (rdn_key_cmp y x) ≡ false = (eq_by_cmp_equiv rdn_key_cmp_total).symm y x ∙ sym (rdn_key_cmp_ties x y) ∙ t in
              ap (λ b. cond b (Some value) (fin.get m (y ∷ q))) (sym (not_equal (rdn_key_cmp y x) (dn_key_cmp q path) other))
