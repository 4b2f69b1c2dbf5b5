-- The paths of a node are in order, and a child has fewer than its parent.
use Rattle.std.specs.Prelude.{◌≡◌, ℕ, ◌+◌, ◌≤◌, T, List, [], ◌∷◌, ◌++◌, map, length, Option, Some}
use Rattle.std.proofs.Common.{sym, ap, subst, ◌∙◌, arith, length-append}
use Rattle.std.specs.declared.cmp.Ordering.{Ordering}
use Rattle.std.specs.declared.cmp.Ordering.TheVariants.{Less, Equal, Greater}
use Rattle.std.specs.Ordering.{is_lt, ordering_then}
use Rattle.std.specs.Cmp.{tied_itself}
use Rattle.std.specs.List.{list_all}
use Rattle.std.specs.List.Sorted.{IsStrictlySortedBy}
use Rattle.std.specs.FinMap as fin
use Rattle.std.specs.FinMap.{entries_sorted, entries-from_sorted, is_sorted, len-entries}
use Rattle.std.specs.FinMap.Entries.{below_all}
use Rattle.std.proofs.lemmas.List.{length-map}
use denote.Param.Weighed.{most}
use Rattle.dir_names.specs.Keys.{DnKeys, RdnKeys}
use Rattle.dir_names.specs.Orders.{dn_key_cmp, rdn_key_cmp, rdn_key_cmp_total}
use Rattle.dir_names.specs.Sorted.{rises}
use Rattle.dir_names.proofs.Maps.{rises_from_ordered}
use Rattle.dir_names.proofs.Placed.{both, first, second, keys_of}
use Rattle.dir_tree.specs.Content.{Content}
use Rattle.dir_tree.specs.Inside.TreePlaces.{Places, below_children, below_part, node_map, place_map}

abbrev pub Children : Type 0
Children = List (RdnKeys × Option Places)

abbrev pub Found : Type 0
Found = List (DnKeys × Option Content)

-- ---- paths in order

below_append : (k : DnKeys) (xs ys : Found) → T (below_all dn_key_cmp k xs) → T (below_all dn_key_cmp k ys) → T (below_all dn_key_cmp k (xs ++ ys))
below_append k [] ys h t = t
below_append k (x ∷ xs) ys h t = both _ _ (first (is_lt (dn_key_cmp k x.0)) _ h) (below_append k xs ys (second (is_lt (dn_key_cmp k x.0)) _ h) t)

below_under : (x : RdnKeys) (p : DnKeys) (es : Found) → T (below_all dn_key_cmp p es) → T (below_all dn_key_cmp (x ∷ p) (map (below_part x) es))
below_under x p [] h = tt
below_under x p (e ∷ es) h =
    both _ _ (subst (λ o. T (is_lt (ordering_then o (dn_key_cmp p e.0)))) (sym (tied_itself rdn_key_cmp_total x)) (first (is_lt (dn_key_cmp p e.0)) _ h)) (below_under x p es (second (is_lt (dn_key_cmp p e.0)) _ h))

less_then : (o r : Ordering) → T (is_lt o) → T (is_lt (ordering_then o r))
less_then Less r h = tt
less_then Equal r h = absurd h
less_then Greater r h = absurd h

below_later : (x : RdnKeys) (p : DnKeys) (y : RdnKeys) (es : Found) → T (is_lt (rdn_key_cmp x y)) → T (below_all dn_key_cmp (x ∷ p) (map (below_part y) es))
below_later x p y [] h = tt
below_later x p y (e ∷ es) h = both _ _ (less_then (rdn_key_cmp x y) (dn_key_cmp p e.0) h) (below_later x p y es h)

below_others : (x : RdnKeys) (p : DnKeys) (cs : Children) → T (list_all (λ y. is_lt (rdn_key_cmp x y)) (keys_of rdn_key_cmp cs)) → T (below_all dn_key_cmp (x ∷ p) (below_children cs))
below_others x p [] h = tt
below_others x p (c ∷ cs) h =
    below_append (x ∷ p) (map (below_part c.0) (fin.entries (place_map c.1))) (below_children cs)
    (below_later x p c.0 (fin.entries (place_map c.1)) (first (is_lt (rdn_key_cmp x c.0)) _ h))
    (below_others x p cs (second (is_lt (rdn_key_cmp x c.0)) _ h))

sorted_join : (x : RdnKeys) (es : Found) → T (is_sorted dn_key_cmp es) → (ys : Found) → ((p : DnKeys) → T (below_all dn_key_cmp (x ∷ p) ys)) → T (is_sorted dn_key_cmp ys) → T (is_sorted dn_key_cmp (map (below_part x) es ++ ys))
sorted_join x [] s ys b t = t
sorted_join x (e ∷ es) s ys b t =
    both _ _ (below_append (x ∷ e.0) (map (below_part x) es) ys (below_under x e.0 es (first (below_all dn_key_cmp e.0 es) _ s)) (b e.0)) (sorted_join x es (second (below_all dn_key_cmp e.0 es) _ s) ys b t)

below_root : (cs : Children) → T (below_all dn_key_cmp [] (below_children cs))
below_root [] = tt
below_root (c ∷ cs) = below_append [] (map (below_part c.0) (fin.entries (place_map c.1))) (below_children cs) (each (fin.entries (place_map c.1))) (below_root cs)
  where
    each : (es : Found) → T (below_all dn_key_cmp [] (map (below_part c.0) es))
    each [] = tt
    each (e ∷ es) = each es

children_sorted : (cs : Children) → T (rises rdn_key_cmp (keys_of rdn_key_cmp cs)) → T (is_sorted dn_key_cmp (below_children cs))
children_sorted [] t = tt
children_sorted (c ∷ cs) t =
    sorted_join c.0 (fin.entries (place_map c.1)) (entries_sorted (place_map c.1)) (below_children cs)
    (λ p. below_others c.0 p cs (first (list_all (λ z. is_lt (rdn_key_cmp c.0 z)) (keys_of rdn_key_cmp cs)) _ t))
    (children_sorted cs (second (list_all (λ z. is_lt (rdn_key_cmp c.0 z)) (keys_of rdn_key_cmp cs)) _ t))

abbrev pub AreOrdered : Children → Type 0
AreOrdered cs = IsStrictlySortedBy rdn_key_cmp (keys_of rdn_key_cmp cs)

pub node_sorted : (e : Content) (cs : Children) → AreOrdered cs → T (is_sorted dn_key_cmp (([], Some e) ∷ below_children cs))
node_sorted e cs ordered = both _ _ (below_root cs) (children_sorted cs (rises_from_ordered rdn_key_cmp (keys_of rdn_key_cmp cs) ordered))

-- all paths, a node before its children
pub node_entries : (e : Content) (cs : Children) → AreOrdered cs → fin.entries (node_map e cs) ≡ ([], Some e) ∷ below_children cs
node_entries e cs ordered = entries-from_sorted dn_key_cmp (([], Some e) ∷ below_children cs) (node_sorted e cs ordered)

-- a child's map is smaller than its parent's
children_fit : (weight : Option Places → ℕ) → ((place : Option Places) → weight place ≤ fin.len (place_map place) + 1) → (cs : Children) → most weight (map (λ c. c.1) cs) ≤ length (below_children cs) + 1
children_fit weight h [] = omega arith
children_fit weight h (c ∷ cs) =
    let here = h c.1 in
    let rest = children_fit weight h cs in
    let count = len-entries (place_map c.1) in
    let size = length-append (map (below_part c.0) (fin.entries (place_map c.1))) (below_children cs) in
    let mapped = length-map (fin.entries (place_map c.1)) (below_part c.0) in
    omega (arith, here, rest, count, size, mapped)

pub children_are_smaller : (weight : Option Places → ℕ) → ((place : Option Places) → weight place ≤ fin.len (place_map place) + 1) → (e : Content) (cs : Children) → AreOrdered cs → most weight (map (λ c. c.1) cs) ≤ fin.len (node_map e cs)
children_are_smaller weight h e cs ordered =
    let count : fin.len (node_map e cs) ≡ length (below_children cs) + 1 = len-entries (node_map e cs) ∙ ap length (node_entries e cs ordered) ∙ omega arith in
    let fit = children_fit weight h cs in
    omega (arith, count, fit)
