-- The children of a node, one by one.
use Rattle.std.proofs.Common.{◌≡◌, ℕ, ◌+◌, ◌<◌, ◌≤◌, Bool, true, false, cond, [], ◌∷◌, map, length, Option, Some, None, is_some, refl, sym, ap, subst, ◌∙◌, arith, length-append, true≢false}
use Rattle.std.proofs.lemmas.List.{length-map}
use Rattle.std.specs.FinMap as fin
use Rattle.std.specs.FinMap.{find, len-entries}
use Rattle.std.specs.Cmp.{Equal-is}
use Rattle.std.specs.Ordering.{eq_by_cmp}
use Rattle.std.specs.Map.{lookup}
use Rattle.std.specs.BTreeMap.{is_at}
use Rattle.dir_names.specs.Keys.{DnKeys, RdnKeys}
use Rattle.dir_names.specs.Orders.{rdn_key_cmp, rdn_key_cmp_exact, rdn_key_cmp_total}
use Rattle.dir_names.proofs.Maps.{lookup_find, rises_from_ordered}
use Rattle.dir_names.proofs.Placed.{keys_of}
use Rattle.dir_tree.specs.Content.{Content}
use Rattle.dir_tree.specs.WellFormed.{Each}
use Rattle.dir_tree.specs.Inside.TreeOrder.{AreOrdered, Children, node_entries}
use Rattle.dir_tree.specs.Inside.TreePlaces.{IsAt, Places, below_children, below_part, entry_in, entry_on, node_map, place_map}
use Rattle.dir_tree.proofs.EachEntry.{each_found}
use Rattle.dir_tree.proofs.TreeNodes.{child_get, empty_place, get_child, looked_up, truth}

-- the child's place is there, and smaller than the node
abbrev pub IsChildOf : Places → RdnKeys × Option Places → Type 0
IsChildOf m c = IsAt m (c.0 ∷ []) (place_map c.1) × (fin.len (place_map c.1) < fin.len m)

no_larger : (cs : Children) → Each (λ c. fin.len (place_map c.1) ≤ length (below_children cs)) cs
no_larger cs = upto cs cs (length (below_children cs)) (omega arith)
  where
    upto : (all cs : Children) (n : ℕ) → length (below_children cs) ≤ n → Each (λ c. fin.len (place_map c.1) ≤ n) cs
    upto all [] n h = tt
    upto all (c ∷ cs) n h =
        let count = len-entries (place_map c.1) in
        let size = length-append (map (below_part c.0) (fin.entries (place_map c.1))) (below_children cs) in
        let mapped = length-map (fin.entries (place_map c.1)) (below_part c.0) in
        (omega (arith, count, size, mapped, h), upto all cs n (omega (arith, size, h)))

both_each : {P Q R : RdnKeys × Option Places → Type 0} → ((c : RdnKeys × Option Places) → P c → Q c → R c) → (cs : Children) → Each P cs → Each Q cs → Each R cs
both_each f [] p q = tt
both_each f (c ∷ cs) p q = (f c p.0 q.0, both_each f cs p.1 q.1)

pub children_of : (e : Content) (cs : Children) → AreOrdered cs → Each (IsChildOf (node_map e cs)) cs
children_of e cs ordered =
    let count : fin.len (node_map e cs) ≡ length (below_children cs) + 1 = len-entries (node_map e cs) ∙ ap length (node_entries e cs ordered) ∙ omega arith in
    both_each {P = λ c. IsAt (node_map e cs) (c.0 ∷ []) (place_map c.1)} {Q = λ c. fin.len (place_map c.1) ≤ length (below_children cs)} {R = IsChildOf (node_map e cs)} (λ c is small. (is, omega (arith, count, small))) cs
    (each_found rdn_key_cmp_total rdn_key_cmp_exact (λ c. IsAt (node_map e cs) (c.0 ∷ []) (place_map c.1)) cs (truth (rises_from_ordered rdn_key_cmp (keys_of rdn_key_cmp cs) ordered))
    (λ x place there. looked_up e cs ordered x place (lookup_find rdn_key_cmp_total x cs ∙ there)))
    (no_larger cs)

-- an entry below a child is that of a child that is listed
pub all_listed : (e : Content) (cs : Children) → AreOrdered cs → (x : RdnKeys) (path : DnKeys) → is_some (entry_on (node_map e cs) (x ∷ path)) ≡ true → is_some (find rdn_key_cmp x cs) ≡ true
all_listed e cs ordered x path there = ap is_some (sym (lookup_find rdn_key_cmp_total x cs)) ∙ by (lookup (is_at (rdn_key_cmp x)) cs) (sym (ap (λ o. is_some (entry_in o)) (get_child e cs ordered x path)) ∙ there)
  where
    by : (o : Option (Option Places)) → is_some (entry_in (child_get o path)) ≡ true → is_some o ≡ true
    by None h = h
    by (Some place) h = refl

-- the first that is listed, or another
pub first_listed : {A : Type 0} (c : RdnKeys × Option Places) (cs : Children) (x : RdnKeys) → is_some (find rdn_key_cmp x (c ∷ cs)) ≡ true → (x ≡ c.0 → A) → (is_some (find rdn_key_cmp x cs) ≡ true → A) → A
first_listed {A} c cs x there here later = by (eq_by_cmp rdn_key_cmp x c.0) refl there
  where
    by : (b : Bool) → eq_by_cmp rdn_key_cmp x c.0 ≡ b → is_some (cond b (Some c.1) (find rdn_key_cmp x cs)) ≡ true → A
    by true t h = here (rdn_key_cmp_exact x c.0 ((Equal-is (rdn_key_cmp x c.0)).0 t))
    by false t h = later h

-- the child that comes next, and those after it
pub this_child : (m : Places) (left : Children) (k : RdnKeys) (place : Option Places) (cs : Children) → left ≡ (k, place) ∷ cs → Each (IsChildOf m) left → IsChildOf m (k, place)
this_child m left k place cs next each = (subst (Each (IsChildOf m)) next each).0

pub other_children : (m : Places) (left : Children) (k : RdnKeys) (place : Option Places) (cs : Children) → left ≡ (k, place) ∷ cs → Each (IsChildOf m) left → Each (IsChildOf m) cs
other_children m left k place cs next each = (subst (Each (IsChildOf m)) next each).1

-- no entry is at or below an empty place
pub none_in_place : (m : Places) (k : RdnKeys) (place : Option Places) → IsAt m (k ∷ []) (place_map place) → place ≡ None → (path : DnKeys) → is_some (entry_on m (k ∷ path)) ≡ true → ⊥
none_in_place m k place is none path there =
    true≢false (sym there ∙ ap (λ o. is_some (entry_in o)) (sym (is path)) ∙ ap (λ place. is_some (entry_in (fin.get (place_map place) path))) none ∙ ap is_some (empty_place path))
