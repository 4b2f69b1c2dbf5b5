-- Names as spelled from a node down: from a node to its child, and all of them in order.
use Rattle.std.proofs.Common.{◌≡◌, ℕ, List, [], ◌∷◌, ◌++◌, map, length, take, Option, Some, None, refl, sym, ap, ◌∙◌, append_assoc, arith}
use Rattle.std.proofs.lemmas.List.{append-nil}
use Rattle.std.specs.List.{flat_map}
use Rattle.std.specs.FinMap as fin
use Rattle.std.specs.FinMap.Entries.{put}
use Rattle.std.specs.FinMap.{entries-insert, len-empty, len-entries}
use Rattle.dir_names.specs.Keys.{DnKeys, RdnKeys}
use Rattle.dir_names.specs.Names.{SpelledName}
use Rattle.dir_names.specs.Orders.{dn_key_cmp, dn_key_cmp_total}
use Rattle.dir_tree.specs.Content.{Content}
use Rattle.dir_tree.specs.SpelledNames.{own_name_of}
use Rattle.dir_tree.specs.WellFormed.{Each}
use Rattle.dir_tree.specs.Inside.TreeNames.{name_in, named_place, named_places, own_in}
use Rattle.dir_tree.specs.Inside.TreeOrder.{AreOrdered, Children, Found, node_entries}
use Rattle.dir_tree.specs.Inside.TreePlaces.{IsAt, Places, below_children, below_part, entry_in, node_map, place_map}
use Rattle.dir_tree.proofs.SpelledLemmas.{by_last, prefixes_child}
use Rattle.dir_tree.proofs.TreeChildren.{IsChildOf, children_of}
use Rattle.dir_tree.proofs.TreeNodes.{get_root}

-- ---- one name

pub name_root : (m : Places) (depth : ℕ) → name_in m depth [] ≡ own_in m depth []
name_root m depth = append-nil (own_in m depth [])

pub name_last : (m : Places) (depth : ℕ) (p : DnKeys) (part : RdnKeys) → name_in m depth (p ++ part ∷ []) ≡ own_in m depth (p ++ part ∷ []) ++ name_in m depth p
name_last m depth p part = ap (flat_map (own_in m depth)) (prefixes_child p part)

module _ (m : Places) (depth : ℕ) (x : RdnKeys) (child : Places) (is : IsAt m (x ∷ []) child) where
  own_child : (q : DnKeys) → own_in m depth (x ∷ q) ≡ own_in child 1 q
  own_child [] = ap (λ o. take 1 (own_name_of (entry_in o))) (sym (is []))
  own_child (y ∷ q) = ap (λ o. take 1 (own_name_of (entry_in o))) (sym (is (y ∷ q)))

  -- the name in a child, and the own name of the node
  pub name_child : (path : DnKeys) → name_in m depth (x ∷ path) ≡ name_in child 1 path ++ own_in m depth []
  name_child =
      by_last (λ path. name_in m depth (x ∷ path) ≡ name_in child 1 path ++ own_in m depth [])
      (name_last m depth [] x ∙ (λ i. own_child [] i ++ name_root m depth i) ∙ ap (λ names. names ++ own_in m depth []) (sym (name_root child 1)))
      (λ p part rest.
      name_last m depth (x ∷ p) part ∙ (λ i. own_child (p ++ part ∷ []) i ++ rest i)
      ∙ sym (append_assoc (own_in child 1 (p ++ part ∷ [])) (name_in child 1 p) (own_in m depth []))
      ∙ ap (λ names. names ++ own_in m depth []) (sym (name_last child 1 p part)))

pub own_root : (m : Places) (depth : ℕ) (e : Content) → fin.get m [] ≡ Some (Some e) → own_in m depth [] ≡ take depth e.own
own_root m depth e there = ap (λ o. take depth (own_name_of (entry_in o))) there

-- ---- all names

-- what is named in a child's place
abbrev pub named_child : SpelledName → Option Places → List (SpelledName × Content)
named_child name None = []
named_child name (Some m) = named_places m 1 name

abbrev pub named_children : SpelledName → Children → List (SpelledName × Content)
named_children name cs = flat_map (λ c. named_child name c.1) cs

empty_entries : fin.entries (place_map None) ≡ ([], None) ∷ []
empty_entries = entries-insert dn_key_cmp_total fin.empty [] None ∙ ap (put dn_key_cmp [] None) (none (fin.entries fin.empty) (sym (len-entries fin.empty) ∙ len-empty dn_key_cmp (Option Content)))
  where
    none : (es : Found) → length es ≡ 0 → es ≡ []
    none [] e = refl
    none (x ∷ es) e = absurd (omega arith)

flat_append : {A B : Type 0} (f : A → List B) (xs ys : List A) → flat_map f (xs ++ ys) ≡ flat_map f xs ++ flat_map f ys
flat_append f [] ys = refl
flat_append f (x ∷ xs) ys = ap (λ zs. f x ++ zs) (flat_append f xs ys) ∙ sym (append_assoc (f x) (flat_map f xs) (flat_map f ys))

module _ (m : Places) (depth : ℕ) (above : SpelledName) where
  abbrev named_at : DnKeys × Option Content → List (SpelledName × Content)
  named_at p = named_place m depth above p.0 p.1

  module _ (x : RdnKeys) (child : Places) (is : IsAt m (x ∷ []) child) where
    place_named : (path : DnKeys) (place : Option Content) → named_place m depth above (x ∷ path) place ≡ named_place child 1 (own_in m depth [] ++ above) path place
    place_named path None = refl
    place_named path (Some e) =
        ap (λ name. (name, e) ∷ []) (ap (λ name. name ++ above) (name_child m depth x child is path) ∙ append_assoc (name_in child 1 path) (own_in m depth []) above)

    places_named : (es : Found) → flat_map named_at (map (below_part x) es) ≡ flat_map (λ p. named_place child 1 (own_in m depth [] ++ above) p.0 p.1) es
    places_named [] = refl
    places_named (e ∷ es) = λ i. place_named e.0 e.1 i ++ places_named es i

  child_named : (c : RdnKeys × Option Places) → IsAt m (c.0 ∷ []) (place_map c.1) → flat_map named_at (map (below_part c.0) (fin.entries (place_map c.1))) ≡ named_child (own_in m depth [] ++ above) c.1
  child_named c is = by c.1 is
    where
      by : (place : Option Places) → IsAt m (c.0 ∷ []) (place_map place) → flat_map named_at (map (below_part c.0) (fin.entries (place_map place))) ≡ named_child (own_in m depth [] ++ above) place
      by None is = ap (λ es. flat_map named_at (map (below_part c.0) es)) empty_entries
      by (Some n) is = places_named c.0 n is (fin.entries n)

  children_named : (cs : Children) → Each (IsChildOf m) cs → flat_map named_at (below_children cs) ≡ named_children (own_in m depth [] ++ above) cs
  children_named [] each = refl
  children_named (c ∷ cs) each =
      flat_append named_at (map (below_part c.0) (fin.entries (place_map c.1))) (below_children cs) ∙ (λ i. child_named c (each.0).0 i ++ children_named cs each.1 i)

-- the node's entry first, and then what is in each child
pub node_named : (e : Content) (cs : Children) → AreOrdered cs → (depth : ℕ) (above : SpelledName) → named_places (node_map e cs) depth above ≡ (take depth e.own ++ above, e) ∷ named_children (take depth e.own ++ above) cs
node_named e cs ordered depth above =
    let own : own_in (node_map e cs) depth [] ≡ take depth e.own = own_root (node_map e cs) depth e (get_root e cs ordered) in
    ap (flat_map (named_at (node_map e cs) depth above)) (node_entries e cs ordered)
    ∙ (λ i. (name_root (node_map e cs) depth i ++ above, e) ∷ children_named (node_map e cs) depth above cs (children_of e cs ordered) i)
    ∙ ap (λ own. (own ++ above, e) ∷ named_children (own ++ above) cs) own
