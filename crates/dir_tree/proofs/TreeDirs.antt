-- A tree of nodes as a directory: the entry at each key, and all entries in order.
use Rattle.std.proofs.Common.{◌≡◌, Bool, true, false, cond, T, List, [], ◌∷◌, ◌++◌, length, map, take, Option, Some, None, refl, sym, ap, subst, ◌∙◌, arith, append_assoc, length-append}
use Rattle.std.proofs.lemmas.List.{append-nil}
use Rattle.std.specs.List.{flat_map, list_all}
use Rattle.std.specs.Ordering.{eq_by_cmp, is_lt, ordering_then}
use Rattle.std.specs.Cmp.{tied_itself}
use Rattle.std.specs.FinMap as fin
use Rattle.std.specs.FinMap.{entries_sorted, entries-from_sorted, find, get-entries, get-from_entries, is_sorted, same_map}
use Rattle.std.specs.FinMap.Entries.{below_all}
use Rattle.dir_names.specs.Keys.{DnKeys, RdnKeys}
use Rattle.dir_names.specs.Names.{SpelledName}
use Rattle.dir_names.specs.Orders.{dn_key_cmp, dn_key_cmp_exact, dn_key_cmp_total, dn_key_eq, dn_key_eq_decides, rdn_key_cmp_total}
use Rattle.dir_names.proofs.Maps.{sorted_entries}
use Rattle.dir_names.proofs.Placed.{both, first, second, is_sorted-keys, keys_of}
use Rattle.dir_tree.specs.Content.{Content}
use Rattle.dir_tree.specs.Dir.{Dir, IsClosed, entry_at}
use Rattle.dir_tree.specs.Moves.{rest_below}
use Rattle.dir_tree.specs.SpelledNames.{named_entries, own_name_at, own_name_of, spelled_name}
use Rattle.dir_tree.specs.Inside.TreeNames.{name_in, named_place, named_places, own_in}
use Rattle.dir_tree.specs.Inside.TreeOrder.{Found}
use Rattle.dir_tree.specs.Inside.TreePlaces.{Places, entry_in, entry_on}
use Rattle.dir_tree.specs.Inside.Trees.{entries_below, entry_below, root_places, tree_dir}
use Rattle.dir_tree.proofs.DirLemmas.{same_key}
use Rattle.dir_tree.proofs.EachEntry.{apart}
use Rattle.dir_tree.proofs.RestBelow.{rest_is, rest_of}
use Rattle.dir_tree.proofs.SpelledLemmas.{by_last, spelled_child, spelled_suffix}
use Rattle.dir_tree.proofs.TreeNames.{name_last, name_root}
use Rattle.dir_tree.proofs.TreeNodes.{eq_under, truth}

-- ---- the entry at a key

pub eq_below : (s q p : DnKeys) → eq_by_cmp dn_key_cmp (s ++ q) (s ++ p) ≡ eq_by_cmp dn_key_cmp q p
eq_below [] q p = refl
eq_below (x ∷ s) q p = eq_under x (s ++ q) (s ++ p) ∙ eq_below s q p

sorted_first : (p : DnKeys) (es : Found) → T (below_all dn_key_cmp p es) → find dn_key_cmp p es ≡ None
sorted_first p es below = apart dn_key_cmp_total dn_key_cmp_exact (λ _. Unit {0}) p es (truth (alike es below))
  where
    alike : (es : Found) → T (below_all dn_key_cmp p es) → T (list_all (λ x. is_lt (dn_key_cmp p x)) (keys_of dn_key_cmp es))
    alike [] h = tt
    alike (e ∷ es) h = both _ _ (first (is_lt (dn_key_cmp p e.0)) _ h) (alike es (second (is_lt (dn_key_cmp p e.0)) _ h))

found_below : (s r : DnKeys) (es : Found) → T (is_sorted dn_key_cmp es) → find dn_key_cmp (s ++ r) (entries_below s es) ≡ entry_in (find dn_key_cmp r es)
found_below s r [] t = refl
found_below s r (e ∷ es) t = by (found_below s r es (second (below_all dn_key_cmp e.0 es) _ t)) e.1
  where
    by : find dn_key_cmp (s ++ r) (entries_below s es) ≡ entry_in (find dn_key_cmp r es) → (o : Option Content) → find dn_key_cmp (s ++ r) (entry_below s e.0 o ++ entries_below s es) ≡ entry_in (cond (eq_by_cmp dn_key_cmp r e.0) (Some o) (find dn_key_cmp r es))
    by rest None = rest ∙ alone (eq_by_cmp dn_key_cmp r e.0) refl
      where
        alone : (b : Bool) → eq_by_cmp dn_key_cmp r e.0 ≡ b → entry_in (find dn_key_cmp r es) ≡ entry_in (cond b (Some None) (find dn_key_cmp r es))
        alone true same = ap (λ z. entry_in (find dn_key_cmp z es)) (same_key r e.0 same) ∙ ap entry_in (sorted_first e.0 es (first (below_all dn_key_cmp e.0 es) _ t))
        alone false same = refl
    by rest (Some x) = ap (λ b. cond b (Some x) (find dn_key_cmp (s ++ r) (entries_below s es))) (eq_below s r e.0) ∙ here (eq_by_cmp dn_key_cmp r e.0)
      where
        here : (b : Bool) → cond b (Some x) (find dn_key_cmp (s ++ r) (entries_below s es)) ≡ entry_in (cond b (Some (Some x)) (find dn_key_cmp r es))
        here true = refl
        here false = rest

not_below : (s k : DnKeys) → rest_below s k ≡ None → (es : Found) → find dn_key_cmp k (entries_below s es) ≡ None
not_below s k none [] = refl
not_below s k none (e ∷ es) = by (not_below s k none es) e.1
  where
    by : find dn_key_cmp k (entries_below s es) ≡ None → (o : Option Content) → find dn_key_cmp k (entry_below s e.0 o ++ entries_below s es) ≡ None
    by rest None = rest
    by rest (Some x) = here (eq_by_cmp dn_key_cmp k (s ++ e.0)) refl
      where
        here : (b : Bool) → eq_by_cmp dn_key_cmp k (s ++ e.0) ≡ b → cond b (Some x) (find dn_key_cmp k (entries_below s es)) ≡ None
        here true same = absurd (apart_from (sym none ∙ ap (rest_below s) (same_key k (s ++ e.0) same) ∙ rest_of s e.0))
          where
            apart_from : ◌≡◌ {A = Option DnKeys} None (Some e.0) → ⊥
            apart_from h = cc
        here false same = rest

-- the entry of a tree, by what follows the suffix in a key
abbrev pub entry_of : Option Places → Option DnKeys → Option Content
entry_of root None = None
entry_of None (Some path) = None
entry_of (Some m) (Some path) = entry_on m path

pub get_tree : (s : DnKeys) (root : Option Places) (k : DnKeys) → entry_at (tree_dir s root) k ≡ entry_of root (rest_below s k)
get_tree s root k = get-from_entries dn_key_cmp_total (entries_below s (root_places root)) k ∙ by root (rest_below s k) refl
  where
    by : (root : Option Places) (o : Option DnKeys) → rest_below s k ≡ o → find dn_key_cmp k (entries_below s (root_places root)) ≡ entry_of root o
    by root None none = not_below s k none (root_places root)
    by None (Some path) is = refl
    by (Some m) (Some path) is =
        ap (λ z. find dn_key_cmp z (entries_below s (fin.entries m))) (rest_is s k path is) ∙ found_below s path (fin.entries m) (entries_sorted m) ∙ ap entry_in (sym (get-entries m path))

pub get_path : (s : DnKeys) (m : Places) (path : DnKeys) → entry_at (tree_dir s (Some m)) (s ++ path) ≡ entry_on m path
get_path s m path = get_tree s (Some m) (s ++ path) ∙ ap (entry_of (Some m)) (rest_of s path)

-- two directories with the same suffix and the same entry at each key
pub same_tree : (d e : Dir) → d.suffix ≡ e.suffix → ((k : DnKeys) → entry_at d k ≡ entry_at e k) → d ≡ e
same_tree d e s h = let entries = same_map dn_key_cmp_total dn_key_cmp_exact d.entries e.entries h in λ i. record { suffix = s i; entries = entries i }

-- ---- names as spelled

module _ (s : DnKeys) (m : Places) (closed : IsClosed (tree_dir s (Some m))) where
  own_below : (p : DnKeys) (part : RdnKeys) → own_name_at (tree_dir s (Some m)) (s ++ (p ++ part ∷ [])) ≡ own_in m (length s) (p ++ part ∷ [])
  own_below p part =
      (λ i. take (cond (longer i) (length (s ++ (p ++ part ∷ []))) 1) (own_name_of (get_path s m (p ++ part ∷ []) i))) ∙ one p
    where
      longer : dn_key_eq (s ++ (p ++ part ∷ [])) s ≡ false
      longer = by (dn_key_eq (s ++ (p ++ part ∷ [])) s) refl
        where
          by : (b : Bool) → dn_key_eq (s ++ (p ++ part ∷ [])) s ≡ b → b ≡ false
          by false t = refl
          by true t =
              let same : length (s ++ (p ++ part ∷ [])) ≡ length s = ap length ((dn_key_eq_decides (s ++ (p ++ part ∷ [])) s).0 t) in
              let count = length-append s (p ++ part ∷ []) in
              let more = length-append p (part ∷ []) in
              absurd (omega (arith, same, count, more))

      one : (p : DnKeys) → take 1 (own_name_of (entry_on m (p ++ part ∷ []))) ≡ own_in m (length s) (p ++ part ∷ [])
      one [] = refl
      one (x ∷ p) = refl

  own_suffix : own_name_at (tree_dir s (Some m)) s ≡ own_in m (length s) []
  own_suffix =
      (λ i. take (cond ((dn_key_eq_decides s s).1 refl i) (length s) 1) (own_name_of (entry_at (tree_dir s (Some m)) s)))
      ∙ ap (λ o. take (length s) (own_name_of o)) (ap (entry_at (tree_dir s (Some m))) (sym (append-nil s)) ∙ get_path s m [])

  pub spelled_path : (path : DnKeys) → spelled_name (tree_dir s (Some m)) (s ++ path) ≡ name_in m (length s) path
  spelled_path =
      by_last (λ path. spelled_name (tree_dir s (Some m)) (s ++ path) ≡ name_in m (length s) path)
      (ap (spelled_name (tree_dir s (Some m))) (append-nil s) ∙ spelled_suffix (tree_dir s (Some m)) closed s refl ∙ own_suffix ∙ sym (name_root m (length s)))
      (λ p part rest.
      ap (spelled_name (tree_dir s (Some m))) (sym (append_assoc s p (part ∷ [])))
      ∙ spelled_child (tree_dir s (Some m)) (s ++ p) part
      ∙ ap (λ k. own_name_at (tree_dir s (Some m)) k ++ spelled_name (tree_dir s (Some m)) (s ++ p)) (append_assoc s p (part ∷ []))
      ∙ (λ i. own_below p part i ++ rest i)
      ∙ sym (name_last m (length s) p part))

-- ---- all entries in order

less_below : (s p q : DnKeys) → T (is_lt (dn_key_cmp p q)) → T (is_lt (dn_key_cmp (s ++ p) (s ++ q)))
less_below [] p q h = h
less_below (x ∷ s) p q h = subst (λ o. T (is_lt (ordering_then o (dn_key_cmp (s ++ p) (s ++ q))))) (sym (tied_itself rdn_key_cmp_total x)) (less_below s p q h)

all_below : (s p : DnKeys) (es : Found) → T (below_all dn_key_cmp p es) → T (below_all dn_key_cmp (s ++ p) (entries_below s es))
all_below s p [] h = tt
all_below s p (e ∷ es) h = by (all_below s p es (second (is_lt (dn_key_cmp p e.0)) _ h)) e.1
  where
    by : T (below_all dn_key_cmp (s ++ p) (entries_below s es)) → (o : Option Content) → T (below_all dn_key_cmp (s ++ p) (entry_below s e.0 o ++ entries_below s es))
    by rest None = rest
    by rest (Some x) = both _ _ (less_below s p e.0 (first (is_lt (dn_key_cmp p e.0)) _ h)) rest

entries_rise : (s : DnKeys) (es : Found) → T (is_sorted dn_key_cmp es) → T (is_sorted dn_key_cmp (entries_below s es))
entries_rise s [] t = tt
entries_rise s (e ∷ es) t = by (entries_rise s es (second (below_all dn_key_cmp e.0 es) _ t)) e.1
  where
    by : T (is_sorted dn_key_cmp (entries_below s es)) → (o : Option Content) → T (is_sorted dn_key_cmp (entry_below s e.0 o ++ entries_below s es))
    by rest None = rest
    by rest (Some x) = both _ _ (all_below s e.0 es (first (below_all dn_key_cmp e.0 es) _ t)) rest

tree_entries : (s : DnKeys) (m : Places) → fin.entries (tree_dir s (Some m)).entries ≡ entries_below s (fin.entries m)
tree_entries s m =
    let rising = entries_rise s (fin.entries m) (entries_sorted m) in
    ap fin.entries (sorted_entries dn_key_cmp_total dn_key_cmp_exact (entries_below s (fin.entries m)) (subst T (is_sorted-keys dn_key_cmp (entries_below s (fin.entries m))) rising))
    ∙ entries-from_sorted dn_key_cmp (entries_below s (fin.entries m)) rising

pub all_named : (s : DnKeys) (m : Places) → IsClosed (tree_dir s (Some m)) → named_places m (length s) [] ≡ named_entries (tree_dir s (Some m))
all_named s m closed = by (fin.entries m) ∙ ap (map named) (sym (tree_entries s m))
  where
    named : DnKeys × Content → SpelledName × Content
    named p = (spelled_name (tree_dir s (Some m)) p.0, p.1)

    one : (path : DnKeys) (o : Option Content) (rest : List (SpelledName × Content)) (es : Found) → rest ≡ map named (entries_below s es) → named_place m (length s) [] path o ++ rest ≡ map named (entry_below s path o ++ entries_below s es)
    one path None rest es same = same
    one path (Some e) rest es same = λ i. ((append-nil (name_in m (length s) path) ∙ sym (spelled_path s m closed path)) i, e) ∷ same i

    by : (es : Found) → flat_map (λ p. named_place m (length s) [] p.0 p.1) es ≡ map named (entries_below s es)
    by [] = refl
    by (e ∷ es) = one e.0 e.1 (flat_map (λ p. named_place m (length s) [] p.0 p.1) es) es (by es)

pub none_named : (s : DnKeys) → named_entries (tree_dir s None) ≡ []
none_named s = ap (map (λ p. (spelled_name (tree_dir s None) p.0, p.1))) (entries_none)
  where
    entries_none : fin.entries (tree_dir s None).entries ≡ []
    entries_none = ap fin.entries (sorted_entries dn_key_cmp_total dn_key_cmp_exact [] tt) ∙ entries-from_sorted dn_key_cmp [] tt
