-- The names of entries as spelled: from a name to the one below it, that nothing is above the suffix, and what a write leaves as it is.
use Rattle.std.proofs.Common.{◌≡◌, ℕ, zero, suc, ◌+◌, ◌<◌, ◌≤◌, Bool, true, false, cond, ◌||◌, List, [], ◌∷◌, ◌++◌, map, reverse, length, take, Option, Some, None, is_some, refl, sym, ap, subst, ◌∙◌, arith, append_assoc, length-append, true≢false}
use Rattle.std.specs.List.{flat_map, range_with_len}
use Rattle.std.specs.Ordering.{eq_by_cmp}
use Rattle.std.proofs.lemmas.List.{append-nil, take-append-le, take_all, length-take-le, reverse-append}
use Rattle.std.proofs.lemmas.List.FromFn.{map-range_with_len_more}
use Rattle.dir_names.specs.Keys.{DnKeys, RdnKeys, IsAtOrBelow, parent_of}
use Rattle.dir_names.specs.Orders.{dn_key_cmp, dn_key_eq, dn_key_eq_decides}
use Rattle.dir_tree.specs.Content.{Content}
use Rattle.dir_tree.specs.Dir.{Dir, IsClosed, entry_at, put_entry, remove_entry}
use Rattle.dir_tree.specs.SpelledNames.{own_depth, own_name_at, own_name_of, prefixes, spelled_name}
use Rattle.dir_tree.proofs.DirLemmas.{same_key, get_put, get_without, last_part, parent_child}
use Rattle.dir_tree.proofs.NextKey.{reaches}

-- ---- own names

none_taken : {A : Type 0} (n : ℕ) → ◌≡◌ {A = List A} (take n []) []
none_taken zero = refl
none_taken (suc n) = refl

-- what is taken is no longer
pub taken_short : {A : Type 0} (n : ℕ) (xs : List A) → length (take n xs) ≤ n
taken_short zero xs = omega arith
taken_short (suc n) [] = omega arith
taken_short (suc n) (x ∷ xs) = let rest = taken_short n xs in omega (arith, rest)

-- the own name of an entry, as far as it counts
pub own_here : (d : Dir) (k : DnKeys) (e : Content) → entry_at d k ≡ Some e → own_name_at d k ≡ take (own_depth d.suffix k) e.own
own_here d k e there = ap (λ o. take (own_depth d.suffix k) (own_name_of o)) there

own_none : (d : Dir) (k : DnKeys) → entry_at d k ≡ None → own_name_at d k ≡ []
own_none d k none = ap (λ o. take (own_depth d.suffix k) (own_name_of o)) none ∙ none_taken (own_depth d.suffix k)

-- ---- from a key to what is directly below it

pub same_below : {A : Type 0} (f g : ℕ → A) (a n : ℕ) → ((i : ℕ) → i < a + n → f i ≡ g i) → map f (range_with_len a n) ≡ map g (range_with_len a n)
same_below f g a zero h = refl
same_below f g a (suc n) h = λ i. h a (omega arith) i ∷ same_below f g (a + 1) n (λ j l. h j (omega arith)) i

pub prefixes_child : (p : DnKeys) (part : RdnKeys) → prefixes (p ++ part ∷ []) ≡ (p ++ part ∷ []) ∷ prefixes p
prefixes_child p part =
    let k : DnKeys = p ++ part ∷ [] in
    let count : length k ≡ length p + 1 = length-append p (part ∷ []) in
    let more = map-range_with_len_more (λ n. take n k) 0 (length p + 1) (length p + 1) (omega arith) in
    let whole : take (length p + 1) k ≡ k = take_all (length p + 1) k (omega (arith, count)) in
    let shorter = same_below (λ n. take n k) (λ n. take n p) 0 (length p + 1) (λ n l. take-append-le n p (part ∷ []) (omega arith)) in
    ap (λ n. reverse (map (λ n. take n k) (range_with_len 0 (n + 1)))) count
    ∙ ap reverse (more ∙ (λ i. shorter i ++ whole i ∷ []))
    ∙ reverse-append (map (λ n. take n p) (range_with_len 0 (length p + 1))) (k ∷ [])

-- an entry's own name comes before the name of the entry above it
pub spelled_child : (d : Dir) (p : DnKeys) (part : RdnKeys) → spelled_name d (p ++ part ∷ []) ≡ own_name_at d (p ++ part ∷ []) ++ spelled_name d p
spelled_child d p part = ap (flat_map (own_name_at d)) (prefixes_child p part)

pub spelled_below : (d : Dir) (q p : DnKeys) → parent_of q ≡ Some p → spelled_name d q ≡ own_name_at d q ++ spelled_name d p
spelled_below d q p e =
    let child = parent_child q p e in
    subst (λ z. spelled_name d z ≡ own_name_at d z ++ spelled_name d p) (sym child.1) (spelled_child d p child.0)

pub spelled_root : (d : Dir) → spelled_name d [] ≡ own_name_at d []
spelled_root d = append-nil (own_name_at d [])

-- ---- keys, by their last parts

pub by_last : (P : DnKeys → Type 0) → P [] → ((p : DnKeys) → (part : RdnKeys) → P p → P (p ++ part ∷ [])) → (k : DnKeys) → P k
by_last P base step k = upto (length k) k (omega arith)
  where
    upto : (n : ℕ) (k : DnKeys) → length k ≤ n → P k
    upto n [] bound = base
    upto zero (x ∷ xs) bound = absurd (omega (arith, bound))
    upto (suc n) (x ∷ xs) bound =
        let above : DnKeys = take (length xs) (x ∷ xs) in
        let short : length above ≡ length xs = length-take-le (length xs) (x ∷ xs) (omega arith) in
        let last = last_part x xs in
        subst P (sym last.1) (step above last.0 (upto n above (omega (arith, short, bound))))

-- ---- above the suffix

-- what is shorter than the suffix has no entry
pub none_above : (d : Dir) → IsClosed d → (k : DnKeys) → length k < length d.suffix → entry_at d k ≡ None
none_above d closed k short = by (entry_at d k) refl
  where
    by : (o : Option Content) → entry_at d k ≡ o → o ≡ None
    by None e = refl
    by (Some x) e = let long = reaches d closed (length k) k (omega arith) (ap is_some e) in absurd (omega (arith, long, short))

pub spelled_above : (d : Dir) → IsClosed d → (k : DnKeys) → length k < length d.suffix → spelled_name d k ≡ []
spelled_above d closed =
    by_last (λ k. length k < length d.suffix → spelled_name d k ≡ [])
    (λ short. spelled_root d ∙ own_none d [] (none_above d closed [] short))
    (λ p part rest short.
    let count = length-append p (part ∷ []) in
    spelled_child d p part ∙ (λ i. own_none d (p ++ part ∷ []) (none_above d closed (p ++ part ∷ []) short) i ++ rest (omega (arith, count, short)) i))

-- the suffix's entry has the whole name
pub spelled_suffix : (d : Dir) → IsClosed d → (k : DnKeys) → k ≡ d.suffix → spelled_name d k ≡ own_name_at d k
spelled_suffix d closed =
    by_last (λ k. k ≡ d.suffix → spelled_name d k ≡ own_name_at d k)
    (λ e. spelled_root d)
    (λ p part rest e.
    let count = length-append p (part ∷ []) in
    let long : length (p ++ part ∷ []) ≡ length d.suffix = ap length e in
    spelled_child d p part
    ∙ ap (λ names. own_name_at d (p ++ part ∷ []) ++ names) (spelled_above d closed p (omega (arith, count, long)))
    ∙ append-nil (own_name_at d (p ++ part ∷ [])))

-- ---- the length of a name

-- a name has at most as many RDNs as its key
pub spelled_short : (d : Dir) → IsClosed d → (k : DnKeys) → length (spelled_name d k) ≤ length k
spelled_short d closed = by_last (λ k. length (spelled_name d k) ≤ length k) (root (entry_at d []) refl) (λ p part rest. below p part rest (dn_key_eq (p ++ part ∷ []) d.suffix) refl)
  where
    depth_at : (k : DnKeys) (b : Bool) → dn_key_eq k d.suffix ≡ b → own_depth d.suffix k ≡ cond b (length k) 1
    depth_at k b t = ap (λ b. cond b (length k) 1) t

    root : (o : Option Content) → entry_at d [] ≡ o → length (spelled_name d []) ≤ 0
    root None none = let same = ap length (spelled_root d ∙ own_none d [] none) in omega (arith, same)
    root (Some e) there = by (dn_key_eq [] d.suffix) refl (closed [] (ap is_some there))
      where
        by : (b : Bool) → dn_key_eq [] d.suffix ≡ b → (b || false) ≡ true → length (spelled_name d []) ≤ 0
        by true t h =
            let same = ap length (spelled_root d) in
            let short = taken_short (own_depth d.suffix []) (own_name_of (entry_at d [])) in
            let depth : own_depth d.suffix [] ≡ 0 = depth_at [] true t in
            omega (arith, same, short, depth)
        by false t h = absurd (true≢false (sym h))

    below : (p : DnKeys) (part : RdnKeys) → length (spelled_name d p) ≤ length p → (b : Bool) → dn_key_eq (p ++ part ∷ []) d.suffix ≡ b → length (spelled_name d (p ++ part ∷ [])) ≤ length (p ++ part ∷ [])
    below p part rest true t =
        let q : DnKeys = p ++ part ∷ [] in
        let same = ap length (spelled_suffix d closed q ((dn_key_eq_decides q d.suffix).0 t)) in
        let short = taken_short (own_depth d.suffix q) (own_name_of (entry_at d q)) in
        let depth : own_depth d.suffix q ≡ length q = depth_at q true t in
        omega (arith, same, short, depth)
    below p part rest false t =
        let q : DnKeys = p ++ part ∷ [] in
        let count : length q ≡ length p + 1 = length-append p (part ∷ []) in
        let same : length (spelled_name d q) ≡ length (own_name_at d q) + length (spelled_name d p) = ap length (spelled_child d p part) ∙ length-append (own_name_at d q) (spelled_name d p) in
        let short = taken_short (own_depth d.suffix q) (own_name_of (entry_at d q)) in
        let depth : own_depth d.suffix q ≡ 1 = depth_at q false t in
        omega (arith, count, same, short, depth, rest)

-- ---- after a write

-- a name is made of the own names on its path alone
pub spelled_same : (d e : Dir) (q : DnKeys) → ((x : DnKeys) → IsAtOrBelow q x → own_name_at d x ≡ own_name_at e x) → spelled_name d q ≡ spelled_name e q
spelled_same d e =
    by_last (λ q. ((x : DnKeys) → IsAtOrBelow q x → own_name_at d x ≡ own_name_at e x) → spelled_name d q ≡ spelled_name e q)
    (λ h. spelled_root d ∙ h [] ([], refl) ∙ sym (spelled_root e))
    (λ p part rest h.
    let q : DnKeys = p ++ part ∷ [] in
    spelled_child d p part
    ∙ (λ i. h q ([], sym (append-nil q)) i ++ rest (λ x lies. h x (lies.0 ++ part ∷ [], ap (λ z. z ++ part ∷ []) lies.1 ∙ append_assoc x lies.0 (part ∷ []))) i)
    ∙ sym (spelled_child e p part))

pub own_put : (d : Dir) (k : DnKeys) (e : Content) (q : DnKeys) → own_name_at (put_entry d k e) q ≡ cond (eq_by_cmp dn_key_cmp q k) (take (own_depth d.suffix q) e.own) (own_name_at d q)
own_put d k e q = ap (λ o. take (own_depth d.suffix q) (own_name_of o)) (get_put d k e q) ∙ by (eq_by_cmp dn_key_cmp q k)
  where
    by : (b : Bool) → take (own_depth d.suffix q) (own_name_of (cond b (Some e) (entry_at d q))) ≡ cond b (take (own_depth d.suffix q) e.own) (own_name_at d q)
    by true = refl
    by false = refl

pub own_without : (d : Dir) (k q : DnKeys) → own_name_at (remove_entry d k) q ≡ cond (eq_by_cmp dn_key_cmp q k) [] (own_name_at d q)
own_without d k q = ap (λ o. take (own_depth d.suffix q) (own_name_of o)) (get_without d k q) ∙ by (eq_by_cmp dn_key_cmp q k)
  where
    by : (b : Bool) → take (own_depth d.suffix q) (own_name_of (cond b None (entry_at d q))) ≡ cond b [] (own_name_at d q)
    by true = none_taken (own_depth d.suffix q)
    by false = refl

-- what doesn't lie at or below the written key is spelled as before
pub spelled_put_apart : (d : Dir) (k : DnKeys) (e : Content) (q : DnKeys) → ¬ (IsAtOrBelow q k) → spelled_name (put_entry d k e) q ≡ spelled_name d q
spelled_put_apart d k e q apart = spelled_same (put_entry d k e) d q (λ x lies. own_put d k e x ∙ by x lies _ refl)
  where
    by : (x : DnKeys) → IsAtOrBelow q x → (b : Bool) → eq_by_cmp dn_key_cmp x k ≡ b → cond b (take (own_depth d.suffix x) e.own) (own_name_at d x) ≡ own_name_at d x
    by x lies true t = absurd (apart (subst (λ z. IsAtOrBelow q z) (same_key x k t) lies))
    by x lies false t = refl

pub spelled_without_apart : (d : Dir) (k q : DnKeys) → ¬ (IsAtOrBelow q k) → spelled_name (remove_entry d k) q ≡ spelled_name d q
spelled_without_apart d k q apart = spelled_same (remove_entry d k) d q (λ x lies. own_without d k x ∙ by x lies _ refl)
  where
    by : (x : DnKeys) → IsAtOrBelow q x → (b : Bool) → eq_by_cmp dn_key_cmp x k ≡ b → cond b [] (own_name_at d x) ≡ own_name_at d x
    by x lies true t = absurd (apart (subst (λ z. IsAtOrBelow q z) (same_key x k t) lies))
    by x lies false t = refl

-- an entry that keeps its own name changes no name
pub spelled_put_same : (d : Dir) (k : DnKeys) (e : Content) → own_name_of (entry_at d k) ≡ e.own → (q : DnKeys) → spelled_name (put_entry d k e) q ≡ spelled_name d q
spelled_put_same d k e own q = spelled_same (put_entry d k e) d q (λ x lies. own_put d k e x ∙ by x _ refl)
  where
    by : (x : DnKeys) (b : Bool) → eq_by_cmp dn_key_cmp x k ≡ b → cond b (take (own_depth d.suffix x) e.own) (own_name_at d x) ≡ own_name_at d x
    by x true t = ap (take (own_depth d.suffix x)) (sym own ∙ ap (λ z. own_name_of (entry_at d z)) (sym (same_key x k t)))
    by x false t = refl
