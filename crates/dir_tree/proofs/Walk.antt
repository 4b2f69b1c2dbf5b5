-- A walk over the entries of a closed directory in order of keys: the entries above each one are the ones met last.
use Rattle.std.proofs.Common.{◌≡◌, ℕ, zero, suc, ◌+◌, ◌-◌, ◌≤◌, Bool, true, false, cond, T, List, [], ◌∷◌, ◌++◌, map, reverse, length, take, Option, Some, None, is_some, refl, sym, ap, subst, ◌∙◌, arith, append_assoc, length-append, true≢false}
use Rattle.std.specs.declared.cmp.Ordering.{Ordering}
use Rattle.std.specs.declared.cmp.Ordering.TheVariants.{Less, Equal, Greater}
use Rattle.std.specs.Ordering.{is_gt, is_lt, is_eq, eq_by_cmp, ordering_reverse}
use Rattle.std.specs.Cmp.{tied_itself}
use Rattle.std.specs.List.{flat_map, list_all, range_with_len}
use Rattle.std.specs.FinMap.{find, get-from_entries}
use Rattle.std.specs.List.Sorted.{IsStrictlySortedBy}
use Rattle.std.proofs.lemmas.List.{append-nil, take-append-le, take-map, take_all, map-append, reverse-append}
use Rattle.std.proofs.lemmas.List.FromFn.{map-range_with_len_more, take-map-range_with_len}
use Rattle.dir_names.specs.Keys.{DnKeys, RdnKeys, IsAtOrBelow, parent_of}
use Rattle.dir_names.specs.Names.{SpelledName}
use Rattle.dir_names.specs.Orders.{dn_key_cmp, dn_key_cmp_total, dn_key_cmp_exact, dn_key_eq, dn_key_eq_decides}
use Rattle.dir_names.specs.Sorted.{rises}
use Rattle.dir_names.proofs.Maps.{rises_from_ordered, entries_from_ordered}
use Rattle.dir_names.proofs.Placed.{first, second, keys_of}
use Rattle.dir_tree.specs.Content.{Content}
use Rattle.dir_tree.specs.Dir.{Dir, dir_over, entry_at, is_there, IsClosed}
use Rattle.dir_tree.specs.SpelledNames.{named_entries, own_depth, own_name_at, spelled_name}
use Rattle.dir_tree.proofs.DirLemmas.{same_key, parent_child}
use Rattle.dir_tree.proofs.NextKey.{before_below, after_above, between, or_cases, parent_snoc, reaches}
use Rattle.dir_tree.proofs.SpelledLemmas.{own_here, same_below, by_last, spelled_child, spelled_above}

abbrev pub Entries : Type 0
Entries = List (DnKeys × Content)

-- ---- entries in order

-- each key is after the one before it, the first after k
abbrev pub Rising : DnKeys → Entries → Type 0
Rising k [] = Unit {0}
Rising k (e ∷ es) = (dn_key_cmp k e.0 ≡ Less) × Rising e.0 es

less : (o : Ordering) → T (is_lt o) → o ≡ Less
less Less t = refl
less Equal t = absurd t
less Greater t = absurd t

pub rising : (k : DnKeys) (es : Entries) → T (rises dn_key_cmp (k ∷ map (λ e. e.0) es)) → Rising k es
rising k [] t = tt
rising k (e ∷ es) t = (
  less _ (first (is_lt (dn_key_cmp k e.0)) _ (first (list_all (λ x. is_lt (dn_key_cmp k x)) (e.0 ∷ map (λ e. e.0) es)) _ t)),
  rising e.0 es (second (list_all (λ x. is_lt (dn_key_cmp k x)) (e.0 ∷ map (λ e. e.0) es)) _ t),
)

not_less : (o : Ordering) → o ≡ Less → o ≡ Equal → ⊥
not_less o l e = apart (sym l ∙ e)
  where
    apart : Less ≡ Equal → ⊥
    apart h = cc

not_both : (o : Ordering) → o ≡ Less → o ≡ Greater → ⊥
not_both o l e = apart (sym l ∙ e)
  where
    apart : Less ≡ Greater → ⊥
    apart h = cc

-- what is found among rising entries is after their bound
found_after : (k : DnKeys) (es : Entries) → Rising k es → (q : DnKeys) → is_some (find dn_key_cmp q es) ≡ true → dn_key_cmp k q ≡ Less
found_after k [] r q h = absurd (true≢false (sym h))
found_after k (e ∷ es) r q h = by (found_after e.0 es r.1 q) _ refl h
  where
    by : (is_some (find dn_key_cmp q es) ≡ true → dn_key_cmp e.0 q ≡ Less) → (b : Bool) → eq_by_cmp dn_key_cmp q e.0 ≡ b → is_some (cond b (Some e.1) (find dn_key_cmp q es)) ≡ true → dn_key_cmp k q ≡ Less
    by rest true t g = subst (λ z. dn_key_cmp k z ≡ Less) (sym (same_key q e.0 t)) r.0
    by rest false t g = dn_key_cmp_total.trans k e.0 q r.0 (rest g)

-- and not before the first of them
not_before : (e : DnKeys × Content) (es : Entries) → Rising e.0 es → (q : DnKeys) → is_some (find dn_key_cmp q (e ∷ es)) ≡ true → dn_key_cmp q e.0 ≡ Less → ⊥
not_before e es r q h l = by _ refl h
  where
    by : (b : Bool) → eq_by_cmp dn_key_cmp q e.0 ≡ b → is_some (cond b (Some e.1) (find dn_key_cmp q es)) ≡ true → ⊥
    by true t g = not_less _ l (subst (λ z. dn_key_cmp q z ≡ Equal) (same_key q e.0 t) (tied_itself dn_key_cmp_total q))
    by false t g = not_both _ l (dn_key_cmp_total.antisymm q e.0 ∙ ap ordering_reverse (found_after e.0 es r q g))

pub find_here : (e : DnKeys × Content) (es : Entries) → find dn_key_cmp e.0 (e ∷ es) ≡ Some e.1
find_here e es = ap (λ o. cond (is_eq o) (Some e.1) (find dn_key_cmp e.0 es)) (tied_itself dn_key_cmp_total e.0)

pub find_later : (e : DnKeys × Content) (es : Entries) (q : DnKeys) → dn_key_cmp e.0 q ≡ Less → find dn_key_cmp q (e ∷ es) ≡ find dn_key_cmp q es
find_later e es q l = ap (λ o. cond (is_eq o) (Some e.1) (find dn_key_cmp q es)) (dn_key_cmp_total.antisymm q e.0 ∙ ap ordering_reverse l)

-- the second key is directly below a prefix of the first, which is no shorter than the suffix
pub record Steps (suffix k next : DnKeys) : Type 0 where
  pub above : DnKeys
  pub part : RdnKeys
  pub rest : DnKeys
  pub next_is : next ≡ above ++ part ∷ []
  pub key_is : k ≡ above ++ rest
  pub long : length suffix ≤ length above

module _ (d : Dir) where
  -- the own names on the path of a key, from the suffix's on, n of them
  abbrev pub owns : DnKeys → ℕ → List SpelledName
  owns k n = map (λ i. own_name_at d (take i k)) (range_with_len (length d.suffix) n)

  -- entries that come after the key, each a step from the one before
  abbrev pub Linked : DnKeys → Entries → Type 0
  Linked k [] = Unit {0}
  Linked k (e ∷ es) = Steps d.suffix k e.0 × (entry_at d e.0 ≡ Some e.1) × Linked e.0 es

  -- the entries that are still to be met, where the own names met last are `path`: it begins with those above the next entry
  abbrev pub Ahead : List SpelledName → Entries → Type 0
  Ahead path [] = Unit {0}
  Ahead path (e ∷ es) =
      (entry_at d e.0 ≡ Some e.1) × (length d.suffix ≤ length e.0) × (take (length e.0 - length d.suffix) path ≡ owns e.0 (length e.0 - length d.suffix)) × Linked e.0 es

  module _ (closed : IsClosed d) where
    -- each entry lies at or below the suffix
    pub all_below : (q : DnKeys) → is_some (entry_at d q) ≡ true → IsAtOrBelow q d.suffix
    all_below =
        by_last (λ q. is_some (entry_at d q) ≡ true → IsAtOrBelow q d.suffix)
        (λ there. or_cases d closed (dn_key_eq [] d.suffix) false (at_suffix []) (λ h. absurd (true≢false (sym h))) (closed [] there))
        (λ p part rest there.
        let q : DnKeys = p ++ part ∷ [] in
        or_cases d closed (dn_key_eq q d.suffix) (is_there d (parent_of q)) (at_suffix q)
        (λ h.
        let lies = rest (sym (ap (is_there d) (parent_snoc d closed p part _ refl)) ∙ h) in
        (lies.0 ++ part ∷ [], ap (λ z. z ++ part ∷ []) lies.1 ∙ append_assoc d.suffix lies.0 (part ∷ [])))
        (closed q there))
      where
        at_suffix : (q : DnKeys) → dn_key_eq q d.suffix ≡ true → IsAtOrBelow q d.suffix
        at_suffix q t = ([], (dn_key_eq_decides q d.suffix).0 t ∙ sym (append-nil d.suffix))

    -- ---- neighbours in the order

    no_entry_before_suffix : (k n : DnKeys) → is_some (entry_at d k) ≡ true → dn_key_cmp k n ≡ Less → n ≡ d.suffix → ⊥
    no_entry_before_suffix k n there l e = let lies = all_below k there in by lies.0 lies.1
      where
        l' : dn_key_cmp k d.suffix ≡ Less
        l' = subst (λ z. dn_key_cmp k z ≡ Less) e l

        by : (r : DnKeys) → k ≡ d.suffix ++ r → ⊥
        by [] h = not_less _ l' (ap (λ z. dn_key_cmp z d.suffix) (h ∙ append-nil d.suffix) ∙ tied_itself dn_key_cmp_total d.suffix)
        by (x ∷ r) h = not_both _ l' (ap (λ z. dn_key_cmp z d.suffix) h ∙ after_above d.suffix x r)

    step : (k : DnKeys) (e : DnKeys × Content) (es : Entries) → is_some (entry_at d k) ≡ true → Rising k (e ∷ es) →
        ((q : DnKeys) → dn_key_cmp k q ≡ Less → entry_at d q ≡ find dn_key_cmp q (e ∷ es)) → is_some (entry_at d e.0) ≡ true → Steps d.suffix k e.0
    step k e es there r later stands = or_cases d closed (dn_key_eq e.0 d.suffix) (is_there d (parent_of e.0))
        (λ t. absurd (no_entry_before_suffix k e.0 there r.0 ((dn_key_eq_decides e.0 d.suffix).0 t)))
        (above (parent_of e.0) refl)
        (closed e.0 stands)
      where
        above : (o : Option DnKeys) → parent_of e.0 ≡ o → is_there d (parent_of e.0) ≡ true → Steps d.suffix k e.0
        above None t h = absurd (true≢false (sym h ∙ ap (is_there d) t))
        above (Some p) t h = by (dn_key_cmp p k) refl
          where
            child : (part : RdnKeys) × (e.0 ≡ p ++ part ∷ [])
            child = parent_child e.0 p t

            is_parent : is_some (entry_at d p) ≡ true
            is_parent = sym (ap (is_there d) t) ∙ h

            first_below : dn_key_cmp p e.0 ≡ Less
            first_below = subst (λ z. dn_key_cmp p z ≡ Less) (sym child.1) (before_below p child.0 [])

            reached : length d.suffix ≤ length p
            reached = reaches d closed (length p) p (omega arith) is_parent

            by : (o : Ordering) → dn_key_cmp p k ≡ o → Steps d.suffix k e.0
            by Less c =
                let lies = between p k child.0 c (ap is_gt (sym (ap (dn_key_cmp k) child.1) ∙ r.0)) in
                record { above = p; part = child.0; rest = lies.0 ∷ lies.1; next_is = child.1; key_is = lies.2; long = reached }
            by Equal c = record { above = p; part = child.0; rest = []; next_is = child.1; key_is = sym (dn_key_cmp_exact p k c) ∙ sym (append-nil p); long = reached }
            by Greater c =
                let after : dn_key_cmp k p ≡ Less = dn_key_cmp_total.antisymm k p ∙ ap ordering_reverse c in
                absurd (not_before e es r.1 p (sym (ap is_some (later p after)) ∙ is_parent) first_below)

    linked : (k : DnKeys) (es : Entries) → is_some (entry_at d k) ≡ true → Rising k es → ((q : DnKeys) → dn_key_cmp k q ≡ Less → entry_at d q ≡ find dn_key_cmp q es) → Linked k es
    linked k [] there r later = tt
    linked k (e ∷ es) there r later =
        let value : entry_at d e.0 ≡ Some e.1 = later e.0 r.0 ∙ find_here e es in (
          step k e es there r later (ap is_some value),
          value,
          linked e.0 es (ap is_some value) r.1 (λ q l. later q (dn_key_cmp_total.trans k e.0 q r.0 l) ∙ find_later e es q l),
        )

    -- ---- the walk

    -- at its beginning
    pub ahead_start : (es : Entries) → T (rises dn_key_cmp (map (λ e. e.0) es)) → ((q : DnKeys) → entry_at d q ≡ find dn_key_cmp q es) → Ahead [] es
    ahead_start [] t all = tt
    ahead_start (e ∷ es) t all =
        let value : entry_at d e.0 ≡ Some e.1 = all e.0 ∙ find_here e es in
        let r = rising e.0 es t in
        let stands : is_some (entry_at d e.0) ≡ true = ap is_some value in
        let none : length e.0 - length d.suffix ≡ 0 = or_cases d closed (dn_key_eq e.0 d.suffix) (is_there d (parent_of e.0))
        (λ u. let same : length e.0 ≡ length d.suffix = ap length ((dn_key_eq_decides e.0 d.suffix).0 u) in omega (arith, same))
        (λ h. absurd (no_parent r (parent_of e.0) refl h))
        (closed e.0 stands) in (
          value,
          reaches d closed (length e.0) e.0 (omega arith) stands,
          subst (λ n. take n [] ≡ owns e.0 n) (sym none) refl,
          linked e.0 es stands r (λ q l. all q ∙ find_later e es q l),
        )
      where
        no_parent : Rising e.0 es → (o : Option DnKeys) → parent_of e.0 ≡ o → is_there d (parent_of e.0) ≡ true → ⊥
        no_parent r None u h = true≢false (sym h ∙ ap (is_there d) u)
        no_parent r (Some p) u h =
            let child = parent_child e.0 p u in
            not_before e es r p (sym (ap is_some (all p)) ∙ sym (ap (is_there d) u) ∙ h) (subst (λ z. dn_key_cmp p z ≡ Less) (sym child.1) (before_below p child.0 []))

    -- the own names on a path, last first and joined, are the name
    pub owns_joined : (k : DnKeys) → flat_map (λ own. own) (reverse (owns k (length k + 1 - length d.suffix))) ≡ spelled_name d k
    owns_joined =
        by_last (λ k. flat_map (λ own. own) (reverse (owns k (length k + 1 - length d.suffix))) ≡ spelled_name d k)
        (base (1 - length d.suffix) refl)
        (λ p part rest. more p part rest (length p + 2 - length d.suffix) refl)
      where
        no_more : (n : ℕ) → ◌≡◌ {A = DnKeys} (take n []) []
        no_more zero = refl
        no_more (suc n) = refl

        base : (n : ℕ) → 1 - length d.suffix ≡ n → flat_map (λ own. own) (reverse (owns [] n)) ≡ spelled_name d []
        base zero c = sym (spelled_above d closed [] (omega arith))
        base (suc zero) c = ap (λ k. own_name_at d k ++ []) (no_more (length d.suffix))
        base (suc (suc n)) c = absurd (omega arith)

        more : (p : DnKeys) → (part : RdnKeys) → flat_map (λ own. own) (reverse (owns p (length p + 1 - length d.suffix))) ≡ spelled_name d p → (n : ℕ) → length p + 2 - length d.suffix ≡ n →
            flat_map (λ own. own) (reverse (owns (p ++ part ∷ []) (length (p ++ part ∷ []) + 1 - length d.suffix))) ≡ spelled_name d (p ++ part ∷ [])
        more p part rest n c =
            let count : length (p ++ part ∷ []) + 1 - length d.suffix ≡ n = (let l = length-append p (part ∷ []) in omega (arith, l, c)) in
            ap (λ n. flat_map (λ own. own) (reverse (owns (p ++ part ∷ []) n))) count ∙ by n c
          where
            by : (n : ℕ) → length p + 2 - length d.suffix ≡ n → flat_map (λ own. own) (reverse (owns (p ++ part ∷ []) n)) ≡ spelled_name d (p ++ part ∷ [])
            by zero c = let l = length-append p (part ∷ []) in sym (spelled_above d closed (p ++ part ∷ []) (omega (arith, l, c)))
            by (suc m) c =
                let q : DnKeys = p ++ part ∷ [] in
                let l = length-append p (part ∷ []) in
                let last = map-range_with_len_more (λ i. own_name_at d (take i q)) (length d.suffix) m (length p + 1) (omega (arith, c)) in
                let whole : take (length p + 1) q ≡ q = take_all (length p + 1) q (omega (arith, l)) in
                let shorter : owns q m ≡ owns p m = same_below (λ i. own_name_at d (take i q)) (λ i. own_name_at d (take i p)) (length d.suffix) m (λ i h. ap (own_name_at d) (take-append-le i p (part ∷ []) (omega (arith, c)))) in
                let so_many : m ≡ length p + 1 - length d.suffix = omega (arith, c) in
                let one : suc m ≡ m + 1 = omega arith in
                ap (λ n. flat_map (λ own. own) (reverse (owns q n))) one
                ∙ ap (λ names. flat_map (λ own. own) (reverse names)) (last ∙ (λ i. shorter i ++ own_name_at d (whole i) ∷ []))
                ∙ ap (λ names. flat_map (λ own. own) names) (reverse-append (owns p m) (own_name_at d q ∷ []))
                ∙ ap (λ n. own_name_at d q ++ flat_map (λ own. own) (reverse (owns p n))) so_many
                ∙ ap (λ names. own_name_at d q ++ names) rest
                ∙ sym (spelled_child d p part)

  -- past an entry
  module _ (path : List SpelledName) (e : DnKeys × Content) (es : Entries) (ahead : Ahead path (e ∷ es)) where
    pub past : take (length e.0 - length d.suffix) path ++ take (own_depth d.suffix e.0) e.1.own ∷ [] ≡ owns e.0 (length e.0 + 1 - length d.suffix)
    past =
        let low = ahead.1 in
        let here : own_name_at d (take (length e.0) e.0) ≡ take (own_depth d.suffix e.0) e.1.own = ap (own_name_at d) (take_all (length e.0) e.0 (omega arith)) ∙ own_here d e.0 e.1 ahead.0 in
        let last = map-range_with_len_more (λ i. own_name_at d (take i e.0)) (length d.suffix) (length e.0 - length d.suffix) (length e.0) (omega (arith, low)) in
        let count : length e.0 - length d.suffix + 1 ≡ length e.0 + 1 - length d.suffix = omega (arith, low) in
        (λ i. ahead.2 i ++ sym here i ∷ []) ∙ sym last ∙ ap (owns e.0) count

    pub ahead_next : Ahead (take (length e.0 - length d.suffix) path ++ take (own_depth d.suffix e.0) e.1.own ∷ []) es
    ahead_next = by es ahead.3
      where
        by : (es : Entries) → Linked e.0 es → Ahead (take (length e.0 - length d.suffix) path ++ take (own_depth d.suffix e.0) e.1.own ∷ []) es
        by [] l = tt
        by (f ∷ fs) l =
            let s = l.0 in
            let size : length f.0 ≡ length s.above + 1 = ap length s.next_is ∙ length-append s.above (s.part ∷ []) in
            let bound : length e.0 ≡ length s.above + length s.rest = ap length s.key_is ∙ length-append s.above s.rest in
            let long = s.long in
            let n : ℕ = length f.0 - length d.suffix in
            let shared : owns e.0 n ≡ owns f.0 n = same_below (λ i. own_name_at d (take i e.0)) (λ i. own_name_at d (take i f.0)) (length d.suffix) n (λ i h.
            let low : i ≤ length s.above = omega (arith, size, long, h) in
            ap (λ z. own_name_at d (take i z)) s.key_is ∙ ap (own_name_at d) (take-append-le i s.above s.rest low ∙ sym (take-append-le i s.above (s.part ∷ []) low)) ∙ ap (λ z. own_name_at d (take i z)) (sym s.next_is)) in (
              l.1,
              omega (arith, size, long),
              ap (take n) past ∙ take-map-range_with_len (λ i. own_name_at d (take i e.0)) (length d.suffix) (length e.0 + 1 - length d.suffix) n (omega (arith, size, bound, long)) ∙ shared,
              l.2,
            )

-- ---- the walk in a loop

-- one name more is spelled
pub one_more : {A B C : Type 0} (f : A → C) (g : B → C) (xs : List A) (y : A) (e : B) (es : List B) → f y ≡ g e → map f (xs ++ y ∷ []) ++ map g es ≡ map f xs ++ map g (e ∷ es)
one_more f g xs y e es same = ap (λ zs. zs ++ map g es) (map-append f xs (y ∷ [])) ∙ append_assoc (map f xs) (f y ∷ []) (map g es) ∙ ap (λ z. map f xs ++ z ∷ map g es) same

-- the stack, cut and with one own name more
pub stacked : {A B : Type 0} (f : A → B) (n : ℕ) (xs : List A) (y : A) → map f (take n xs ++ y ∷ []) ≡ take n (map f xs) ++ f y ∷ []
stacked f n xs y = map-append f (take n xs) (y ∷ []) ∙ ap (λ zs. zs ++ f y ∷ []) (sym (take-map f n xs))

module _ (suffix : DnKeys) (entries : Entries) (closed : IsClosed (dir_over suffix entries)) where
  module _ (ordered : IsStrictlySortedBy dn_key_cmp (keys_of dn_key_cmp entries)) where
    pub start_ahead : Ahead (dir_over suffix entries) [] entries
    start_ahead = ahead_start (dir_over suffix entries) closed entries (rises_from_ordered dn_key_cmp (keys_of dn_key_cmp entries) ordered) (λ q. get-from_entries dn_key_cmp_total entries q)

    pub all_left : map (λ p. (spelled_name (dir_over suffix entries) p.0, p.1)) entries ≡ named_entries (dir_over suffix entries)
    all_left = ap (map (λ p. (spelled_name (dir_over suffix entries) p.0, p.1))) (sym (entries_from_ordered dn_key_cmp_total dn_key_cmp_exact entries ordered))

  module _ (path : List SpelledName) (left : Entries) (ahead : Ahead (dir_over suffix entries) path left) (k : DnKeys) (e : Content) (es : Entries) (next : left ≡ (k, e) ∷ es) where
    ahead_here : Ahead (dir_over suffix entries) path ((k, e) ∷ es)
    ahead_here = subst (Ahead (dir_over suffix entries) path) next ahead

    pub next_name : (own : List SpelledName) → own ≡ take (length k - length suffix) path ++ take (own_depth suffix k) e.own ∷ [] → flat_map (λ own. own) (reverse own) ≡ spelled_name (dir_over suffix entries) k
    next_name own is = ap (λ names. flat_map (λ own. own) (reverse names)) (is ∙ past (dir_over suffix entries) path (k, e) es ahead_here) ∙ owns_joined (dir_over suffix entries) closed k

    pub next_ahead : (own : List SpelledName) → own ≡ take (length k - length suffix) path ++ take (own_depth suffix k) e.own ∷ [] → Ahead (dir_over suffix entries) own es
    next_ahead own is = subst (λ names. Ahead (dir_over suffix entries) names es) (sym is) (ahead_next (dir_over suffix entries) path (k, e) es ahead_here)
