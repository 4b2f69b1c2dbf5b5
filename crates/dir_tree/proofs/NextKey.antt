-- The key that comes next after another in a closed directory: it is directly below that one exactly where an entry is.
use Rattle.std.proofs.Common.{◌≡◌, ℕ, zero, suc, ◌+◌, ◌≤◌, Bool, true, false, ◌||◌, [], ◌∷◌, ◌++◌, length, take, Option, Some, None, is_some, refl, sym, ap, subst, ◌∙◌, arith, append_assoc, length-append, true≢false}
use Rattle.std.specs.declared.cmp.Ordering.{Ordering}
use Rattle.std.specs.declared.cmp.Ordering.TheVariants.{Less, Equal, Greater}
use Rattle.std.specs.Ordering.{ordering_then, ordering_reverse, is_gt}
use Rattle.std.specs.Cmp.{tied_itself}
use Rattle.dir_names.specs.Keys.{DnKeys, RdnKeys, parent_of}
use Rattle.dir_names.specs.Orders.{rdn_key_cmp, rdn_key_cmp_total, rdn_key_cmp_exact, dn_key_cmp, dn_key_cmp_total, dn_key_eq, dn_key_eq_decides}
use Rattle.dir_tree.specs.Dir.{Dir, entry_at, is_there, IsClosed, HasChild}
use Rattle.dir_tree.proofs.DirLemmas.{last_part, parent_child}

not_greater : is_gt Greater ≡ false → ⊥
not_greater e = cc

less_is_not : Equal ≡ Less → ⊥
less_is_not e = cc

greater_is_not : Greater ≡ Less → ⊥
greater_is_not e = cc

-- a key is before what is below it
pub before_below : (k : DnKeys) (x : RdnKeys) (r : DnKeys) → dn_key_cmp k (k ++ x ∷ r) ≡ Less
before_below [] x r = refl
before_below (a ∷ k) x r = ap (λ o. ordering_then o (dn_key_cmp k (k ++ x ∷ r))) (tied_itself rdn_key_cmp_total a) ∙ before_below k x r

pub after_above : (k : DnKeys) (x : RdnKeys) (r : DnKeys) → dn_key_cmp (k ++ x ∷ r) k ≡ Greater
after_above k x r = dn_key_cmp_total.antisymm (k ++ x ∷ r) k ∙ ap ordering_reverse (before_below k x r)

-- what lies after a key and not after one directly below it lies below it
pub between : (k n : DnKeys) (p : RdnKeys) → dn_key_cmp k n ≡ Less → is_gt (dn_key_cmp n (k ++ p ∷ [])) ≡ false → (x : RdnKeys) × (r : DnKeys) × (n ≡ k ++ x ∷ r)
between [] [] p l g = absurd (less_is_not l)
between [] (x ∷ r) p l g = (x, r, refl)
between (a ∷ k) [] p l g = absurd (greater_is_not l)
between (a ∷ k) (b ∷ n) p l g = by (between k n p) (rdn_key_cmp a b) refl
  where
    turned : (o : Ordering) → rdn_key_cmp a b ≡ o → rdn_key_cmp b a ≡ ordering_reverse o
    turned o e = rdn_key_cmp_total.antisymm b a ∙ ap ordering_reverse e

    by : (dn_key_cmp k n ≡ Less → is_gt (dn_key_cmp n (k ++ p ∷ [])) ≡ false → (x : RdnKeys) × (r : DnKeys) × (n ≡ k ++ x ∷ r)) → (o : Ordering) → rdn_key_cmp a b ≡ o → (x : RdnKeys) × (r : DnKeys) × (b ∷ n ≡ a ∷ k ++ x ∷ r)
    by rest Less e = absurd (not_greater (sym (ap (λ o. is_gt (ordering_then o (dn_key_cmp n (k ++ p ∷ [])))) (turned Less e)) ∙ g))
    by rest Equal e =
        let found = rest (sym (ap (λ o. ordering_then o (dn_key_cmp k n)) e) ∙ l) (sym (ap (λ o. is_gt (ordering_then o (dn_key_cmp n (k ++ p ∷ [])))) (turned Equal e)) ∙ g) in
        let same : b ≡ a = sym (rdn_key_cmp_exact a b e) in
        (found.0, found.1, λ i. same i ∷ found.2 i)
    by rest Greater e = absurd (greater_is_not (sym (ap (λ o. ordering_then o (dn_key_cmp k n)) e) ∙ l))

module _ (d : Dir) (closed : IsClosed d) where
  pub or_cases : {A : Type 0} (a b : Bool) → (a ≡ true → A) → (b ≡ true → A) → (a || b) ≡ true → A
  or_cases true b f g h = f refl
  or_cases false b f g h = g h

  shorter : (q p : DnKeys) → parent_of q ≡ Some p → length q ≡ length p + 1
  shorter q p e = let child = parent_child q p e in ap length child.1 ∙ length-append p (child.0 ∷ [])

  at_suffix : (q : DnKeys) → dn_key_eq q d.suffix ≡ true → length d.suffix ≤ length q
  at_suffix q e = let same : q ≡ d.suffix = (dn_key_eq_decides q d.suffix).0 e in subst (λ z. length d.suffix ≤ length z) (sym same) (omega arith)

  -- an entry's key is no shorter than the suffix
  pub reaches : (n : ℕ) (q : DnKeys) → length q ≤ n → is_some (entry_at d q) ≡ true → length d.suffix ≤ length q
  reaches zero q bound there = or_cases (dn_key_eq q d.suffix) (is_there d (parent_of q)) (at_suffix q) (above (parent_of q) refl) (closed q there)
    where
      above : (o : Option DnKeys) → parent_of q ≡ o → is_there d o ≡ true → length d.suffix ≤ length q
      above None e h = absurd (true≢false (sym h))
      above (Some p) e h = let long = shorter q p e in absurd (omega (arith, long, bound))
  reaches (suc n) q bound there = or_cases (dn_key_eq q d.suffix) (is_there d (parent_of q)) (at_suffix q) (above (reaches n) (parent_of q) refl) (closed q there)
    where
      above : ((p : DnKeys) → length p ≤ n → is_some (entry_at d p) ≡ true → length d.suffix ≤ length p) → (o : Option DnKeys) → parent_of q ≡ o → is_there d o ≡ true → length d.suffix ≤ length q
      above rest None e h = absurd (true≢false (sym h))
      above rest (Some p) e h =
          let long = shorter q p e in
          let low = rest p (omega (arith, long, bound)) h in
          omega (arith, long, low)

  pub parent_snoc : (p : DnKeys) (z : RdnKeys) → (o : Option DnKeys) → parent_of (p ++ z ∷ []) ≡ o → o ≡ Some p
  parent_snoc p z o e = sym e ∙ whole p z
    where
      all_but : (p : DnKeys) (z : RdnKeys) → take (length p) (p ++ z ∷ []) ≡ p
      all_but [] z = refl
      all_but (x ∷ xs) z = ap (λ zs. x ∷ zs) (all_but xs z)

      whole : (p : DnKeys) (z : RdnKeys) → parent_of (p ++ z ∷ []) ≡ Some p
      whole [] z = refl
      whole (x ∷ xs) z =
          let count : length (xs ++ z ∷ []) ≡ suc (length xs) = length-append xs (z ∷ []) ∙ omega arith in
          ap (λ n. Some (take n (x ∷ xs ++ z ∷ []))) count ∙ ap (λ zs. Some (x ∷ zs)) (all_but xs z)

  -- the next key is directly below, where an entry is directly below
  pub next_is_child : (k n : DnKeys) → dn_key_cmp k n ≡ Less → is_some (entry_at d n) ≡ true →
      ((q : DnKeys) → dn_key_cmp k q ≡ Less → is_some (entry_at d q) ≡ true → is_gt (dn_key_cmp n q) ≡ false) →
      HasChild d k → (part : RdnKeys) × (n ≡ k ++ part ∷ [])
  next_is_child k n after there least child =
      let lies = between k n child.0 after (least (k ++ child.0 ∷ []) (before_below k child.0 []) child.1) in
      let short : length d.suffix ≤ length k + 1 = subst (λ m. length d.suffix ≤ m) (length-append k (child.0 ∷ [])) (reaches (length (k ++ child.0 ∷ [])) (k ++ child.0 ∷ []) (omega arith) child.1) in
      by lies.0 lies.1 lies.2 short
    where
      by : (x : RdnKeys) (r : DnKeys) → n ≡ k ++ x ∷ r → length d.suffix ≤ length k + 1 → (part : RdnKeys) × (n ≡ k ++ part ∷ [])
      by x [] e short = (x, e)
      by x (y ∷ ys) e short =
          let last = last_part y ys in
          let above : DnKeys = k ++ x ∷ take (length ys) (y ∷ ys) in
          let whole : n ≡ above ++ last.0 ∷ [] = e ∙ ap (λ zs. k ++ x ∷ zs) last.1 ∙ sym (append_assoc k (x ∷ take (length ys) (y ∷ ys)) (last.0 ∷ [])) in
          let parent : parent_of n ≡ Some above = ap parent_of whole ∙ parent_snoc above last.0 _ refl in
          let long : length n ≡ length k + (2 + length ys) = ap length e ∙ length-append k (x ∷ y ∷ ys) ∙ omega arith in
          or_cases (dn_key_eq n d.suffix) (is_there d (parent_of n))
          (λ t. let same : length n ≡ length d.suffix = ap length ((dn_key_eq_decides n d.suffix).0 t) in absurd (omega (arith, long, same, short)))
          (λ t.
          let stands : is_some (entry_at d above) ≡ true = sym (ap (is_there d) parent) ∙ t in
          absurd (not_greater (sym (ap is_gt (ap (λ z. dn_key_cmp z above) whole ∙ after_above above last.0 [])) ∙ least above (before_below k x (take (length ys) (y ∷ ys))) stands)))
          (closed n there)
