-- Laws of a directory: the entry at each key after a write, and that each entry still has its parent.
use Rattle.std.proofs.Common.{◌≡◌, Bool, true, false, cond, ◌||◌, [], ◌∷◌, ◌++◌, length, take, Option, Some, None, is_some, refl, sym, ap, subst, ◌∙◌}
use Rattle.std.specs.FinMap as fin
use Rattle.std.specs.FinMap.{get-insert, get-remove, get-empty}
use Rattle.std.specs.Cmp.{Equal-is}
use Rattle.std.specs.Ordering.{eq_by_cmp}
use Rattle.dir_names.specs.Keys.{DnKeys, RdnKeys, parent_of}
use Rattle.dir_names.specs.Orders.{dn_key_cmp, dn_key_cmp_total, dn_key_cmp_exact, dn_key_eq}
use Rattle.dir_tree.specs.Content.{Content}
use Rattle.dir_tree.specs.Dir.{Dir, HasChild, IsClosed, entry_at, has_parent, is_there, put_entry, remove_entry}

pub same_key : (x y : DnKeys) → eq_by_cmp dn_key_cmp x y ≡ true → x ≡ y
same_key x y t = dn_key_cmp_exact x y ((Equal-is (dn_key_cmp x y)).0 t)

pub get_put : (d : Dir) (k : DnKeys) (e : Content) (q : DnKeys) → entry_at (put_entry d k e) q ≡ cond (eq_by_cmp dn_key_cmp q k) (Some e) (entry_at d q)
get_put d k e q = get-insert dn_key_cmp_total d.entries k e q

pub get_without : (d : Dir) (k q : DnKeys) → entry_at (remove_entry d k) q ≡ cond (eq_by_cmp dn_key_cmp q k) None (entry_at d q)
get_without d k q = get-remove dn_key_cmp_total d.entries k q

or_mono : (a b c : Bool) → (b ≡ true → c ≡ true) → (a || b) ≡ true → (a || c) ≡ true
or_mono true b c f h = refl
or_mono false b c f h = f h

some_either : (b : Bool) (e : Content) (x : Option Content) → is_some x ≡ true → is_some (cond b (Some e) x) ≡ true
some_either true e x h = refl
some_either false e x h = h

is_there_put : (d : Dir) (k : DnKeys) (e : Content) (o : Option DnKeys) → is_there d o ≡ true → is_there (put_entry d k e) o ≡ true
is_there_put d k e None h = h
is_there_put d k e (Some p) h = ap is_some (get_put d k e p) ∙ some_either (eq_by_cmp dn_key_cmp p k) e (entry_at d p) h

pub closed_empty : (suffix : DnKeys) → IsClosed (record { suffix = suffix; entries = fin.empty })
closed_empty suffix k there = absurd (none_there (sym (ap is_some (get-empty dn_key_cmp k)) ∙ there))
  where
    none_there : false ≡ true → ⊥
    none_there e = cc

pub closed_put : (d : Dir) (k : DnKeys) (e : Content) → IsClosed d → has_parent d k ≡ true → IsClosed (put_entry d k e)
closed_put d k e closed parent q there =
    or_mono (dn_key_eq q d.suffix) (is_there d (parent_of q)) _ (is_there_put d k e (parent_of q)) (before _ refl (sym (ap is_some (get_put d k e q)) ∙ there))
  where
    before : (b : Bool) → eq_by_cmp dn_key_cmp q k ≡ b → is_some (cond b (Some e) (entry_at d q)) ≡ true → has_parent d q ≡ true
    before true t h = subst (λ z. has_parent d z ≡ true) (sym (same_key q k t)) parent
    before false t h = closed q h

-- the last part of a key that has one
pub last_part : (x : RdnKeys) (xs : DnKeys) → (part : RdnKeys) × (x ∷ xs ≡ take (length xs) (x ∷ xs) ++ part ∷ [])
last_part x [] = (x, refl)
last_part x (y ∷ ys) = let rest = last_part y ys in (rest.0, ap (λ zs. x ∷ zs) rest.1)

-- a key is directly below its parent
pub parent_child : (q p : DnKeys) → parent_of q ≡ Some p → (part : RdnKeys) × (q ≡ p ++ part ∷ [])
parent_child [] p e = absurd (no e)
  where
    no : ◌≡◌ {A = Option DnKeys} None (Some p) → ⊥
    no e = cc
parent_child (x ∷ xs) p e =
    let same : take (length xs) (x ∷ xs) ≡ p = cc in
    let last = last_part x xs in
    (last.0, last.1 ∙ ap (λ zs. zs ++ last.0 ∷ []) same)

pub closed_without : (d : Dir) (k : DnKeys) → IsClosed d → ¬ (HasChild d k) → IsClosed (remove_entry d k)
closed_without d k closed leaf q there = by _ refl (sym (ap is_some (get_without d k q)) ∙ there)
  where
    keep : is_some (entry_at d q) ≡ true → (o : Option DnKeys) → parent_of q ≡ o → is_there d o ≡ true → is_there (remove_entry d k) o ≡ true
    keep h None e p = p
    keep h (Some above) e p = ap is_some (get_without d k above) ∙ kept _ refl
      where
        kept : (b : Bool) → eq_by_cmp dn_key_cmp above k ≡ b → is_some (cond b None (entry_at d above)) ≡ true
        kept true t =
            let child = parent_child q above e in
            absurd (leaf (child.0, subst (λ z. is_some (entry_at d z) ≡ true) (child.1 ∙ ap (λ z. z ++ child.0 ∷ []) (same_key above k t)) h))
        kept false t = p

    by : (b : Bool) → eq_by_cmp dn_key_cmp q k ≡ b → is_some (cond b None (entry_at d q)) ≡ true → has_parent (remove_entry d k) q ≡ true
    by true t h = absurd (none_there h)
      where
        none_there : false ≡ true → ⊥
        none_there e = cc
    by false t h = or_mono (dn_key_eq q d.suffix) (is_there d (parent_of q)) _ (keep h (parent_of q) refl) (closed q h)
