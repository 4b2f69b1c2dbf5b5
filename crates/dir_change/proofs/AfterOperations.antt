-- The changes that take an add and a delete back.
use Rattle.std.proofs.Common.{◌≡◌, ℕ, ◌+◌, ◌≤◌, Bool, true, false, cond, not, ◌||◌, List, [], ◌∷◌, ◌++◌, length, take, reverse, Option, Some, None, is_some, Result, Ok, Err, refl, sym, ap, ◌∙◌, true≢false, arith, length-append, append_assoc}
use Rattle.std.proofs.lemmas.List.{append-nil, reverse-append, length-reverse}
use Rattle.std.specs.FinMap.{same_map}
use Rattle.std.specs.Ordering.{eq_by_cmp, is_eq}
use Rattle.std.specs.Cmp.{tied_itself}
use Rattle.std.specs.Option.{ok_or}
use Rattle.dir_names.specs.declared.schema.TypeRow.{TypeRow}
use Rattle.dir_names.specs.Keys.{DnKeys, RdnKeys, IsAtOrBelow, parent_of}
use Rattle.dir_names.specs.Names.{SpelledName, SpelledRdn}
use Rattle.dir_names.specs.NameKeys.{name_key, rdn_key}
use Rattle.dir_names.specs.Orders.{dn_key_cmp, dn_key_cmp_total, dn_key_cmp_exact, dn_key_eq, dn_key_eq_decides}
use Rattle.dir_names.specs.Results.{option_collect, option_cons, and_then}
use Rattle.dir_names.specs.Described.{Described}
use Rattle.dir_tree.specs.Content.{Content, StoredAttributes}
use Rattle.dir_tree.specs.Dir.{Dir, HasChild, IsClosed, entry_at, has_child, has_parent, is_there, put_entry, remove_entry}
use Rattle.dir_tree.specs.SpelledNames as spelled
use Rattle.dir_tree.specs.SpelledNames.{own_depth, own_name_at, own_rdns, spelled_name}
use Rattle.dir_tree.specs.NewEntry.{attributes_of, exceeds_single_value, leaf_key, leaf_lines, new_entry, ok_unless_exceeding, with_missing_of}
use Rattle.dir_tree.specs.WellFormed.{IsWellFormed, all_lines, own_part}
use Rattle.dir_tree.specs.declared.fault.EntryFault.{EntryFault}
use Rattle.dir_tree.specs.declared.fault.EntryFault.TheVariants.{NotNamed, Single}
use Rattle.dir_tree.proofs.MadeAgain.{made_again}
use Rattle.dir_ldif.specs.declared.records.Change.{Change}
use Rattle.dir_ldif.specs.declared.records.ChangeKind.TheVariants as kind
use Rattle.dir_tree.proofs.DirLemmas.{closed_put, get_put, get_without, parent_child, same_key}
use Rattle.dir_tree.proofs.OwnNames.{own_whole}
use Rattle.dir_tree.proofs.SpelledLemmas.{by_last, own_here, spelled_below, spelled_child, spelled_put_apart, spelled_short, spelled_suffix}
use Rattle.dir_change.specs.declared.result_code.ResultCode.TheVariants.{NoSuchObject, NotAllowedOnNonLeaf, EntryAlreadyExists}
use Rattle.dir_change.specs.Operation.{directory_after, directory_after_add, directory_after_delete, step, step_at, with_new_entry}
use Rattle.dir_change.specs.Refusals.{unless}
use Rattle.dir_change.specs.Undo.{TakesBack, lines_of_entry, name_of_parent, spelled_name_or_empty, undo_of}
use Rattle.dir_change.proofs.Conditions.{add_placed, below_is, below_true, child_false, delete_leaf, parent_snoc}
use Rattle.dir_names.proofs.Collected.{collect_append, collect_length}
use Rattle.dir_names.specs.Below.{is_at_or_below}

same_dir : (d e : Dir) → d.suffix ≡ e.suffix → ((q : DnKeys) → entry_at d q ≡ entry_at e q) → d ≡ e
same_dir d e s h = let entries = same_map dn_key_cmp_total dn_key_cmp_exact d.entries e.entries h in λ i. record { suffix = s i; entries = entries i }

pub itself : (k : DnKeys) → eq_by_cmp dn_key_cmp k k ≡ true
itself k = ap is_eq (tied_itself dn_key_cmp_total k)

-- what is put at a free key and taken out again was never there
pub put_out : (d : Dir) (k : DnKeys) (e : Content) → entry_at d k ≡ None → remove_entry (put_entry d k e) k ≡ d
put_out d k e free = same_dir _ d refl (λ q. get_without (put_entry d k e) k q ∙ ap (cond (eq_by_cmp dn_key_cmp q k) None) (get_put d k e q) ∙ by q (eq_by_cmp dn_key_cmp q k) refl)
  where
    by : (q : DnKeys) (b : Bool) → eq_by_cmp dn_key_cmp q k ≡ b → cond b None (cond b (Some e) (entry_at d q)) ≡ entry_at d q
    by q false t = refl
    by q true t = sym (ap (entry_at d) (same_key q k t) ∙ free)

-- what is taken out and put back is as it was
pub out_put : (d : Dir) (k : DnKeys) (e : Content) → entry_at d k ≡ Some e → put_entry (remove_entry d k) k e ≡ d
out_put d k e there = same_dir _ d refl (λ q. get_put (remove_entry d k) k e q ∙ ap (cond (eq_by_cmp dn_key_cmp q k) (Some e)) (get_without d k q) ∙ by q (eq_by_cmp dn_key_cmp q k) refl)
  where
    by : (q : DnKeys) (b : Bool) → eq_by_cmp dn_key_cmp q k ≡ b → cond b (Some e) (cond b None (entry_at d q)) ≡ entry_at d q
    by q false t = refl
    by q true t = sym (ap (entry_at d) (same_key q k t) ∙ there)

-- ---- names and their keys

module _ (rows : List TypeRow) where
  -- the key of a name that is two joined
  pub joined_key : (xs ys : SpelledName) (below above : DnKeys) → name_key rows xs ≡ Some below → name_key rows ys ≡ Some above → name_key rows (xs ++ ys) ≡ Some (above ++ below)
  joined_key xs ys below above e h = ap (option_collect (rdn_key rows)) (reverse-append xs ys) ∙ collect_append (rdn_key rows) (reverse ys) (reverse xs) above below h e

  pub key_length : (name : SpelledName) (k : DnKeys) → name_key rows name ≡ Some k → length name ≡ length k
  key_length name k e = sym (length-reverse name) ∙ collect_length (rdn_key rows) (reverse name) k e

last_of : (p : DnKeys) (part : RdnKeys) → take 1 (reverse (p ++ part ∷ [])) ≡ part ∷ []
last_of p part = ap (take 1) (reverse-append p (part ∷ []))

-- the name of an entry as spelled has the entry's key
abbrev pub HasOwnNames : List TypeRow → Dir → Type 0
HasOwnNames rows d = (k : DnKeys) (e : Content) → entry_at d k ≡ Some e → name_key rows e.own ≡ Some (own_part d.suffix k)

pub spelled_key : (rows : List TypeRow) (d : Dir) → IsClosed d → HasOwnNames rows d → (k : DnKeys) → is_some (entry_at d k) ≡ true → name_key rows (spelled_name d k) ≡ Some k
spelled_key rows d closed names = by_last (λ k. is_some (entry_at d k) ≡ true → name_key rows (spelled_name d k) ≡ Some k) root below
  where
    own : (k : DnKeys) → is_some (entry_at d k) ≡ true → name_key rows (own_name_at d k) ≡ Some (own_part d.suffix k)
    own k there = by (entry_at d k) refl there
      where
        by : (o : Option Content) → entry_at d k ≡ o → is_some o ≡ true → name_key rows (take (own_depth d.suffix k) (spelled.own_name_of o)) ≡ Some (own_part d.suffix k)
        by None t h = absurd (true≢false (sym h))
        by (Some e) t h = ap (name_key rows) (own_whole rows d.suffix k e.own (names k e t)) ∙ names k e t

    at_suffix : (k : DnKeys) → dn_key_eq k d.suffix ≡ true → is_some (entry_at d k) ≡ true → name_key rows (spelled_name d k) ≡ Some k
    at_suffix k t there =
        ap (name_key rows) (spelled_suffix d closed k ((dn_key_eq_decides k d.suffix).0 t))
        ∙ own k there
        ∙ ap (λ b. Some (cond b k (take 1 (reverse k)))) t

    root : is_some (entry_at d []) ≡ true → name_key rows (spelled_name d []) ≡ Some []
    root there = by (dn_key_eq [] d.suffix) refl (closed [] there)
      where
        by : (b : Bool) → dn_key_eq [] d.suffix ≡ b → (b || false) ≡ true → name_key rows (spelled_name d []) ≡ Some []
        by true t h = at_suffix [] t there
        by false t h = absurd (true≢false (sym h))

    below : (p : DnKeys) (part : RdnKeys) → (is_some (entry_at d p) ≡ true → name_key rows (spelled_name d p) ≡ Some p) → is_some (entry_at d (p ++ part ∷ [])) ≡ true → name_key rows (spelled_name d (p ++ part ∷ [])) ≡ Some (p ++ part ∷ [])
    below p part rest there = by (dn_key_eq (p ++ part ∷ []) d.suffix) refl (closed (p ++ part ∷ []) there)
      where
        by : (b : Bool) → dn_key_eq (p ++ part ∷ []) d.suffix ≡ b → (b || is_there d (parent_of (p ++ part ∷ []))) ≡ true → name_key rows (spelled_name d (p ++ part ∷ [])) ≡ Some (p ++ part ∷ [])
        by true t h = at_suffix (p ++ part ∷ []) t there
        by false t h =
            let above : is_some (entry_at d p) ≡ true = sym (ap (is_there d) (parent_snoc p part)) ∙ h in
            let one : name_key rows (own_name_at d (p ++ part ∷ [])) ≡ Some (part ∷ []) = own (p ++ part ∷ []) there ∙ ap (λ b. Some (cond b (p ++ part ∷ []) (take 1 (reverse (p ++ part ∷ []))))) t ∙ ap Some (last_of p part) in
            ap (name_key rows) (spelled_child d p part) ∙ joined_key rows (own_name_at d (p ++ part ∷ [])) (spelled_name d p) (part ∷ []) p one (rest above)

-- each entry is at or below the suffix
pub stands_below : (d : Dir) → IsClosed d → (k : DnKeys) → is_some (entry_at d k) ≡ true → is_at_or_below k d.suffix ≡ true
stands_below d closed k there = below_true k d.suffix (by_last (λ k. is_some (entry_at d k) ≡ true → IsAtOrBelow k d.suffix) root below k there)
  where
    here : (k : DnKeys) → dn_key_eq k d.suffix ≡ true → IsAtOrBelow k d.suffix
    here k t = ([], (dn_key_eq_decides k d.suffix).0 t ∙ sym (append-nil d.suffix))

    root : is_some (entry_at d []) ≡ true → IsAtOrBelow [] d.suffix
    root there = by (dn_key_eq [] d.suffix) refl (closed [] there)
      where
        by : (b : Bool) → dn_key_eq [] d.suffix ≡ b → (b || false) ≡ true → IsAtOrBelow [] d.suffix
        by true t h = here [] t
        by false t h = absurd (true≢false (sym h))

    below : (p : DnKeys) (part : RdnKeys) → (is_some (entry_at d p) ≡ true → IsAtOrBelow p d.suffix) → is_some (entry_at d (p ++ part ∷ [])) ≡ true → IsAtOrBelow (p ++ part ∷ []) d.suffix
    below p part rest there = by (dn_key_eq (p ++ part ∷ []) d.suffix) refl (closed (p ++ part ∷ []) there)
      where
        by : (b : Bool) → dn_key_eq (p ++ part ∷ []) d.suffix ≡ b → (b || is_there d (parent_of (p ++ part ∷ []))) ≡ true → IsAtOrBelow (p ++ part ∷ []) d.suffix
        by true t h = here (p ++ part ∷ []) t
        by false t h =
            let up = rest (sym (ap (is_there d) (parent_snoc p part)) ∙ h) in
            (up.0 ++ part ∷ [], ap (λ z. z ++ part ∷ []) up.1 ∙ append_assoc d.suffix up.0 (part ∷ []))

-- ---- the own name in a name

module _ {A B : Type 0} (f : A → Option B) where
  all_split : (xs ys : List A) (k : List B) → option_collect f (xs ++ ys) ≡ Some k → (us : List B) × (vs : List B) × (option_collect f ys ≡ Some vs) × (k ≡ us ++ vs)
  all_split [] ys k e = ([], k, e, refl)
  all_split (x ∷ xs) ys k e = by (f x) (option_collect f (xs ++ ys)) refl e (all_split xs ys)
    where
      by : (o : Option B) (p : Option (List B)) → option_collect f (xs ++ ys) ≡ p → option_cons o p ≡ Some k → ((k : List B) → option_collect f (xs ++ ys) ≡ Some k → (us : List B) × (vs : List B) × (option_collect f ys ≡ Some vs) × (k ≡ us ++ vs)) → (us : List B) × (vs : List B) × (option_collect f ys ≡ Some vs) × (k ≡ us ++ vs)
      by None p t e rest = absurd (cc)
      by (Some u) None t e rest = absurd (cc)
      by (Some u) (Some ws) t e rest =
          let same : u ∷ ws ≡ k = cc in
          let found = rest ws t in
          (u ∷ found.0, found.1, found.2, sym same ∙ ap (λ z. u ∷ z) found.3)

  one_of : (x : A) (vs : List B) → option_collect f (x ∷ []) ≡ Some vs → (u : B) × (vs ≡ u ∷ [])
  one_of x vs e = by (f x) e
    where
      by : (o : Option B) → option_cons o (Some []) ≡ Some vs → (u : B) × (vs ≡ u ∷ [])
      by None e = absurd (cc)
      by (Some u) e = let same : u ∷ [] ≡ vs = cc in (u, sym same)

reversed_cons : (x : SpelledRdn) (xs : SpelledName) → reverse (x ∷ xs) ≡ reverse xs ++ x ∷ []
reversed_cons x xs = reverse-append (x ∷ []) xs

leaf_named : (rows : List TypeRow) (name : SpelledName) (k : DnKeys) → name_key rows name ≡ Some k → name_key rows (take 1 name) ≡ Some (take 1 (reverse k))
leaf_named rows [] k e = let none : [] ≡ k = cc in e ∙ ap Some (sym none ∙ ap (λ z. take 1 (reverse z)) none)
leaf_named rows (x ∷ xs) k e =
    let split = all_split (rdn_key rows) (reverse xs) (x ∷ []) k (ap (option_collect (rdn_key rows)) (sym (reversed_cons x xs)) ∙ e) in
    let one = one_of (rdn_key rows) x split.1 split.2 in
    split.2 ∙ ap Some (one.1 ∙ sym (last_of split.0 one.0) ∙ ap (λ z. take 1 (reverse z)) (sym (split.3 ∙ ap (λ z. split.0 ++ z) one.1)))

pub own_named : (rows : List TypeRow) (suffix k : DnKeys) (name : SpelledName) → name_key rows name ≡ Some k → name_key rows (own_rdns suffix k name) ≡ Some (own_part suffix k)
own_named rows suffix k name e = by (dn_key_eq k suffix)
  where
    by : (b : Bool) → name_key rows (cond b name (take 1 name)) ≡ Some (cond b k (take 1 (reverse k)))
    by true = e
    by false = leaf_named rows name k e

-- an own name that is not the suffix's is one RDN
front_own : (rows : List TypeRow) (own above : SpelledName) (part : RdnKeys) → name_key rows own ≡ Some (part ∷ []) → take 1 (own ++ above) ≡ own
front_own rows own above part e = by own (key_length rows own (part ∷ []) e)
  where
    by : (own : SpelledName) → length own ≡ 1 → take 1 (own ++ above) ≡ own
    by [] l = absurd (omega (arith, l))
    by (x ∷ []) l = refl
    by (x ∷ y ∷ ys) l = absurd (omega (arith, l))

-- ---- the parent's part of an entry's name

pub spelled_here : (d : Dir) → IsClosed d → (k : DnKeys) → is_some (entry_at d k) ≡ true → spelled_name d k ≡ own_name_at d k ++ name_of_parent d k
spelled_here d closed k there = by (dn_key_eq k d.suffix) refl (parent_of k) refl (closed k there)
  where
    by : (b : Bool) → dn_key_eq k d.suffix ≡ b → (o : Option DnKeys) → parent_of k ≡ o → (b || is_there d o) ≡ true → spelled_name d k ≡ own_name_at d k ++ cond b [] (spelled_name_or_empty d (parent_of k))
    by true t o p h = spelled_suffix d closed k ((dn_key_eq_decides k d.suffix).0 t) ∙ sym (append-nil (own_name_at d k))
    by false t None p h = absurd (true≢false (sym h))
    by false t (Some above) p h = spelled_below d k above p ∙ ap (λ o. own_name_at d k ++ spelled_name_or_empty d o) (sym p)

parent_shorter : (k p : DnKeys) → parent_of k ≡ Some p → length k ≡ length p + 1
parent_shorter k p e = let child = parent_child k p e in ap length child.1 ∙ length-append p (child.0 ∷ [])

not_below : (k p : DnKeys) → parent_of k ≡ Some p → IsAtOrBelow p k → ⊥
not_below k p e below =
    let short = parent_shorter k p e in
    let long : length p ≡ length k + length below.0 = ap length below.1 ∙ length-append k below.0 in
    omega (arith, short, long)

pub above_put : (d : Dir) (k : DnKeys) (e : Content) → name_of_parent (put_entry d k e) k ≡ name_of_parent d k
above_put d k e = by (parent_of k) refl
  where
    by : (o : Option DnKeys) → parent_of k ≡ o → name_of_parent (put_entry d k e) k ≡ name_of_parent d k
    by None p = λ i. cond (dn_key_eq k d.suffix) [] ((ap (spelled_name_or_empty (put_entry d k e)) p ∙ sym (ap (spelled_name_or_empty d) p)) i)
    by (Some above) p = ap (cond (dn_key_eq k d.suffix) []) (ap (spelled_name_or_empty (put_entry d k e)) p ∙ spelled_put_apart d k e above (not_below k above p) ∙ sym (ap (spelled_name_or_empty d) p))

-- ---- what is known where an operation is accepted

pub made_own : (rows : List TypeRow) (own : SpelledName) (lines : List (Described × List ℕ)) (e : Content) → new_entry rows own lines ≡ Ok e → e.own ≡ own
made_own rows own lines e is = by (leaf_key rows own) (attributes_of rows lines) is
  where
    last : (key : RdnKeys) (xs : StoredAttributes) (b : Bool) → cond b (Err Single) (Ok (record { own = own; key = key; attributes = with_missing_of xs (leaf_lines rows own) })) ≡ Ok e → e.own ≡ own
    last key xs true h = absurd (cc)
    last key xs false h =
        let whole : Content = record { own = own; key = key; attributes = with_missing_of xs (leaf_lines rows own) } in
        let same : whole ≡ e = cc in
        ap (λ (c : Content). c.own) (sym same)

    by : (o : Option RdnKeys) (r : Result StoredAttributes EntryFault) → and_then (ok_or o NotNamed) (λ key. and_then r (λ xs. ok_unless_exceeding rows (record { own = own; key = key; attributes = with_missing_of xs (leaf_lines rows own) }))) ≡ Ok e → e.own ≡ own
    by None r h = absurd (cc)
    by (Some key) (Err fault) h = absurd (cc)
    by (Some key) (Ok xs) h = last key xs (exceeds_single_value rows (with_missing_of xs (leaf_lines rows own))) h

none_is : (d : Dir) (k : DnKeys) → is_some (entry_at d k) ≡ false → entry_at d k ≡ None
none_is d k e = by (entry_at d k) e
  where
    by : (o : Option Content) → is_some o ≡ false → o ≡ None
    by None h = refl
    by (Some x) h = absurd (true≢false h)

pub added_is : (rows : List TypeRow) (d : Dir) (k : DnKeys) (name : SpelledName) (lines : List (Described × List ℕ)) (new : Dir) → directory_after_add rows d k name lines ≡ Ok new →
    (is_at_or_below k d.suffix ≡ true) × (entry_at d k ≡ None) × (has_parent d k ≡ true) × (e : Content) × (new_entry rows (own_rdns d.suffix k name) lines ≡ Ok e) × (new ≡ put_entry d k e)
added_is rows d k name lines new is = by (is_at_or_below k d.suffix) refl (is_some (entry_at d k)) refl (has_parent d k) refl is
  where
    put : (r : Result Content EntryFault) → new_entry rows (own_rdns d.suffix k name) lines ≡ r → with_new_entry d k r ≡ Ok new → (e : Content) × (new_entry rows (own_rdns d.suffix k name) lines ≡ Ok e) × (new ≡ put_entry d k e)
    put (Ok e) t h = let same : put_entry d k e ≡ new = cc in (e, t, sym same)
    put (Err fault) t h = absurd (cc)

    by : (a : Bool) → is_at_or_below k d.suffix ≡ a → (b : Bool) → is_some (entry_at d k) ≡ b → (c : Bool) → has_parent d k ≡ c →
        unless (not a) NoSuchObject (unless b EntryAlreadyExists (unless (not c) NoSuchObject (with_new_entry d k (new_entry rows (own_rdns d.suffix k name) lines)))) ≡ Ok new →
        (is_at_or_below k d.suffix ≡ true) × (entry_at d k ≡ None) × (has_parent d k ≡ true) × (e : Content) × (new_entry rows (own_rdns d.suffix k name) lines ≡ Ok e) × (new ≡ put_entry d k e)
    by false s b t c u h = absurd (cc)
    by true s true t c u h = absurd (cc)
    by true s false t false u h = absurd (cc)
    by true s false t true u h = let there = put (new_entry rows (own_rdns d.suffix k name) lines) refl h in (s, none_is d k t, u, there.0, there.1, there.2)

pub deleted_is : (d : Dir) (k : DnKeys) (new : Dir) → directory_after_delete d k ≡ Ok new → (e : Content) × (entry_at d k ≡ Some e) × (has_child d k ≡ false) × (new ≡ remove_entry d k)
deleted_is d k new is = by (entry_at d k) refl (has_child d k) refl is
  where
    by : (o : Option Content) → entry_at d k ≡ o → (b : Bool) → has_child d k ≡ b → unless (not (is_some o)) NoSuchObject (unless b NotAllowedOnNonLeaf (Ok (remove_entry d k))) ≡ Ok new → (e : Content) × (entry_at d k ≡ Some e) × (has_child d k ≡ false) × (new ≡ remove_entry d k)
    by None t b u h = absurd (cc)
    by (Some e) t true u h = absurd (cc)
    by (Some e) t false u h = let same : remove_entry d k ≡ new = cc in (e, t, u, sym same)

-- ---- taken back

names_put : (rows : List TypeRow) (d : Dir) (k : DnKeys) (e : Content) → HasOwnNames rows d → name_key rows e.own ≡ Some (own_part d.suffix k) → HasOwnNames rows (put_entry d k e)
names_put rows d k e names own q x there = by (eq_by_cmp dn_key_cmp q k) refl (sym (get_put d k e q) ∙ there)
  where
    by : (b : Bool) → eq_by_cmp dn_key_cmp q k ≡ b → cond b (Some e) (entry_at d q) ≡ Some x → name_key rows x.own ≡ Some (own_part d.suffix q)
    by false t h = names q x h
    by true t h =
        let same : e ≡ x = cc in
        ap (λ (c : Content). name_key rows c.own) (sym same) ∙ own ∙ ap (λ z. Some (own_part d.suffix z)) (sym (same_key q k t))

-- nothing is below a key that was free
leaf_put : (d : Dir) (k : DnKeys) (e : Content) → IsClosed d → entry_at d k ≡ None → is_at_or_below k d.suffix ≡ true → has_child (put_entry d k e) k ≡ false
leaf_put d k e closed free below = child_false (put_entry d k e) k none
  where
    longer : (part : RdnKeys) → length (k ++ part ∷ []) ≡ length k + 1
    longer part = length-append k (part ∷ [])

    apart : (part : RdnKeys) → (b : Bool) → eq_by_cmp dn_key_cmp (k ++ part ∷ []) k ≡ b → b ≡ false
    apart part true t = let l = longer part in let same = ap length (same_key (k ++ part ∷ []) k t) in absurd (omega (arith, l, same))
    apart part false t = refl

    none : HasChild (put_entry d k e) k → ⊥
    none child =
        let q : DnKeys = k ++ child.0 ∷ [] in
        let there : is_some (entry_at d q) ≡ true = sym (ap is_some (get_put d k e q) ∙ ap (λ b. is_some (cond b (Some e) (entry_at d q))) (apart child.0 _ refl)) ∙ child.1 in
        by (dn_key_eq q d.suffix) refl (closed q there)
      where
        by : (b : Bool) → dn_key_eq (k ++ child.0 ∷ []) d.suffix ≡ b → (b || is_there d (parent_of (k ++ child.0 ∷ []))) ≡ true → ⊥
        by true t h =
            let up = below_is k d.suffix below in
            let same = ap length ((dn_key_eq_decides (k ++ child.0 ∷ []) d.suffix).0 t) in
            let long : length k ≡ length d.suffix + length up.0 = ap length up.1 ∙ length-append d.suffix up.0 in
            let l = longer child.0 in
            omega (arith, same, long, l)
        by false t h = true≢false (sym (ap is_some (sym free) ∙ sym (ap (is_there d) (parent_snoc k child.0)) ∙ h))

step_at_key : (rows : List TypeRow) (d : Dir) (change : Change) (k : DnKeys) → name_key rows change.dn ≡ Some k → step rows d change ≡ directory_after rows d k change.dn change.kind
step_at_key rows d change k e = ap (step_at rows d change) e

pub add_taken_back : (rows : List TypeRow) (d : Dir) → IsClosed d → HasOwnNames rows d → (k : DnKeys) (name : SpelledName) (lines : List (Described × List ℕ)) → name_key rows name ≡ Some k → (new : Dir) → directory_after_add rows d k name lines ≡ Ok new →
    TakesBack rows d new (undo_of rows d new k (kind.Add lines))
add_taken_back rows d closed names k name lines named new is =
    ap (λ r. and_then r (λ e. Ok e)) (step_at_key rows new (record { dn = spelled_name new k; kind = kind.Delete }) k key ∙ delete_leaf new k there leaf ∙ ap Ok back)
  where
    known : (is_at_or_below k d.suffix ≡ true) × (entry_at d k ≡ None) × (has_parent d k ≡ true) × (e : Content) × (new_entry rows (own_rdns d.suffix k name) lines ≡ Ok e) × (new ≡ put_entry d k e)
    known = added_is rows d k name lines new is

    e : Content
    e = known.3

    own : name_key rows e.own ≡ Some (own_part d.suffix k)
    own = ap (name_key rows) (made_own rows (own_rdns d.suffix k name) lines e known.4) ∙ own_named rows d.suffix k name named

    there_put : is_some (entry_at (put_entry d k e) k) ≡ true
    there_put = ap is_some (get_put d k e k) ∙ ap (λ b. is_some (cond b (Some e) (entry_at d k))) (itself k)

    there : is_some (entry_at new k) ≡ true
    there = ap (λ z. is_some (entry_at z k)) known.5 ∙ there_put

    key : name_key rows (spelled_name new k) ≡ Some k
    key = ap (λ z. name_key rows (spelled_name z k)) known.5 ∙ spelled_key rows (put_entry d k e) (closed_put d k e closed known.2) (names_put rows d k e names own) k there_put

    leaf : has_child new k ≡ false
    leaf = ap (λ z. has_child z k) known.5 ∙ leaf_put d k e closed known.1 known.0

    back : remove_entry new k ≡ d
    back = ap (λ z. remove_entry z k) known.5 ∙ put_out d k e known.1

-- an add of the name as spelled has the own name of the entry
pub own_spelled : (rows : List TypeRow) (d : Dir) → IsWellFormed rows d → (k : DnKeys) (e : Content) → entry_at d k ≡ Some e → own_rdns d.suffix k (spelled_name d k) ≡ e.own
own_spelled rows d well k e known = by (dn_key_eq k d.suffix) refl
  where
    here : own_name_at d k ≡ e.own
    here = own_here d k e known ∙ own_whole rows d.suffix k e.own (well.2 k e known).1

    by : (b : Bool) → dn_key_eq k d.suffix ≡ b → cond b (spelled_name d k) (take 1 (spelled_name d k)) ≡ e.own
    by true t = spelled_suffix d well.1 k ((dn_key_eq_decides k d.suffix).0 t) ∙ here
    by false t = by_parent (parent_of k) refl
      where
        by_parent : (o : Option DnKeys) → parent_of k ≡ o → take 1 (spelled_name d k) ≡ e.own
        by_parent None p = absurd (true≢false (sym (sym (λ i. t i || is_there d (p i)) ∙ well.1 k (ap is_some known))))
        by_parent (Some above) p =
            let child = parent_child k above p in
            let part : name_key rows e.own ≡ Some (child.0 ∷ []) = (well.2 k e known).1 ∙ ap (λ b. Some (cond b k (take 1 (reverse k)))) t ∙ ap (λ z. Some (take 1 (reverse z))) child.1 ∙ ap Some (last_of above child.0) in
            ap (take 1) (spelled_here d well.1 k (ap is_some known) ∙ ap (λ z. z ++ name_of_parent d k) here) ∙ front_own rows e.own (name_of_parent d k) child.0 part

pub delete_taken_back : (rows : List TypeRow) (d : Dir) → IsWellFormed rows d → (k : DnKeys) (new : Dir) → directory_after_delete d k ≡ Ok new → TakesBack rows d new (undo_of rows d new k kind.Delete)
delete_taken_back rows d well k new is =
    ap (λ r. and_then r (λ e. Ok e))
    (step_at_key rows new again k key
    ∙ ap (λ ls. directory_after_add rows new k (spelled_name d k) ls) (ap lines_of_entry known.1)
    ∙ ap (λ z. directory_after_add rows z k (spelled_name d k) (all_lines e.attributes)) known.3
    ∙ add_placed (remove_entry d k) k rows (spelled_name d k) (all_lines e.attributes) below free parent
    ∙ ap (with_new_entry (remove_entry d k) k) (ap (λ own. new_entry rows own (all_lines e.attributes)) own ∙ made_again rows e (well.2 k e known.1).0)
    ∙ ap Ok (out_put d k e known.1))
  where
    known : (e : Content) × (entry_at d k ≡ Some e) × (has_child d k ≡ false) × (new ≡ remove_entry d k)
    known = deleted_is d k new is

    e : Content
    e = known.0

    again : Change
    again = record { dn = spelled_name d k; kind = kind.Add (lines_of_entry (entry_at d k)) }

    there : is_some (entry_at d k) ≡ true
    there = ap is_some known.1

    key : name_key rows (spelled_name d k) ≡ Some k
    key = spelled_key rows d well.1 (λ q x h. (well.2 q x h).1) k there

    below : is_at_or_below k d.suffix ≡ true
    below = stands_below d well.1 k there

    free : is_some (entry_at (remove_entry d k) k) ≡ false
    free = ap is_some (get_without d k k) ∙ ap (λ b. is_some (cond b None (entry_at d k))) (itself k)

    parent : has_parent (remove_entry d k) k ≡ true
    parent = by (dn_key_eq k d.suffix) (parent_of k) refl (well.1 k there)
      where
        by : (b : Bool) (o : Option DnKeys) → parent_of k ≡ o → (b || is_there d (parent_of k)) ≡ true → (b || is_there (remove_entry d k) (parent_of k)) ≡ true
        by true o p h = refl
        by false None p h = absurd (true≢false (sym (sym (ap (is_there d) p) ∙ h)))
        by false (Some above) p h =
            ap (is_there (remove_entry d k)) p ∙ ap is_some (get_without d k above) ∙ ap (λ b. is_some (cond b None (entry_at d above))) (apart (eq_by_cmp dn_key_cmp above k) refl) ∙ sym (ap (is_there d) p) ∙ h
          where
            apart : (b : Bool) → eq_by_cmp dn_key_cmp above k ≡ b → b ≡ false
            apart false t = refl
            apart true t = let short = parent_shorter k above p in let same = ap length (same_key above k t) in absurd (omega (arith, short, same))

    own : own_rdns d.suffix k (spelled_name d k) ≡ e.own
    own = own_spelled rows d well k e known.1

-- the key of an added entry's name as spelled
pub added_key : (rows : List TypeRow) (d : Dir) → IsClosed d → HasOwnNames rows d → (k : DnKeys) (name : SpelledName) (lines : List (Described × List ℕ)) → name_key rows name ≡ Some k → (new : Dir) → directory_after_add rows d k name lines ≡ Ok new → name_key rows (spelled_name new k) ≡ Some k
added_key rows d closed names k name lines named new is =
    let known = added_is rows d k name lines new is in
    let e = known.3 in
    let own = ap (name_key rows) (made_own rows (own_rdns d.suffix k name) lines e known.4) ∙ own_named rows d.suffix k name named in
    let there : is_some (entry_at (put_entry d k e) k) ≡ true = ap is_some (get_put d k e k) ∙ ap (λ b. is_some (cond b (Some e) (entry_at d k))) (itself k) in
    ap (λ z. name_key rows (spelled_name z k)) known.5 ∙ spelled_key rows (put_entry d k e) (closed_put d k e closed known.2) (names_put rows d k e names own) k there

-- the name of an added entry: its own RDNs, as far as they count, and its parent's name
pub add_spelled : (rows : List TypeRow) (d : Dir) → IsClosed d → (k : DnKeys) (own : SpelledName) (lines : List (Described × List ℕ)) (e : Content) → has_parent d k ≡ true → new_entry rows own lines ≡ Ok e → spelled_name (put_entry d k e) k ≡ take (own_depth d.suffix k) own ++ name_of_parent d k
add_spelled rows d closed k own lines e parent is =
    let there : is_some (entry_at (put_entry d k e) k) ≡ true = ap is_some (get_put d k e k) ∙ ap (λ b. is_some (cond b (Some e) (entry_at d k))) (itself k) in
    let stands : entry_at (put_entry d k e) k ≡ Some e = get_put d k e k ∙ ap (λ b. cond b (Some e) (entry_at d k)) (itself k) in
    spelled_here (put_entry d k e) (closed_put d k e closed parent) k there
    ∙ (λ i. (own_here (put_entry d k e) k e stands ∙ ap (take (own_depth d.suffix k)) (made_own rows own lines e is)) i ++ above_put d k e i)

-- the name of an added entry has no more RDNs than its key
pub depth_fits : (d : Dir) → IsClosed d → (k : DnKeys) → has_parent d k ≡ true → own_depth d.suffix k + length (name_of_parent d k) ≤ length k
depth_fits d closed k parent = by (dn_key_eq k d.suffix) refl (parent_of k) refl parent
  where
    by : (b : Bool) → dn_key_eq k d.suffix ≡ b → (o : Option DnKeys) → parent_of k ≡ o → (b || is_there d o) ≡ true → own_depth d.suffix k + length (name_of_parent d k) ≤ length k
    by true t o u h =
        let depth : own_depth d.suffix k ≡ length k = ap (λ b. cond b (length k) 1) t in
        let none : length (name_of_parent d k) ≡ 0 = ap (λ b. length (cond b [] (spelled_name_or_empty d (parent_of k)))) t in
        omega (arith, depth, none)
    by false t None u h = absurd (true≢false (sym h))
    by false t (Some p) u h =
        let depth : own_depth d.suffix k ≡ 1 = ap (λ b. cond b (length k) 1) t in
        let above : length (name_of_parent d k) ≡ length (spelled_name d p) = λ i. length (cond (t i) [] (spelled_name_or_empty d (u i))) in
        let low = spelled_short d closed p in
        let count = parent_shorter k p u in
        omega (arith, depth, above, low, count)
