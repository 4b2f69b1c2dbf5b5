-- The tests of a step, and what they say of keys.
use Rattle.std.proofs.Common.{◌≡◌, ℕ, suc, Bool, true, false, not, ◌||◌, List, [], ◌∷◌, ◌++◌, length, take, drop, Option, Some, None, is_some, Result, Ok, Err, refl, sym, ap, subst, ◌∙◌, true≢false, arith, length-append, Bor}
use Rattle.std.specs.List.{list_any}
use Rattle.std.specs.Option.{option_copied}
use Rattle.std.proofs.lemmas.List.{take-append-drop}
use Rattle.std.proofs.Math.Seq.{take-append_seam}
use Rattle.std.specs.FinMap as fin
use Rattle.std.specs.FinMap.{contains_key-keys}
use Rattle.std.specs.Cmp.{tied_itself}
use Rattle.std.specs.Ordering.{eq_by_cmp}
use Rattle.dir_names.specs.Keys.{DnKeys, RdnKeys, IsAtOrBelow, parent_of}
use Rattle.dir_names.specs.Orders.{dn_key_cmp, dn_key_cmp_total, dn_key_eq_decides}
use Rattle.dir_names.specs.declared.schema.TypeRow.{TypeRow}
use Rattle.dir_names.specs.Described.{Described}
use Rattle.dir_names.specs.Names.{SpelledName}
use Rattle.dir_names.specs.Below.{is_at_or_below}
use Rattle.dir_names.specs.Results.{and_then}
use Rattle.dir_tree.specs.Dir.{Dir, HasChild, entry_at, has_child, has_parent, is_key, remove_entry}
use Rattle.dir_tree.specs.NewEntry.{new_entry}
use Rattle.dir_tree.proofs.DirLemmas.{parent_child, same_key}
use Rattle.dir_tree.specs.SpelledNames.{own_rdns}
use Rattle.dir_change.specs.Operation.{IsRefused, directory_after_add, directory_after_delete, with_new_entry}
use Rattle.dir_change.specs.Refusals.{unless}
use Rattle.dir_change.specs.declared.refusal.Refusal.{Refusal}
use Rattle.dir_change.specs.declared.refusal.Refusal.TheVariants as refusal
use Rattle.dir_change.specs.declared.result_code.ResultCode.{ResultCode}
use Rattle.dir_change.specs.declared.result_code.ResultCode.TheVariants.{NoSuchObject, NotAllowedOnNonLeaf, EntryAlreadyExists}

pub below_true : (k above : DnKeys) → IsAtOrBelow k above → is_at_or_below k above ≡ true
below_true k above h = (dn_key_eq_decides (take (length above) k) above).1 (ap (take (length above)) h.1 ∙ take-append_seam above h.0)

pub below_is : (k above : DnKeys) → is_at_or_below k above ≡ true → IsAtOrBelow k above
below_is k above e = (drop (length above) k, sym (take-append-drop (length above) k) ∙ ap (λ z. z ++ drop (length above) k) ((dn_key_eq_decides (take (length above) k) above).0 e))

pub below_false : (k above : DnKeys) → (IsAtOrBelow k above → ⊥) → is_at_or_below k above ≡ false
below_false k above h = by (is_at_or_below k above) refl
  where
    by : (b : Bool) → is_at_or_below k above ≡ b → b ≡ false
    by true e = absurd (h (below_is k above e))
    by false e = refl

-- what refuses a step refuses it with all that follows
pub refused_before : {A B : Type 0} (next : A → Result B ResultCode) (e : Refusal) (step : Result A ResultCode) → IsRefused e step → IsRefused e (and_then step next)
refused_before next (refusal.Code code) step h = ap (λ r. and_then r next) h
refused_before next refusal.Memory step h = tt

-- what a look-up finds, by reference
pub copied_some : {A : Type 0} (o : Option (Bor A)) → is_some o ≡ true → is_some (option_copied o) ≡ true
copied_some None e = e
copied_some (Some x) e = refl

pub copied_none : {A : Type 0} (o : Option (Bor A)) → is_some o ≡ false → is_some (option_copied o) ≡ false
copied_none None e = refl
copied_none (Some x) e = e

pub parent_snoc : (k : DnKeys) (part : RdnKeys) → parent_of (k ++ part ∷ []) ≡ Some k
parent_snoc [] part = refl
parent_snoc (x ∷ xs) part =
    let count : length (xs ++ part ∷ []) ≡ suc (length xs) = length-append xs (part ∷ []) ∙ omega arith in
    ap (λ n. Some (take n (x ∷ xs ++ part ∷ []))) count ∙ ap (λ zs. Some (x ∷ zs)) (take-append_seam xs (part ∷ []))

any_more : {A : Type 0} (p q : A → Bool) → ((x : A) → p x ≡ true → q x ≡ true) → (xs : List A) → list_any p xs ≡ true → list_any q xs ≡ true
any_more p q h [] e = e
any_more p q h (x ∷ xs) e = by (any_more p q h xs) (p x) refl e
  where
    or_true : (b : Bool) → (b || true) ≡ true
    or_true true = refl
    or_true false = refl

    by : (list_any p xs ≡ true → list_any q xs ≡ true) → (b : Bool) → p x ≡ b → (b || list_any p xs) ≡ true → (q x || list_any q xs) ≡ true
    by rest true t e = ap (λ b. b || list_any q xs) (h x t)
    by rest false t e = ap (λ b. q x || b) (rest e) ∙ or_true (q x)

-- an element that passes
found_any : {A : Type 0} (E : A → A → Bool) → ((x : A) → E x x ≡ true) → (p : A → Bool) (xs : List A) → list_any p xs ≡ true → (x : A) × (p x ≡ true) × (list_any (E x) xs ≡ true)
found_any E itself p [] e = absurd (true≢false (sym e))
found_any {A = A} E itself p (x ∷ xs) e = by (found_any E itself p xs) (p x) refl e
  where
    or_true : (b : Bool) → (b || true) ≡ true
    or_true true = refl
    or_true false = refl

    by : (list_any p xs ≡ true → (x : A) × (p x ≡ true) × (list_any (E x) xs ≡ true)) → (b : Bool) → p x ≡ b → (b || list_any p xs) ≡ true → (y : A) × (p y ≡ true) × (list_any (E y) (x ∷ xs) ≡ true)
    by rest true t e = (x, t, ap (λ b. b || list_any (E x) xs) (itself x))
    by rest false t e = let there = rest e in (there.0, there.1, ap (λ b. E there.0 x || b) there.2 ∙ or_true (E there.0 x))

pub child_true : (d : Dir) (k : DnKeys) → HasChild d k → has_child d k ≡ true
child_true d k child =
    any_more (eq_by_cmp dn_key_cmp (k ++ child.0 ∷ [])) (λ q. is_key k (parent_of q)) passes (fin.keys d.entries) (sym (contains_key-keys d.entries (k ++ child.0 ∷ [])) ∙ child.1)
  where
    passes : (x : DnKeys) → eq_by_cmp dn_key_cmp (k ++ child.0 ∷ []) x ≡ true → is_key k (parent_of x) ≡ true
    passes x t = ap (λ z. is_key k (parent_of z)) (sym (same_key (k ++ child.0 ∷ []) x t)) ∙ ap (is_key k) (parent_snoc k child.0) ∙ (dn_key_eq_decides k k).1 refl

pub child_is : (d : Dir) (k : DnKeys) → has_child d k ≡ true → HasChild d k
child_is d k e =
    let there = found_any (eq_by_cmp dn_key_cmp) (λ x. ap (λ o. eq_by_cmp (λ a b. o) x x) (tied_itself dn_key_cmp_total x)) (λ q. is_key k (parent_of q)) (fin.keys d.entries) e in
    let stands : is_some (entry_at d there.0) ≡ true = contains_key-keys d.entries there.0 ∙ there.2 in
    by there.0 stands (parent_of there.0) refl there.1
  where
    by : (q : DnKeys) → is_some (entry_at d q) ≡ true → (o : Option DnKeys) → parent_of q ≡ o → is_key k o ≡ true → HasChild d k
    by q stands None p t = absurd (true≢false (sym t))
    by q stands (Some above) p t =
        let child = parent_child q above p in
        let same : above ≡ k = (dn_key_eq_decides above k).0 t in
        (child.0, subst (λ z. is_some (entry_at d z) ≡ true) (child.1 ∙ ap (λ z. z ++ child.0 ∷ []) same) stands)

pub child_false : (d : Dir) (k : DnKeys) → (HasChild d k → ⊥) → has_child d k ≡ false
child_false d k h = by (has_child d k) refl
  where
    by : (b : Bool) → has_child d k ≡ b → b ≡ false
    by true e = absurd (h (child_is d k e))
    by false e = refl

-- ---- what a delete and an add come to, test by test

module _ (d : Dir) (k : DnKeys) where
  pub delete_inner : is_some (entry_at d k) ≡ true → has_child d k ≡ true → directory_after_delete d k ≡ Err NotAllowedOnNonLeaf
  delete_inner there child = λ i. unless (not (there i)) NoSuchObject (unless (child i) NotAllowedOnNonLeaf (Ok (remove_entry d k)))

  pub delete_leaf : is_some (entry_at d k) ≡ true → has_child d k ≡ false → directory_after_delete d k ≡ Ok (remove_entry d k)
  delete_leaf there leaf = λ i. unless (not (there i)) NoSuchObject (unless (leaf i) NotAllowedOnNonLeaf (Ok (remove_entry d k)))

  module _ (rows : List TypeRow) (name : SpelledName) (lines : List (Described × List ℕ)) where
    pub add_outside : is_at_or_below k d.suffix ≡ false → directory_after_add rows d k name lines ≡ Err NoSuchObject
    add_outside e = ap (λ b. unless (not b) NoSuchObject (unless (is_some (entry_at d k)) EntryAlreadyExists (unless (not (has_parent d k)) NoSuchObject (with_new_entry d k (new_entry rows (own_rdns d.suffix k name) lines))))) e

    pub add_taken : is_at_or_below k d.suffix ≡ true → is_some (entry_at d k) ≡ true → directory_after_add rows d k name lines ≡ Err EntryAlreadyExists
    add_taken e f = λ i. unless (not (e i)) NoSuchObject (unless (f i) EntryAlreadyExists (unless (not (has_parent d k)) NoSuchObject (with_new_entry d k (new_entry rows (own_rdns d.suffix k name) lines))))

    pub add_orphan : is_at_or_below k d.suffix ≡ true → is_some (entry_at d k) ≡ false → has_parent d k ≡ false → directory_after_add rows d k name lines ≡ Err NoSuchObject
    add_orphan e f g = λ i. unless (not (e i)) NoSuchObject (unless (f i) EntryAlreadyExists (unless (not (g i)) NoSuchObject (with_new_entry d k (new_entry rows (own_rdns d.suffix k name) lines))))

    pub add_placed : is_at_or_below k d.suffix ≡ true → is_some (entry_at d k) ≡ false → has_parent d k ≡ true → directory_after_add rows d k name lines ≡ with_new_entry d k (new_entry rows (own_rdns d.suffix k name) lines)
    add_placed e f g = λ i. unless (not (e i)) NoSuchObject (unless (f i) EntryAlreadyExists (unless (not (g i)) NoSuchObject (with_new_entry d k (new_entry rows (own_rdns d.suffix k name) lines))))
