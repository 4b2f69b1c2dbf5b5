-- A modify of what is looked at of an entry, and of the entry.
use Rattle.std.proofs.Common.{◌≡◌, ℕ, Bool, true, false, cond, ◌||◌, List, [], ◌∷◌, ◌++◌, map, Option, Some, None, Result, Ok, Err, refl, sym, ap, subst, ◌∙◌, true≢false}
use Rattle.std.specs.List.{flat_map}
use Rattle.std.specs.FinMap as fin
use Rattle.std.specs.Ordering.{eq_by_cmp}
use Rattle.dir_names.specs.declared.schema.TypeRow.{TypeRow}
use Rattle.dir_names.specs.declared.value.ValueKey.TheVariants.{Text}
use Rattle.dir_names.specs.Attr.{Attr}
use Rattle.dir_names.specs.Orders.{attr_cmp}
use Rattle.dir_names.specs.Results.{and_then}
use Rattle.dir_names.specs.Sorted.{set_of}
use Rattle.dir_ldif.specs.declared.records.Mod.{Mod}
use Rattle.dir_tree.specs.ChangedEntry.{changed_entry, has_own_values}
use Rattle.dir_tree.specs.Content.{Content, Stored, StoredAttributes}
use Rattle.dir_tree.specs.NewEntry.{exceeds_single_value}
use Rattle.dir_tree.specs.WellFormed.{Each}
use Rattle.dir_tree.specs.declared.fault.EntryFault.TheVariants.{NotNamed, Single}
use Rattle.dir_change.specs.Difference.{difference_at, slot_difference}
use Rattle.dir_change.specs.Inside.Exchanged.{Fit, FitAttributes, exchanged_slot}
use Rattle.dir_change.specs.Inside.Looked.{AreLooks, AreSlotsAlike, IsFree, IsSeen, Looked, NamesLooked, is_one_of}
use Rattle.dir_change.specs.Inside.Overlaid.{overlaid}
use Rattle.dir_change.specs.Modify.{attributes_after, entry_after, with_attributes}
use Rattle.dir_change.specs.Operation.{IsRefused}
use Rattle.dir_change.specs.Refusals.{entry_or_code}
use Rattle.dir_change.specs.declared.refusal.Refusal.{Refusal}
use Rattle.dir_change.specs.declared.refusal.Refusal.TheVariants as refusal
use Rattle.dir_change.specs.declared.result_code.ResultCode.{ResultCode}
use Rattle.dir_change.proofs.AttributesBack.{attr_itself, same_attributes}
use Rattle.dir_change.proofs.ExchangedParts.{fit_alike}
use Rattle.dir_change.proofs.KeysInOrder.{is_among, set_among}
use Rattle.dir_change.proofs.LookedParts.{looks_whole_named, looks_whole_seen}
use Rattle.dir_change.proofs.ModifiedAttributes.{named_keys, untouched}
use Rattle.dir_change.proofs.OverlaidParts.{all_overlaid, exceeds_overlaid}
use Rattle.dir_change.proofs.PartDifference.{slot_difference_alike}
use Rattle.dir_change.proofs.PartOfSlot.{AreBothAfter, AreLookedAt, IsLookedMod, both_after}
use Rattle.dir_change.proofs.PatchedParts.{patched_is}

exchanged_is : (o : Option Looked) (s f t g : Option Stored) → AreSlotsAlike o s f → AreSlotsAlike o t g → exchanged_slot s f g ≡ t
exchanged_is None s None t None was is = was ∙ sym is
exchanged_is None s None t (Some b) was is = sym is
exchanged_is None s (Some a) t g was is = patched_is None s (Some a) t g was is
exchanged_is (Some p) None f t g was is = absurd was
exchanged_is (Some p) (Some x) None t g was is = absurd was
exchanged_is (Some p) (Some x) (Some a) t g was is = patched_is (Some p) (Some x) (Some a) t g was is

-- an entry is judged by what it has of its own RDN and by whether it has too many values
judged_refused : (y z : Content) (own many : Bool) (e : Refusal) → IsRefused e (entry_or_code (cond own (cond many (Err Single) (Ok z)) (Err NotNamed))) → IsRefused e (entry_or_code (cond own (cond many (Err Single) (Ok y)) (Err NotNamed)))
judged_refused y z own many refusal.Memory h = tt
judged_refused y z false many (refusal.Code code) h = h
judged_refused y z true true (refusal.Code code) h = h
judged_refused y z true false (refusal.Code code) h = absurd (cc)

judged_ok : (y z : Content) (own many : Bool) → entry_or_code (cond own (cond many (Err Single) (Ok z)) (Err NotNamed)) ≡ Ok z → entry_or_code (cond own (cond many (Err Single) (Ok y)) (Err NotNamed)) ≡ Ok y
judged_ok y z false many h = absurd (cc)
judged_ok y z true true h = absurd (cc)
judged_ok y z true false h = refl

module _ (rows : List TypeRow) (e : Content) (mods : List Mod) (keys : List Attr) (are : keys ≡ set_of attr_cmp (named_keys mods)) (before : StoredAttributes) (looks : AreLooks rows e mods keys before) where
  -- which part is looked at under a key
  abbrev pub pick : (q : Attr) (b : Bool) → is_one_of q keys ≡ b → Option Looked
  pick q true t = (looks.0 q t).looked
  pick q false t = None

  abbrev pub looked : Attr → Option Looked
  looked q = pick q (is_one_of q keys) refl

  looked_at : AreLookedAt keys looked e.attributes before
  looked_at q named = by (is_one_of q keys) refl
    where
      by : (b : Bool) (t : is_one_of q keys ≡ b) → AreSlotsAlike (pick q b t) (fin.get e.attributes q) (fin.get before q)
      by true t = (looks.0 q t).alike
      by false t = absurd (true≢false (sym named ∙ t))

  are_free : (q : Attr) → is_among q keys ≡ true → IsFree rows q (looked q)
  are_free q named = by (is_one_of q keys) refl
    where
      by : (b : Bool) (t : is_one_of q keys ≡ b) → IsFree rows q (pick q b t)
      by true t = (looks.0 q t).free
      by false t = tt

  -- ---- the modifications

  picked : (q : Attr) (b : Bool) (t : is_one_of q keys ≡ b) → Each (λ m. (m.description.key ≡ q → NamesLooked rows m (pick q b t))) mods
  picked q true t = (looks.0 q t).named
  picked q false t = looks_whole_named rows q mods

  each_named : (ms : List Mod) → ((q : Attr) → is_among q (named_keys ms) ≡ true → is_among q keys ≡ true) → ((q : Attr) (b : Bool) (t : is_one_of q keys ≡ b) → Each (λ m. (m.description.key ≡ q → NamesLooked rows m (pick q b t))) ms) → Each (IsLookedMod rows keys looked) ms
  each_named [] among h = tt
  each_named (m ∷ ms) among h = (
    (among m.description.key (ap (λ b. b || is_among m.description.key (named_keys ms)) (attr_itself m.description.key)), (h m.description.key (is_one_of m.description.key keys) refl).0 refl),
    each_named ms (λ q t. among q (ap (λ b. eq_by_cmp attr_cmp q m.description.key || b) t ∙ or_true (eq_by_cmp attr_cmp q m.description.key))) (λ q b t. (h q b t).1),
  )
    where
      or_true : (b : Bool) → (b || true) ≡ true
      or_true true = refl
      or_true false = refl

  same_among : (q : Attr) → is_among q keys ≡ is_among q (named_keys mods)
  same_among q = ap (is_among q) are ∙ set_among q (named_keys mods)

  looked_mods : Each (IsLookedMod rows keys looked) mods
  looked_mods = each_named mods (λ q t. same_among q ∙ t) picked

  both : AreBothAfter rows keys looked e.attributes (attributes_after rows e.attributes mods) (attributes_after rows before mods)
  both = both_after rows keys looked mods looked_mods e.attributes before looked_at

  -- ---- the values of the own RDN

  picked_own : (q : Attr) (b : Bool) (t : is_one_of q keys ≡ b) → Each (λ p. (p.0 ≡ q → IsSeen (pick q b t) (Text p.1))) e.key
  picked_own q true t = (looks.0 q t).seen
  picked_own q false t = looks_whole_seen q e.key

  each_own : (ps : List (Attr × List ℕ)) → ((q : Attr) (b : Bool) (t : is_one_of q keys ≡ b) → Each (λ p. (p.0 ≡ q → IsSeen (pick q b t) (Text p.1))) ps) → Each (λ p. IsSeen (looked p.0) (Text p.1)) ps
  each_own [] h = tt
  each_own (p ∷ ps) h = ((h p.0 (is_one_of p.0 keys) refl).0 refl, each_own ps (λ q b t. (h q b t).1))

  own_seen : Each (λ p. IsSeen (looked p.0) (Text p.1)) e.key
  own_seen = each_own e.key picked_own

  -- ---- refused

  err_alike : (r s : Result StoredAttributes ResultCode) → AreBothAfter rows keys looked e.attributes r s → (code : ResultCode) → s ≡ Err code → r ≡ Err code
  err_alike (Err c) (Err d) h code is = ap Err h ∙ is
  err_alike (Ok ys) (Ok gs) h code is = absurd (cc)
  err_alike (Err c) (Ok gs) h code is = absurd h
  err_alike (Ok ys) (Err d) h code is = absurd h

  pub mods_refused : (r : Refusal) → IsRefused r (attributes_after rows before mods) → IsRefused r (entry_after rows e mods)
  mods_refused refusal.Memory h = tt
  mods_refused (refusal.Code code) h = ap (λ r. and_then r (λ xs. entry_or_code (changed_entry rows (with_attributes e xs)))) (err_alike (attributes_after rows e.attributes mods) (attributes_after rows before mods) both code h)

  -- ---- accepted

  module _ (gs : StoredAttributes) (done : attributes_after rows before mods ≡ Ok gs) where
    -- the attributes of the entry after the modifications, of which those after the modifications of what is looked at are looked at
    pub record After : Type 0 where
      pub ys : StoredAttributes
      pub after : attributes_after rows e.attributes mods ≡ Ok ys
      pub alike : AreLookedAt keys looked ys gs
      pub kept : (q : Attr) → is_among q keys ≡ false → fin.get ys q ≡ fin.get e.attributes q

    pub known : After
    known = by (attributes_after rows e.attributes mods) refl (attributes_after rows before mods) done both
      where
        by : (r : Result StoredAttributes ResultCode) → attributes_after rows e.attributes mods ≡ r → (s : Result StoredAttributes ResultCode) → s ≡ Ok gs → AreBothAfter rows keys looked e.attributes r s → After
        by (Err c) t (Err d) is h = absurd (cc)
        by (Err c) t (Ok x) is h = absurd h
        by (Ok ys) t (Err d) is h = absurd h
        by (Ok ys) t (Ok x) is h = let same : x ≡ gs = cc in record { ys = ys; after = t; alike = subst (AreLookedAt keys looked ys) same h.0; kept = h.1 }

    none_else : (q : Attr) → is_one_of q keys ≡ false → fin.get gs q ≡ None
    none_else q apart = untouched rows before mods gs done q (sym (same_among q) ∙ apart) ∙ looks.1 q apart

    pub only_named : (q : Attr) → is_one_of q keys ≡ false → fin.get gs q ≡ None
    only_named = none_else

    pub are_fit : FitAttributes e.attributes before gs
    are_fit q = by (is_one_of q keys) refl
      where
        by : (b : Bool) → is_one_of q keys ≡ b → Fit (fin.get e.attributes q) (fin.get before q) (fin.get gs q)
        by true t = fit_alike (looked q) (fin.get e.attributes q) (fin.get before q) (fin.get known.ys q) (fin.get gs q) (looked_at q t) (known.alike q t)
        by false t = subst (λ o. Fit (fin.get e.attributes q) o (fin.get gs q)) (sym (looks.1 q t)) (subst (λ o. Fit (fin.get e.attributes q) None o) (sym (none_else q t)) tt)

    pub exchanged_are : (new : StoredAttributes) → ((q : Attr) → fin.get new q ≡ exchanged_slot (fin.get e.attributes q) (fin.get before q) (fin.get gs q)) → new ≡ known.ys
    exchanged_are new h = same_attributes new known.ys (λ q. h q ∙ by q (is_one_of q keys) refl)
      where
        by : (q : Attr) (b : Bool) → is_one_of q keys ≡ b → exchanged_slot (fin.get e.attributes q) (fin.get before q) (fin.get gs q) ≡ fin.get known.ys q
        by q true t = exchanged_is (looked q) (fin.get e.attributes q) (fin.get before q) (fin.get known.ys q) (fin.get gs q) (looked_at q t) (known.alike q t)
        by q false t = (λ i. exchanged_slot (fin.get e.attributes q) (looks.1 q t i) (none_else q t i)) ∙ sym (known.kept q t)

    -- ---- judged

    abbrev overlay : Content
    overlay = with_attributes e (overlaid e.attributes keys gs)

    own_same : has_own_values (with_attributes e known.ys) ≡ has_own_values overlay
    own_same = all_overlaid keys looked e.attributes known.ys gs known.alike known.kept e.key own_seen

    many_same : exceeds_single_value rows known.ys ≡ exceeds_single_value rows (overlaid e.attributes keys gs)
    many_same = exceeds_overlaid rows keys looked e.attributes known.ys gs known.alike known.kept are_free

    entry_is : entry_after rows e mods ≡ entry_or_code (changed_entry rows (with_attributes e known.ys))
    entry_is = ap (λ r. and_then r (λ xs. entry_or_code (changed_entry rows (with_attributes e xs)))) known.after

    as_overlay : entry_or_code (changed_entry rows (with_attributes e known.ys)) ≡ entry_or_code (cond (has_own_values overlay) (cond (exceeds_single_value rows (overlaid e.attributes keys gs)) (Err Single) (Ok (with_attributes e known.ys))) (Err NotNamed))
    as_overlay = λ i. entry_or_code (cond (own_same i) (cond (many_same i) (Err Single) (Ok (with_attributes e known.ys))) (Err NotNamed))

    pub entry_refused : (r : Refusal) → IsRefused r (entry_or_code (changed_entry rows overlay)) → IsRefused r (entry_after rows e mods)
    entry_refused r h = subst (IsRefused r) (sym (entry_is ∙ as_overlay)) (judged_refused (with_attributes e known.ys) overlay (has_own_values overlay) (exceeds_single_value rows (overlaid e.attributes keys gs)) r h)

    pub entry_accepted : entry_or_code (changed_entry rows overlay) ≡ Ok overlay → (new : StoredAttributes) → new ≡ known.ys → entry_after rows e mods ≡ Ok (with_attributes e new)
    entry_accepted h new is = entry_is ∙ as_overlay ∙ judged_ok (with_attributes e known.ys) overlay (has_own_values overlay) (exceeds_single_value rows (overlaid e.attributes keys gs)) h ∙ ap (λ z. Ok (with_attributes e z)) (sym is)

    -- ---- the way back

    each_listed : (ks front : List Attr) → front ++ ks ≡ keys → flat_map (λ k. slot_difference k (fin.get gs k) (fin.get before k)) ks ≡ flat_map (λ k. slot_difference k (fin.get known.ys k) (fin.get e.attributes k)) ks
    each_listed [] front is = refl
    each_listed (k ∷ ks) front is = λ i. here i ++ each_listed ks (front ++ k ∷ []) (assoc front ∙ is) i
      where
        assoc : (xs : List Attr) → (xs ++ k ∷ []) ++ ks ≡ xs ++ k ∷ ks
        assoc [] = refl
        assoc (x ∷ xs) = ap (λ zs. x ∷ zs) (assoc xs)

        among : (xs : List Attr) → is_among k (xs ++ k ∷ ks) ≡ true
        among [] = ap (λ b. b || is_among k ks) (attr_itself k)
        among (x ∷ xs) = ap (λ b. eq_by_cmp attr_cmp k x || b) (among xs) ∙ or_true (eq_by_cmp attr_cmp k x)
          where
            or_true : (b : Bool) → (b || true) ≡ true
            or_true true = refl
            or_true false = refl

        named : is_among k keys ≡ true
        named = ap (is_among k) (sym is) ∙ among front

        here : slot_difference k (fin.get gs k) (fin.get before k) ≡ slot_difference k (fin.get known.ys k) (fin.get e.attributes k)
        here = sym (slot_difference_alike k (looked k) (fin.get known.ys k) (fin.get gs k) (fin.get e.attributes k) (fin.get before k) (known.alike k named) (looked_at k named))

    pub same_difference : (new : StoredAttributes) → new ≡ known.ys → difference_at keys gs before ≡ difference_at (set_of attr_cmp (map (λ (m : Mod). m.description.key) mods)) new e.attributes
    same_difference new is = each_listed keys [] refl ∙ (λ i. difference_at (are i) (sym is i) e.attributes)
