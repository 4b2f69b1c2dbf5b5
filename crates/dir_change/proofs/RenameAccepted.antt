-- What an accepted rename says of the directory before it and after it.
use Rattle.std.proofs.Common.{◌≡◌, ◌+◌, Bool, true, false, not, ◌&&◌, nat_lt, inl, inr, List, [], ◌∷◌, ◌++◌, length, take, Option, Some, None, is_some, Result, Ok, Err, refl, sym, ap, subst, ◌∙◌, true≢false, append_assoc}
use Rattle.std.proofs.lemmas.List.{append-nil}
use Rattle.std.specs.Option.{ok_or}
use Rattle.dir_names.specs.declared.schema.TypeRow.{TypeRow}
use Rattle.dir_names.specs.Below.{is_at_or_below}
use Rattle.dir_names.specs.Keys.{DnKeys, RdnKeys, parent_of}
use Rattle.dir_names.specs.Names.{SpelledName, SpelledRdn}
use Rattle.dir_names.specs.NameKeys.{name_key, rdn_key}
use Rattle.dir_names.specs.Orders.{dn_key_eq, dn_key_eq_decides}
use Rattle.dir_names.specs.Results.{and_then, option_cons}
use Rattle.dir_tree.specs.Content.{Content}
use Rattle.dir_tree.specs.Dir.{Dir, entry_at}
use Rattle.dir_tree.specs.Moves.{MayMoveTo, height_below, move_subtree, rest_below}
use Rattle.dir_tree.proofs.DirLemmas.{last_part}
use Rattle.dir_tree.proofs.MoveLemmas.{Place}
use Rattle.dir_tree.proofs.RestBelow.{is_below, rest_is, rest_of}
use Rattle.dir_change.specs.Inside.Renamed.{new_place}
use Rattle.dir_change.specs.Operation.{IsRefused}
use Rattle.dir_change.specs.Refusals.{unless}
use Rattle.dir_change.specs.Rename.{directory_after_rename, place_at, renamed_entry, superior_at, superior_key, with_renamed_entry}
use Rattle.dir_change.specs.declared.refusal.Refusal.{Refusal}
use Rattle.dir_change.specs.declared.result_code.ResultCode.{ResultCode}
use Rattle.dir_change.specs.declared.result_code.ResultCode.TheVariants.{AdminLimitExceeded, NoSuchObject, UnwillingToPerform, EntryAlreadyExists}
use Rattle.dir_change.proofs.Conditions.{parent_snoc, refused_before}

module _ (rows : List TypeRow) (d : Dir) (k : DnKeys) (rdn : SpelledRdn) (delete_old : Bool) (superior : Option SpelledName) where
  pub record RenamedAt (new : Dir) : Type 0 where
    pub old_entry : Content
    pub there : entry_at d k ≡ Some old_entry
    pub inner : dn_key_eq k d.suffix ≡ false
    pub parent : DnKeys
    pub parent_is : superior_key rows k superior ≡ Some parent
    pub outside : is_at_or_below parent k ≡ false
    pub parent_there : is_some (entry_at d parent) ≡ true
    pub key : RdnKeys
    pub named : rdn_key rows rdn ≡ Some key
    pub free : (is_some (entry_at d (parent ++ key ∷ [])) && not (dn_key_eq (parent ++ key ∷ []) k)) ≡ false
    pub fits : nat_lt 64 (length (parent ++ key ∷ []) + height_below d k) ≡ false
    pub new_entry : Content
    pub renamed : renamed_entry rows old_entry rdn key delete_old ≡ Ok new_entry
    pub is : new ≡ move_subtree d k (parent ++ key ∷ []) new_entry

  pub renamed_at : (new : Dir) → directory_after_rename rows d k rdn delete_old superior ≡ Ok new → RenamedAt new
  renamed_at new is = at_entry (entry_at d k) refl is
    where
      at_end : (e : Content) → entry_at d k ≡ Some e → dn_key_eq k d.suffix ≡ false → (p : DnKeys) → superior_key rows k superior ≡ Some p → is_at_or_below p k ≡ false → is_some (entry_at d p) ≡ true →
          (key : RdnKeys) → rdn_key rows rdn ≡ Some key → (is_some (entry_at d (p ++ key ∷ [])) && not (dn_key_eq (p ++ key ∷ []) k)) ≡ false → nat_lt 64 (length (p ++ key ∷ []) + height_below d k) ≡ false →
          (r : Result Content ResultCode) → renamed_entry rows e rdn key delete_old ≡ r → and_then r (λ y. Ok (move_subtree d k (p ++ key ∷ []) y)) ≡ Ok new → RenamedAt new
      at_end e there inner p parent_is outside parent_there key named free fits (Err c) t h = absurd (cc)
      at_end e there inner p parent_is outside parent_there key named free fits (Ok y) t h =
          let same : move_subtree d k (p ++ key ∷ []) y ≡ new = cc in
          record { old_entry = e; there = there; inner = inner; parent = p; parent_is = parent_is; outside = outside; parent_there = parent_there; key = key; named = named; free = free; fits = fits; new_entry = y; renamed = t; is = sym same }

      at_place : (e : Content) → entry_at d k ≡ Some e → dn_key_eq k d.suffix ≡ false → (p : DnKeys) → superior_key rows k superior ≡ Some p → is_at_or_below p k ≡ false → is_some (entry_at d p) ≡ true →
          (key : RdnKeys) → rdn_key rows rdn ≡ Some key →
          (a : Bool) → (is_some (entry_at d (p ++ key ∷ [])) && not (dn_key_eq (p ++ key ∷ []) k)) ≡ a → (b : Bool) → nat_lt 64 (length (p ++ key ∷ []) + height_below d k) ≡ b →
          and_then (unless a EntryAlreadyExists (unless b AdminLimitExceeded (Ok (p ++ key ∷ [])))) (λ n. and_then (renamed_entry rows e rdn key delete_old) (λ y. Ok (move_subtree d k n y))) ≡ Ok new → RenamedAt new
      at_place e there inner p parent_is outside parent_there key named true t b u h = absurd (cc)
      at_place e there inner p parent_is outside parent_there key named false t true u h = absurd (cc)
      at_place e there inner p parent_is outside parent_there key named false t false u h = at_end e there inner p parent_is outside parent_there key named t u (renamed_entry rows e rdn key delete_old) refl h

      at_rdn : (e : Content) → entry_at d k ≡ Some e → dn_key_eq k d.suffix ≡ false → (p : DnKeys) → superior_key rows k superior ≡ Some p → is_at_or_below p k ≡ false → is_some (entry_at d p) ≡ true →
          (o : Option RdnKeys) → rdn_key rows rdn ≡ o → and_then (ok_or o NoSuchObject) (λ key. and_then (place_at d k (p ++ key ∷ [])) (λ n. and_then (renamed_entry rows e rdn key delete_old) (λ y. Ok (move_subtree d k n y)))) ≡ Ok new → RenamedAt new
      at_rdn e there inner p parent_is outside parent_there None t h = absurd (cc)
      at_rdn e there inner p parent_is outside parent_there (Some key) t h =
          at_place e there inner p parent_is outside parent_there key t (is_some (entry_at d (p ++ key ∷ [])) && not (dn_key_eq (p ++ key ∷ []) k)) refl (nat_lt 64 (length (p ++ key ∷ []) + height_below d k)) refl h

      below : (e : Content) → DnKeys → Result Dir ResultCode
      below e p = and_then (ok_or (rdn_key rows rdn) NoSuchObject) (λ key. and_then (place_at d k (p ++ key ∷ [])) (λ n. and_then (renamed_entry rows e rdn key delete_old) (λ y. Ok (move_subtree d k n y))))

      at_superior : (e : Content) → entry_at d k ≡ Some e → dn_key_eq k d.suffix ≡ false → (p : DnKeys) → superior_key rows k superior ≡ Some p → (a : Bool) → is_at_or_below p k ≡ a → (b : Bool) → is_some (entry_at d p) ≡ b →
          and_then (unless a UnwillingToPerform (unless (not b) NoSuchObject (Ok p))) (below e) ≡ Ok new → RenamedAt new
      at_superior e there inner p parent_is true t b u h = absurd (cc)
      at_superior e there inner p parent_is false t false u h = absurd (cc)
      at_superior e there inner p parent_is false t true u h = at_rdn e there inner p parent_is t u (rdn_key rows rdn) refl h

      at_parent : (e : Content) → entry_at d k ≡ Some e → dn_key_eq k d.suffix ≡ false → (o : Option DnKeys) → superior_key rows k superior ≡ o → and_then (superior_at d k o) (below e) ≡ Ok new → RenamedAt new
      at_parent e there inner None t h = absurd (cc)
      at_parent e there inner (Some p) t h = at_superior e there inner p t (is_at_or_below p k) refl (is_some (entry_at d p)) refl h

      at_key : (e : Content) → entry_at d k ≡ Some e → (b : Bool) → dn_key_eq k d.suffix ≡ b → unless b UnwillingToPerform (and_then (superior_at d k (superior_key rows k superior)) (below e)) ≡ Ok new → RenamedAt new
      at_key e there true t h = absurd (cc)
      at_key e there false t h = at_parent e there t (superior_key rows k superior) refl h

      at_entry : (o : Option Content) → entry_at d k ≡ o → with_renamed_entry rows d k rdn delete_old superior o ≡ Ok new → RenamedAt new
      at_entry None t h = absurd (cc)
      at_entry (Some e) t h = at_key e t (dn_key_eq k d.suffix) refl h

  -- what the tests of the superior and of the place say where they pass
  pub superior_facts : (p : DnKeys) (o : Option DnKeys) → superior_at d k o ≡ Ok p → (o ≡ Some p) × (is_at_or_below p k ≡ false) × (is_some (entry_at d p) ≡ true)
  superior_facts p None h = absurd (cc)
  superior_facts p (Some q) h = by (is_at_or_below q k) refl (is_some (entry_at d q)) refl h
    where
      by : (a : Bool) → is_at_or_below q k ≡ a → (b : Bool) → is_some (entry_at d q) ≡ b → unless a UnwillingToPerform (unless (not b) NoSuchObject (Ok q)) ≡ Ok p → (◌≡◌ {A = Option DnKeys} (Some q) (Some p)) × (is_at_or_below p k ≡ false) × (is_some (entry_at d p) ≡ true)
      by true t b u h = absurd (cc)
      by false t false u h = absurd (cc)
      by false t true u h =
          let same : q ≡ p = cc in
          (ap Some same, ap (λ z. is_at_or_below z k) (sym same) ∙ t, ap (λ z. is_some (entry_at d z)) (sym same) ∙ u)

  pub place_facts : (n m : DnKeys) → place_at d k n ≡ Ok m → ((is_some (entry_at d n) && not (dn_key_eq n k)) ≡ false) × (nat_lt 64 (length n + height_below d k) ≡ false)
  place_facts n m h = by (is_some (entry_at d n) && not (dn_key_eq n k)) refl (nat_lt 64 (length n + height_below d k)) refl h
    where
      by : (a : Bool) → (is_some (entry_at d n) && not (dn_key_eq n k)) ≡ a → (b : Bool) → nat_lt 64 (length n + height_below d k) ≡ b → unless a EntryAlreadyExists (unless b AdminLimitExceeded (Ok n)) ≡ Ok m → ((is_some (entry_at d n) && not (dn_key_eq n k)) ≡ false) × (nat_lt 64 (length n + height_below d k) ≡ false)
      by true t b u h = absurd (cc)
      by false t true u h = absurd (cc)
      by false t false u h = (t, u)

  -- what refuses the superior, the RDN or the place refuses the rename
  module _ (e : Content) (there : entry_at d k ≡ Some e) (inner : dn_key_eq k d.suffix ≡ false) where
    -- the place, and then the entry's values
    abbrev move_after : DnKeys → RdnKeys → DnKeys → Result Dir ResultCode
    move_after p key n = and_then (renamed_entry rows e rdn key delete_old) (λ y. Ok (move_subtree d k n y))

    -- the tests of the entry have passed
    refused_after : (r : Refusal)
        → IsRefused r (and_then (superior_at d k (superior_key rows k superior)) (λ p. and_then (ok_or (rdn_key rows rdn) NoSuchObject) (λ key. and_then (place_at d k (p ++ key ∷ [])) (move_after p key))))
        → IsRefused r (directory_after_rename rows d k rdn delete_old superior)
    refused_after r h =
        subst (λ o. IsRefused r (with_renamed_entry rows d k rdn delete_old superior o)) (sym there)
        (subst (λ b. IsRefused r (unless b UnwillingToPerform (and_then (superior_at d k (superior_key rows k superior)) (λ p. and_then (ok_or (rdn_key rows rdn) NoSuchObject) (λ key. and_then (place_at d k (p ++ key ∷ [])) (move_after p key)))))) (sym inner) h)

    pub refused_place : (r : Refusal) → IsRefused r (new_place rows d k rdn superior) → IsRefused r (directory_after_rename rows d k rdn delete_old superior)
    refused_place r h = refused_after r (by (superior_at d k (superior_key rows k superior)) (ok_or (rdn_key rows rdn) NoSuchObject) h)
      where
        by : (o : Result DnKeys ResultCode) (named : Result RdnKeys ResultCode) → IsRefused r (and_then o (λ p. and_then named (λ key. place_at d k (p ++ key ∷ []))))
            → IsRefused r (and_then o (λ p. and_then named (λ key. and_then (place_at d k (p ++ key ∷ [])) (move_after p key))))
        by (Err code) named h = refused_before {A = DnKeys} (λ n. Ok d) r (Err code) h
        by (Ok p) (Err code) h = refused_before {A = DnKeys} (λ n. Ok d) r (Err code) h
        by (Ok p) (Ok key) h = refused_before (move_after p key) r (place_at d k (p ++ key ∷ [])) h

    -- the directory after a rename whose tests pass
    pub accepted : (p : DnKeys) → superior_at d k (superior_key rows k superior) ≡ Ok p → (key : RdnKeys) → rdn_key rows rdn ≡ Some key → place_at d k (p ++ key ∷ []) ≡ Ok (p ++ key ∷ [])
        → (y : Content) → renamed_entry rows e rdn key delete_old ≡ Ok y → directory_after_rename rows d k rdn delete_old superior ≡ Ok (move_subtree d k (p ++ key ∷ []) y)
    accepted p above key named place y renamed =
        ap (with_renamed_entry rows d k rdn delete_old superior) there
        ∙ ap (λ b. unless b UnwillingToPerform (and_then (superior_at d k (superior_key rows k superior)) (λ p. and_then (ok_or (rdn_key rows rdn) NoSuchObject) (λ key. and_then (place_at d k (p ++ key ∷ [])) (move_after p key))))) inner
        ∙ ap (λ o. and_then o (λ p. and_then (ok_or (rdn_key rows rdn) NoSuchObject) (λ key. and_then (place_at d k (p ++ key ∷ [])) (move_after p key)))) above
        ∙ ap (λ o. and_then (ok_or o NoSuchObject) (λ key. and_then (place_at d k (p ++ key ∷ [])) (move_after p key))) named
        ∙ ap (λ o. and_then o (move_after p key)) place
        ∙ ap (λ o. and_then o (λ y. Ok (move_subtree d k (p ++ key ∷ []) y))) renamed

    pub refused_values : (p : DnKeys) → superior_at d k (superior_key rows k superior) ≡ Ok p → (key : RdnKeys) → rdn_key rows rdn ≡ Some key → place_at d k (p ++ key ∷ []) ≡ Ok (p ++ key ∷ [])
        → (r : Refusal) → IsRefused r (renamed_entry rows e rdn key delete_old) → IsRefused r (directory_after_rename rows d k rdn delete_old superior)
    refused_values p above key named place r h =
        let values : IsRefused r (move_after p key (p ++ key ∷ [])) = refused_before (λ y. Ok (move_subtree d k (p ++ key ∷ []) y)) r (renamed_entry rows e rdn key delete_old) h in
        let placed : IsRefused r (and_then (place_at d k (p ++ key ∷ [])) (move_after p key)) = subst (λ z. IsRefused r (and_then z (move_after p key))) (sym place) values in
        let keyed : IsRefused r (and_then (ok_or (rdn_key rows rdn) NoSuchObject) (λ key. and_then (place_at d k (p ++ key ∷ [])) (move_after p key))) =
        subst (λ o. IsRefused r (and_then (ok_or o NoSuchObject) (λ key. and_then (place_at d k (p ++ key ∷ [])) (move_after p key)))) (sym named) placed in
        refused_after r (subst (λ o. IsRefused r (and_then o (λ p. and_then (ok_or (rdn_key rows rdn) NoSuchObject) (λ key. and_then (place_at d k (p ++ key ∷ [])) (move_after p key))))) (sym above) keyed)

  -- a rename whose tests pass
  abbrev pub renamed_by : (e : Content) → entry_at d k ≡ Some e → dn_key_eq k d.suffix ≡ false → (p : DnKeys) → superior_at d k (superior_key rows k superior) ≡ Ok p → (key : RdnKeys) → rdn_key rows rdn ≡ Some key
      → place_at d k (p ++ key ∷ []) ≡ Ok (p ++ key ∷ []) → (y : Content) → renamed_entry rows e rdn key delete_old ≡ Ok y → RenamedAt (move_subtree d k (p ++ key ∷ []) y)
  renamed_by e there inner p above key named place y renamed = record {
    old_entry = e;
    there = there;
    inner = inner;
    parent = p;
    parent_is = (superior_facts p (superior_key rows k superior) above).0;
    outside = (superior_facts p (superior_key rows k superior) above).1;
    parent_there = (superior_facts p (superior_key rows k superior) above).2;
    key = key;
    named = named;
    free = (place_facts (p ++ key ∷ []) (p ++ key ∷ []) place).0;
    fits = (place_facts (p ++ key ∷ []) (p ++ key ∷ []) place).1;
    new_entry = y;
    renamed = renamed;
    is = refl;
  }

  module _ (new : Dir) (known : RenamedAt new) where
    -- the entry's new key
    abbrev pub new_key : DnKeys
    new_key = known.parent ++ known.key ∷ []

    pub free_place : MayMoveTo d k new_key
    free_place = by (dn_key_eq new_key k) refl known.free
      where
        none_at : (o : Option Content) → entry_at d new_key ≡ o → (is_some o && true) ≡ false → entry_at d new_key ≡ None
        none_at None t h = t
        none_at (Some x) t h = absurd (true≢false h)

        -- the new key is not below the entry
        apart : dn_key_eq new_key k ≡ false → (o : Option DnKeys) → rest_below k new_key ≡ o → o ≡ None
        apart other None t = refl
        apart other (Some []) t = absurd (true≢false (sym ((dn_key_eq_decides new_key k).1 (rest_is k new_key [] t ∙ append-nil k)) ∙ other))
        apart other (Some (part ∷ rest)) t =
            let last = last_part part rest in
            let whole : new_key ≡ (k ++ take (length rest) (part ∷ rest)) ++ last.0 ∷ [] = rest_is k new_key (part ∷ rest) t ∙ ap (λ z. k ++ z) last.1 ∙ sym (append_assoc k (take (length rest) (part ∷ rest)) (last.0 ∷ [])) in
            let above : known.parent ≡ k ++ take (length rest) (part ∷ rest) = inner (sym (parent_snoc known.parent known.key) ∙ ap parent_of whole ∙ parent_snoc (k ++ take (length rest) (part ∷ rest)) last.0) in
            absurd (true≢false (sym (is_below k known.parent ∙ ap is_some (ap (rest_below k) above ∙ rest_of k (take (length rest) (part ∷ rest)))) ∙ known.outside))
          where
            inner : {x y : DnKeys} → ◌≡◌ {A = Option DnKeys} (Some x) (Some y) → x ≡ y
            inner e = cc

        by : (b : Bool) → dn_key_eq new_key k ≡ b → (is_some (entry_at d new_key) && not b) ≡ false → MayMoveTo d k new_key
        by true t h = inl ((dn_key_eq_decides new_key k).0 t)
        by false t h = inr (none_at (entry_at d new_key) refl h, apart t (rest_below k new_key) refl)

    -- the conditions of a move
    abbrev pub place_is : Place d k new_key
    place_is = record {
      there = ap is_some known.there;
      inner = λ same. true≢false (sym ((dn_key_eq_decides k d.suffix).1 same) ∙ known.inner);
      parent = known.parent;
      parent_is = parent_snoc known.parent known.key;
      parent_there = known.parent_there;
      place = free_place;
    }

    -- the name of its new RDN has the key that it adds
    pub own_key : name_key rows (rdn ∷ []) ≡ Some (known.key ∷ [])
    own_key = ap (λ o. option_cons o (Some [])) known.named
