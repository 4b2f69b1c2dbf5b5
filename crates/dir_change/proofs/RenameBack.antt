-- A rename of a directory, and the rename and the modify that take it back.
use Rattle.std.proofs.Common.{◌≡◌, ◌+◌, ◌-◌, ◌≤◌, Bool, true, false, cond, not, ◌&&◌, ◌||◌, nat_lt, ◌⊎◌, inl, inr, List, [], ◌∷◌, ◌++◌, length, map, take, reverse, Option, Some, None, is_some, Result, Ok, refl, sym, ap, subst, ◌∙◌, true≢false, arith, length-append}
use Rattle.std.proofs.lemmas.List.{append-nil, reverse-append}
use Rattle.std.proofs.lemmas.Bool.Decides.{nat_tests}
use Rattle.std.specs.List.{list_all, list_any}
use Rattle.std.specs.FinMap as fin
use Rattle.std.specs.Option.{ok_or, option_and_then}
use Rattle.std.specs.Ordering.{eq_by_cmp}
use Rattle.dir_names.specs.declared.schema.TypeRow.{TypeRow}
use Rattle.dir_names.specs.Attr.{Attr}
use Rattle.dir_names.specs.Keys.{DnKeys, RdnKeys, parent_of}
use Rattle.dir_names.specs.Names.{SpelledName, SpelledRdn}
use Rattle.dir_names.specs.NameKeys.{name_key, rdn_key}
use Rattle.dir_names.specs.Names.Limits.{is_rdn_within_limit}
use Rattle.dir_names.specs.Names.Sound.{is_sound_rdn}
use Rattle.dir_names.specs.Orders.{attr_cmp, attr_cmp_ties, attr_eq, attr_eq_decides, dn_key_eq, dn_key_eq_decides}
use Rattle.dir_names.specs.Results.{and_then, option_cons}
use Rattle.dir_names.specs.Sorted.{set_of}
use Rattle.dir_names.proofs.Both.{left}
use Rattle.dir_ldif.specs.declared.records.Change.{Change}
use Rattle.dir_ldif.specs.declared.records.ChangeKind.TheVariants as kind
use Rattle.dir_ldif.specs.declared.records.Mod.{Mod}
use Rattle.dir_ldif.specs.LegalRecords.{is_legal, is_legal_mod, superior_has_key}
use Rattle.dir_ldif.specs.SoundRecords.{IsSoundName, IsSoundRdn, IsSoundSuperior, ModsAreBytes}
use Rattle.dir_tree.specs.Content.{Content, StoredAttributes}
use Rattle.dir_tree.specs.Dir.{Dir, entry_at, put_entry}
use Rattle.dir_tree.specs.Moves.{MayMoveTo, height_below, move_subtree, rest_below}
use Rattle.dir_tree.specs.NewEntry.{leaf_key, leaf_of}
use Rattle.dir_tree.specs.SpelledNames.{own_depth, spelled_name}
use Rattle.dir_tree.specs.WellFormed.{Each, IsLegalPair, IsSoundEntry, IsWellFormed, IsWithinLimits}
use Rattle.dir_tree.proofs.DirLemmas.{parent_child}
use Rattle.dir_tree.proofs.MoveLemmas.{IsClear, Place, ancestor_there, clear_back, clear_place, height_bound, moved_away, moved_back, moved_here, moved_inside, new_longer, old_parent, rekeyed, stays}
use Rattle.dir_tree.proofs.RestBelow.{is_below, rest_is, rest_of}
use Rattle.dir_tree.proofs.SpelledLemmas.{own_here, spelled_below}
use Rattle.dir_tree.proofs.SpelledMoves.{spelled_moved, spelled_stays}
use Rattle.dir_change.specs.Difference.{difference}
use Rattle.dir_change.specs.Modify.{entry_after, with_attributes}
use Rattle.dir_change.specs.Operation.{step, step_at, with_modified_entry}
use Rattle.dir_change.specs.Refusals.{unless}
use Rattle.dir_change.specs.Rename.{place_at, renamed_entry, superior_at, superior_key, with_renamed_entry}
use Rattle.dir_change.specs.SoundChange.{IsSoundChange}
use Rattle.dir_change.specs.Undo.{AreNamedAsSpelled, TakesBack, directory_after_all, has_undo_size, is_modify_at_most, is_parent, joined_key, modify_if_any, own_types, rename_back, spelled_name_or_empty, superior_back, types_in, undo_of, undo_of_rename}
use Rattle.dir_change.specs.declared.result_code.ResultCode.{ResultCode}
use Rattle.dir_change.specs.declared.result_code.ResultCode.TheVariants.{AdminLimitExceeded, NoSuchObject, UnwillingToPerform, EntryAlreadyExists}
use Rattle.dir_change.proofs.AfterOperations.{key_length, spelled_key}
use Rattle.dir_change.proofs.Conditions.{parent_snoc}
use Rattle.dir_change.proofs.KeysInOrder.{among_append, is_among, set_among}
use Rattle.dir_change.proofs.LegalDifference.{difference_legal}
use Rattle.dir_change.proofs.ModifiedAttributes.{difference_named, only_named}
use Rattle.dir_change.proofs.ModifiedEntry.{modified_is, slots_of_entry}
use Rattle.dir_change.proofs.ModifyBack.{put_over}
use Rattle.dir_change.proofs.RenameAccepted.{RenamedAt, new_key, place_is}
use Rattle.dir_change.proofs.RenamedEntry.{left_accepted, left_apart, left_back, left_entry, left_sound}
use Rattle.dir_change.proofs.StaysWellFormed.{legal_rdn}

inner : {A : Type 0} {x y : A} → ◌≡◌ {A = Option A} (Some x) (Some y) → x ≡ y
inner e = cc

not_both : {A : Type 0} {x : A} → ◌≡◌ {A = Option A} None (Some x) → ⊥
not_both e = cc

last_of : (p : DnKeys) (part : RdnKeys) → take 1 (reverse (p ++ part ∷ [])) ≡ part ∷ []
last_of p part = ap (take 1) (reverse-append p (part ∷ []))

-- an attribute among the types of an RDN's key
among_types : (q : Attr) (keys : RdnKeys) → is_among q (map (λ p. p.0) keys) ≡ list_any (λ p. attr_eq p.0 q) keys
among_types q [] = refl
among_types q (p ∷ ps) = λ i. one i || among_types q ps i
  where
    one : eq_by_cmp attr_cmp q p.0 ≡ attr_eq p.0 q
    one = sym (attr_cmp_ties q p.0) ∙ by (attr_eq q p.0) refl (attr_eq p.0 q) refl
      where
        by : (a : Bool) → attr_eq q p.0 ≡ a → (b : Bool) → attr_eq p.0 q ≡ b → a ≡ b
        by true t true u = refl
        by false t false u = refl
        by true t false u = absurd (true≢false (sym ((attr_eq_decides p.0 q).1 (sym ((attr_eq_decides q p.0).0 t))) ∙ u))
        by false t true u = absurd (true≢false (sym ((attr_eq_decides q p.0).1 (sym ((attr_eq_decides p.0 q).0 u))) ∙ t))

module _ (rows : List TypeRow) (d : Dir) (well : IsWellFormed rows d) (within : IsWithinLimits d) (k : DnKeys) (rdn : SpelledRdn) (delete_old : Bool) (superior : Option SpelledName) (new : Dir) (known : RenamedAt rows d k rdn delete_old superior new) (legal : Each IsLegalPair rdn) where
  abbrev pub to : DnKeys
  to = new_key rows d k rdn delete_old superior new known

  abbrev pub after : Dir
  after = move_subtree d k to known.new_entry

  pub place : Place d k to
  place = place_is rows d k rdn delete_old superior new known

  pub clear : IsClear d k to
  clear = clear_place d well.1 k to place

  pub above : (p : DnKeys) × (parent_of k ≡ Some p) × (is_some (entry_at d p) ≡ true)
  above = old_parent d well.1 k to place

  -- ---- the own name that the entry had

  pub part : (x : RdnKeys) × (k ≡ above.0 ++ x ∷ [])
  part = parent_child k above.0 above.1

  pub own_named : name_key rows known.old_entry.own ≡ Some (part.0 ∷ [])
  own_named =
      (well.2 k known.old_entry known.there).1
      ∙ ap (λ b. Some (cond b k (take 1 (reverse k)))) known.inner
      ∙ ap (λ z. Some (take 1 (reverse z))) part.1
      ∙ ap Some (last_of above.0 part.0)

  pub own : (leaf : SpelledRdn) × (known.old_entry.own ≡ leaf ∷ [])
  own = by known.old_entry.own refl (key_length rows known.old_entry.own (part.0 ∷ []) own_named)
    where
      by : (name : SpelledName) → known.old_entry.own ≡ name → length known.old_entry.own ≡ 1 → (leaf : SpelledRdn) × (known.old_entry.own ≡ leaf ∷ [])
      by [] t h = let none = ap length t in absurd (omega (arith, none, h))
      by (leaf ∷ []) t h = (leaf, t)
      by (x ∷ y ∷ rest) t h = let more = ap length t in absurd (omega (arith, more, h))

  abbrev pub leaf : SpelledRdn
  leaf = own.0

  pub sound : IsSoundEntry rows known.old_entry
  sound = (well.2 k known.old_entry known.there).0

  pub named_leaf : rdn_key rows leaf ≡ Some known.old_entry.key
  named_leaf = ap (leaf_key rows) (sym own.1) ∙ sound.0

  -- the old parent's key and that of the old RDN are the old key
  back_key : above.0 ++ known.old_entry.key ∷ [] ≡ k
  back_key = ap (λ z. above.0 ++ z) (inner (sym (ap (λ o. option_cons o (Some [])) named_leaf) ∙ sym (ap (name_key rows) own.1) ∙ own_named)) ∙ sym part.1

  pub legal_leaf : Each IsLegalPair leaf
  legal_leaf =
      let limits = within k known.old_entry known.there in
      legal_rdn leaf (left (is_sound_rdn leaf) _ (ap (list_all is_sound_rdn) (sym own.1) ∙ limits.1)) (left (is_rdn_within_limit leaf) _ (ap (list_all is_rdn_within_limit) (sym own.1) ∙ limits.2))

  -- the entry as the rename back leaves it, and what is left to be modified
  abbrev pub left_over : Content
  left_over = left_entry rows known.old_entry leaf own.1 sound legal_leaf rdn known.key delete_old known.named legal known.new_entry known.renamed

  abbrev pub mods : List Mod
  mods = difference left_over.attributes known.old_entry.attributes

  abbrev pub superior_of_back : Option SpelledName
  superior_of_back = superior_back rows after k superior

  abbrev pub first : Change
  first = record { dn = spelled_name after to; kind = kind.Rename leaf true superior_of_back }

  there_after : entry_at after to ≡ Some known.new_entry
  there_after = moved_here d k to clear known.new_entry

  -- the group of the rename
  pub group_is : undo_of rows d after k (kind.Rename rdn delete_old superior) ≡ first ∷ modify_if_any (spelled_name d k) mods
  group_is =
      (λ i. undo_of_rename rows d after k (joined_key (known.parent_is i) (known.named i)) superior_of_back (option_and_then (entry_at after) (joined_key (known.parent_is i) (known.named i))) (known.there i))
      ∙ ap (λ o. undo_of_rename rows d after k (Some to) superior_of_back o (Some known.old_entry)) there_after
      ∙ (λ i. rename_back rows (spelled_name after to) superior_of_back (spelled_name d k) known.new_entry known.old_entry (leaf_of (own.1 i)) (sound.0 i))

  module _ (kept : IsWellFormed rows after) where
    key_after : name_key rows (spelled_name after to) ≡ Some to
    key_after = spelled_key rows after kept.1 (λ q x h. (kept.2 q x h).1) to (ap is_some there_after)

    key_before : name_key rows (spelled_name d k) ≡ Some k
    key_before = spelled_key rows d well.1 (λ q x h. (well.2 q x h).1) k (ap is_some known.there)

    -- ---- the way back is open

    parent_shorter : length k ≡ length above.0 + 1
    parent_shorter = ap length part.1 ∙ length-append above.0 (part.0 ∷ [])

    parent_apart : rest_below k above.0 ≡ None
    parent_apart = by (rest_below k above.0) refl
      where
        by : (o : Option DnKeys) → rest_below k above.0 ≡ o → o ≡ None
        by None t = refl
        by (Some rest) t =
            let same : length above.0 ≡ length k + length rest = ap length (rest_is k above.0 rest t) ∙ length-append k rest in
            let short = parent_shorter in
            absurd (omega (arith, same, short))

    parent_there : is_some (entry_at after above.0) ≡ true
    parent_there = by (entry_at d above.0) refl above.2
      where
        by : (o : Option Content) → entry_at d above.0 ≡ o → is_some o ≡ true → is_some (entry_at after above.0) ≡ true
        by None t h = absurd (true≢false (sym h))
        by (Some x) t h = ap is_some (stays d k to clear known.new_entry above.0 x t parent_apart)

    not_suffix : dn_key_eq to after.suffix ≡ false
    not_suffix = by (dn_key_eq to d.suffix) refl
      where
        by : (b : Bool) → dn_key_eq to d.suffix ≡ b → b ≡ false
        by false t = refl
        by true t = let same = ap length ((dn_key_eq_decides to d.suffix).0 t) in let low = new_longer d well.1 k to place in absurd (omega (arith, same, low))

    -- the old parent is not at or below the new key
    parent_outside : rest_below to above.0 ≡ None
    parent_outside = by (rest_below to above.0) refl
      where
        by : (o : Option DnKeys) → rest_below to above.0 ≡ o → o ≡ None
        by None t = refl
        by (Some rest) t = absurd (true≢false (sym (clear above.0 above.2 (ap is_some t)) ∙ ap is_some parent_apart))

    key_parent : name_key rows (spelled_name after above.0) ≡ Some above.0
    key_parent = spelled_key rows after kept.1 (λ q x h. (kept.2 q x h).1) above.0 parent_there

    -- the superior of the rename back is the old parent
    back_superior : superior_key rows to superior_of_back ≡ Some above.0
    back_superior = (λ i. superior_key rows to (cond (is_parent (above.1 i) (known.parent_is i)) None (Some (spelled_name_or_empty after (above.1 i))))) ∙ by (dn_key_eq above.0 known.parent) refl
      where
        by : (b : Bool) → dn_key_eq above.0 known.parent ≡ b → superior_key rows to (cond b None (Some (spelled_name after above.0))) ≡ Some above.0
        by true t = parent_snoc known.parent known.key ∙ ap Some (sym ((dn_key_eq_decides above.0 known.parent).0 t))
        by false t = key_parent

    superior_ok : superior_at after to (superior_key rows to superior_of_back) ≡ Ok above.0
    superior_ok =
        ap (superior_at after to) back_superior
        ∙ (λ i. unless ((is_below to above.0 ∙ ap is_some parent_outside) i) UnwillingToPerform (unless (not (parent_there i)) NoSuchObject (Ok above.0)))

    -- the old key is the new one, or is free and not below it
    old_place : (k ≡ to) ⊎ ((entry_at after k ≡ None) × (rest_below to k ≡ None))
    old_place = by (dn_key_eq k to) refl
      where
        apart : dn_key_eq k to ≡ false → (o : Option DnKeys) → rest_below to k ≡ o → MayMoveTo d k to → o ≡ None
        apart other None t p = refl
        apart other (Some rest) t (inl same) = absurd (true≢false (sym ((dn_key_eq_decides k to).1 (sym same)) ∙ other))
        apart other (Some rest) t (inr free) =
            let low = new_longer d well.1 k to place in
            absurd (true≢false (sym (ancestor_there d well.1 to (omega (arith, low)) rest (ap (λ z. is_some (entry_at d z)) (sym (rest_is to k rest t)) ∙ ap is_some known.there)) ∙ ap is_some free.0))

        by : (b : Bool) → dn_key_eq k to ≡ b → (k ≡ to) ⊎ ((entry_at after k ≡ None) × (rest_below to k ≡ None))
        by true t = inl ((dn_key_eq_decides k to).0 t)
        by false t =
            let out = apart t (rest_below to k) refl place.place in
            inr (moved_away d k to clear known.new_entry k [] out (ap (rest_below k) (sym (append-nil k)) ∙ rest_of k []), out)

    old_free : (is_some (entry_at after k) && not (dn_key_eq k to)) ≡ false
    old_free = by old_place
      where
        and_false : (b : Bool) → (b && false) ≡ false
        and_false true = refl
        and_false false = refl

        by : (k ≡ to) ⊎ ((entry_at after k ≡ None) × (rest_below to k ≡ None)) → (is_some (entry_at after k) && not (dn_key_eq k to)) ≡ false
        by (inl same) = ap (λ b. is_some (entry_at after k) && not b) ((dn_key_eq_decides k to).1 same) ∙ and_false (is_some (entry_at after k))
        by (inr free) = ap (λ o. is_some o && not (dn_key_eq k to)) free.0

    -- what is below has room at the old key
    room : length k + height_below after to ≤ 64
    room =
        let low = (within k known.old_entry known.there).0 in
        let high = height_bound after to (64 - length k) deeper in
        omega (arith, low, high)
      where
        deeper : (rest : DnKeys) → is_some (entry_at after (to ++ rest)) ≡ true → length rest ≤ 64 - length k
        deeper [] h = omega arith
        deeper (x ∷ rest) h = by (entry_at d (k ++ x ∷ rest)) refl (ap is_some (sym (moved_inside d k to clear known.new_entry x rest)) ∙ h)
          where
            by : (o : Option Content) → entry_at d (k ++ x ∷ rest) ≡ o → is_some o ≡ true → length (x ∷ rest) ≤ 64 - length k
            by None t g = absurd (true≢false (sym g))
            by (Some e) t g = let low = (within (k ++ x ∷ rest) e t).0 in let count = length-append k (x ∷ rest) in omega (arith, low, count)

    old_fits : nat_lt 64 (length k + height_below after to) ≡ false
    old_fits = let low = room in grind (arith, nat_tests)

    place_ok : place_at after to (above.0 ++ known.old_entry.key ∷ []) ≡ Ok k
    place_ok = ap (place_at after to) back_key ∙ (λ i. unless (old_free i) EntryAlreadyExists (unless (old_fits i) AdminLimitExceeded (Ok k)))

    accepted : renamed_entry rows known.new_entry leaf known.old_entry.key true ≡ Ok left_over
    accepted = left_accepted rows known.old_entry leaf own.1 sound legal_leaf rdn known.key delete_old known.named legal known.new_entry known.renamed

    -- the directory after the rename back
    abbrev pub back : Dir
    back = move_subtree after to k left_over

    pub first_accepted : step rows after first ≡ Ok back
    first_accepted =
        ap (step_at rows after first) key_after
        ∙ ap (with_renamed_entry rows after to leaf true superior_of_back) there_after
        ∙ (λ i. unless (not_suffix i) UnwillingToPerform (and_then (superior_ok i) (λ p.
        and_then (ok_or (rdn_key rows leaf) NoSuchObject) (λ key. and_then (place_at after to (p ++ key ∷ [])) (λ n. and_then (renamed_entry rows known.new_entry leaf key true) (λ y. Ok (move_subtree after to n y)))))))
        ∙ ap (λ o. and_then (ok_or o NoSuchObject) (λ key. and_then (place_at after to (above.0 ++ key ∷ [])) (λ n. and_then (renamed_entry rows known.new_entry leaf key true) (λ y. Ok (move_subtree after to n y))))) named_leaf
        ∙ ap (λ r. and_then r (λ n. and_then (renamed_entry rows known.new_entry leaf known.old_entry.key true) (λ y. Ok (move_subtree after to n y)))) place_ok
        ∙ ap (λ r. and_then r (λ y. Ok (move_subtree after to k y))) accepted

    -- ---- the way back

    returned : move_subtree after to k known.old_entry ≡ d
    returned = moved_back d k to clear known.new_entry known.old_entry known.there

    leads : entry_after rows left_over mods ≡ Ok known.old_entry
    leads = left_back rows known.old_entry leaf own.1 sound legal_leaf rdn known.key delete_old known.named legal known.new_entry known.renamed

    back_there : entry_at back k ≡ Some left_over
    back_there = moved_here after to k (clear_back d k to clear known.new_entry) left_over

    rest_back : (ms : List Mod) → mods ≡ ms → directory_after_all rows back (modify_if_any (spelled_name d k) ms) ≡ Ok d
    rest_back [] t =
        let nothing = modified_is rows left_over [] known.old_entry (ap (entry_after rows left_over) (sym t) ∙ leads) in
        let same : known.old_entry ≡ left_over = nothing.is ∙ (λ i. with_attributes left_over (sym (ok_same nothing.after) i)) in
        ap Ok (ap (move_subtree after to k) (sym same) ∙ returned)
      where
        ok_same : {a b : StoredAttributes} → ◌≡◌ {A = Result StoredAttributes ResultCode} (Ok a) (Ok b) → a ≡ b
        ok_same e = cc
    rest_back (m ∷ ms) t =
        let again : Change = record { dn = spelled_name d k; kind = kind.Modify (m ∷ ms) } in
        ap (λ r. and_then r (λ e. Ok e))
        (ap (step_at rows back again) key_before
        ∙ ap (with_modified_entry rows back k (m ∷ ms)) back_there
        ∙ ap (λ r. and_then r (λ y. Ok (put_entry back k y))) (ap (entry_after rows left_over) (sym t) ∙ leads)
        ∙ ap Ok (put_over (rekeyed after to k) k left_over known.old_entry ∙ returned))

    pub rename_taken_back : TakesBack rows d after (first ∷ modify_if_any (spelled_name d k) mods)
    rename_taken_back = ap (λ r. and_then r (λ e. directory_after_all rows e (modify_if_any (spelled_name d k) mods))) first_accepted ∙ rest_back mods refl

    -- ---- names

    place_back : Place after to k
    place_back = record {
      there = ap is_some there_after;
      inner = λ same. true≢false (sym ((dn_key_eq_decides to d.suffix).1 same) ∙ not_suffix);
      parent = above.0;
      parent_is = above.1;
      parent_there = parent_there;
      place = old_place;
    }

    name_kept : spelled_name d k ≡ spelled_name back k
    unfolding own above place_back
    name_kept =
        spelled_below d k above.0 above.1
        ∙ (λ i. (own_here d k known.old_entry known.there ∙ (λ j. take (depth j) (own.1 j))) i ++ sym (spelled_stays d k to clear known.new_entry above.0 above.2 parent_apart) i)
        ∙ sym (spelled_moved after kept.1 to k place_back left_over leaf refl)
      where
        depth : own_depth d.suffix k ≡ 1
        depth = ap (λ b. cond b (length k) 1) known.inner

    pub rename_named : AreNamedAsSpelled rows after (first ∷ modify_if_any (spelled_name d k) mods)
    rename_named e t = ((to, key_after, refl), rest mods)
      where
        same : back ≡ e
        same = ok_same (sym first_accepted ∙ t)
          where
            ok_same : {a b : Dir} → ◌≡◌ {A = Result Dir ResultCode} (Ok a) (Ok b) → a ≡ b
            ok_same e = cc

        rest : (ms : List Mod) → AreNamedAsSpelled rows e (modify_if_any (spelled_name d k) ms)
        rest [] = tt
        rest (m ∷ ms) = λ w u. ((k, key_before, name_kept ∙ ap (λ z. spelled_name z k) same), tt)

    -- ---- size

    pub rename_size : (o : Option Content) → o ≡ Some known.old_entry → has_undo_size rows o (kind.Rename rdn delete_old superior) (first ∷ modify_if_any (spelled_name d k) mods) ≡ true
    rename_size o t = (λ i. is_modify_at_most (own_types (t i) ++ types_in (known.named i)) (modify_if_any (spelled_name d k) mods)) ∙ at_most mods names_only
      where
        both_false : (a b : Bool) → (a || b) ≡ false → (a ≡ false) × (b ≡ false)
        both_false false false h = (refl, refl)
        both_false false true h = absurd (true≢false h)
        both_false true b h = absurd (true≢false h)

        apart : (q : Attr) → is_among q (map (λ p. p.0) known.old_entry.key ++ map (λ p. p.0) known.key) ≡ false → fin.get left_over.attributes q ≡ fin.get known.old_entry.attributes q
        apart q h =
            let both = both_false _ _ (sym (among_append q (map (λ p. p.0) known.old_entry.key) (map (λ p. p.0) known.key)) ∙ h) in
            left_apart rows known.old_entry leaf own.1 sound legal_leaf rdn known.key delete_old known.named legal known.new_entry known.renamed q (sym (among_types q known.old_entry.key) ∙ both.0) (sym (among_types q known.key) ∙ both.1)

        names_only : list_all (λ m. list_any (attr_eq m.description.key) (map (λ p. p.0) known.old_entry.key ++ map (λ p. p.0) known.key)) mods ≡ true
        names_only =
            ap (list_all (λ m. list_any (attr_eq m.description.key) (map (λ p. p.0) known.old_entry.key ++ map (λ p. p.0) known.key)))
            (difference_named left_over.attributes known.old_entry.attributes (map (λ p. p.0) known.old_entry.key ++ map (λ p. p.0) known.key) apart)
            ∙ only_named rows (map (λ p. p.0) known.old_entry.key ++ map (λ p. p.0) known.key) left_over.attributes known.old_entry.attributes (set_of attr_cmp (map (λ p. p.0) known.old_entry.key ++ map (λ p. p.0) known.key))
            (λ q t. sym (set_among q (map (λ p. p.0) known.old_entry.key ++ map (λ p. p.0) known.key)) ∙ t)

        at_most : (ms : List Mod) → list_all (λ m. list_any (attr_eq m.description.key) (map (λ p. p.0) known.old_entry.key ++ map (λ p. p.0) known.key)) ms ≡ true → is_modify_at_most (map (λ p. p.0) known.old_entry.key ++ map (λ p. p.0) known.key) (modify_if_any (spelled_name d k) ms) ≡ true
        at_most [] h = refl
        at_most (m ∷ ms) h = h

    -- ---- legal and sound records

    sound_left : IsSoundEntry rows left_over
    sound_left = left_sound rows known.old_entry leaf own.1 sound legal_leaf rdn known.key delete_old known.named legal known.new_entry known.renamed

    superior_legal : superior_has_key rows superior_of_back ≡ true
    superior_legal = (λ i. superior_has_key rows (cond (is_parent (above.1 i) (known.parent_is i)) None (Some (spelled_name_or_empty after (above.1 i))))) ∙ by (dn_key_eq above.0 known.parent)
      where
        by : (b : Bool) → superior_has_key rows (cond b None (Some (spelled_name after above.0))) ≡ true
        by true = refl
        by false = ap is_some key_parent

    pub rename_legal : Each (λ c. is_legal rows c ≡ true) (first ∷ modify_if_any (spelled_name d k) mods)
    rename_legal = ((λ i. is_some (key_after i) && (is_some (named_leaf i) && superior_legal i)), rest mods (difference_legal rows left_over.attributes known.old_entry.attributes (slots_of_entry rows left_over sound_left) (slots_of_entry rows known.old_entry sound)).0)
      where
        rest : (ms : List Mod) → list_all (is_legal_mod rows) ms ≡ true → Each (λ c. is_legal rows c ≡ true) (modify_if_any (spelled_name d k) ms)
        rest [] e = tt
        rest (m ∷ ms) e = ((λ i. is_some (key_before i) && e i), tt)

    pub rename_sound : ((q : DnKeys) (x : Content) → entry_at after q ≡ Some x → IsSoundName (spelled_name after q)) → IsSoundName (spelled_name d k) → Each (IsSoundChange rows) (first ∷ modify_if_any (spelled_name d k) mods)
    rename_sound names name = ((rename_legal.0, (names to known.new_entry there_after, (rdn_sound, superior_sound))), rest mods bytes rename_legal.1)
      where
        rdn_sound : IsSoundRdn leaf
        rdn_sound =
            let limits = within k known.old_entry known.there in
            (left (is_sound_rdn leaf) _ (ap (list_all is_sound_rdn) (sym own.1) ∙ limits.1), left (is_rdn_within_limit leaf) _ (ap (list_all is_rdn_within_limit) (sym own.1) ∙ limits.2))

        parent_sound : IsSoundName (spelled_name after above.0)
        parent_sound = by (entry_at after above.0) refl parent_there
          where
            by : (o : Option Content) → entry_at after above.0 ≡ o → is_some o ≡ true → IsSoundName (spelled_name after above.0)
            by None t h = absurd (true≢false (sym h))
            by (Some x) t h = names above.0 x t

        superior_sound : IsSoundSuperior superior_of_back
        superior_sound = subst IsSoundSuperior (sym (λ i. cond (is_parent (above.1 i) (known.parent_is i)) None (Some (spelled_name_or_empty after (above.1 i))))) (by (dn_key_eq above.0 known.parent))
          where
            by : (b : Bool) → IsSoundSuperior (cond b None (Some (spelled_name after above.0)))
            by true = tt
            by false = parent_sound

        bytes : ModsAreBytes mods
        bytes = (difference_legal rows left_over.attributes known.old_entry.attributes (slots_of_entry rows left_over sound_left) (slots_of_entry rows known.old_entry sound)).1

        rest : (ms : List Mod) → ModsAreBytes ms → Each (λ c. is_legal rows c ≡ true) (modify_if_any (spelled_name d k) ms) → Each (IsSoundChange rows) (modify_if_any (spelled_name d k) ms)
        rest [] b e = tt
        rest (m ∷ ms) b e = ((e.0, (name, b)), tt)
