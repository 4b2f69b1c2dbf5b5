-- An accepted rename leaves a directory well formed and within the limits.
use Rattle.std.proofs.Common.{◌≡◌, ◌+◌, ◌≤◌, Bool, true, false, cond, List, [], ◌∷◌, ◌++◌, length, map, take, reverse, Option, Some, None, is_some, refl, sym, ap, subst, ◌∙◌, arith, length-append}
use Rattle.std.specs.List.{list_all}
use Rattle.std.specs.FinMap as fin
use Rattle.std.specs.FinMap.{get-from_entries}
use Rattle.std.specs.Ordering.{eq_by_cmp}
use Rattle.std.proofs.lemmas.List.{append-nil, reverse-append}
use Rattle.std.proofs.lemmas.Bool.Decides.{nat_tests}
use Rattle.dir_names.specs.declared.schema.TypeRow.{TypeRow}
use Rattle.dir_names.specs.Keys.{DnKeys, RdnKeys}
use Rattle.dir_names.specs.Names.{SpelledName, SpelledRdn}
use Rattle.dir_names.specs.NameKeys.{name_key}
use Rattle.dir_names.specs.Names.Limits.{is_rdn_within_limit}
use Rattle.dir_names.specs.Names.Sound.{is_sound_name, is_sound_rdn}
use Rattle.dir_names.specs.Orders.{dn_key_cmp, dn_key_cmp_exact, dn_key_cmp_total, dn_key_eq, dn_key_eq_decides}
use Rattle.dir_tree.specs.Content.{Content}
use Rattle.dir_tree.specs.Dir.{Dir, IsClosed, entry_at}
use Rattle.dir_tree.specs.Moves.{height_below, joined_or, move_subtree, moved_key, rest_below}
use Rattle.dir_tree.specs.WellFormed.{Each, IsLegalPair, IsSoundEntry, IsWellFormed, IsWithinLimits, own_part}
use Rattle.dir_tree.proofs.DirLemmas.{get_put, last_part, same_key}
use Rattle.dir_tree.proofs.EachEntry.{each_entry}
use Rattle.dir_tree.proofs.SoundMade.{each_find}
use Rattle.dir_tree.proofs.MoveLemmas.{IsClear, Place, clear_place, closed_moved, height_reaches, moved_away, moved_here, moved_inside, moved_outside, new_longer, old_longer, rekeyed}
use Rattle.dir_tree.proofs.RestBelow.{rest_is}
use Rattle.dir_change.proofs.RenameAccepted.{RenamedAt, new_key, own_key, place_is}
use Rattle.dir_change.proofs.RenamedEntry.{renamed_is, renamed_sound}

-- the last part of a key with something below it
last_below : (k : DnKeys) (part : RdnKeys) (rest : DnKeys) → take 1 (reverse (k ++ part ∷ rest)) ≡ take 1 (reverse (part ∷ rest))
last_below k part rest = ap (take 1) (reverse-append k (part ∷ rest)) ∙ front (reverse (part ∷ rest)) (reverse k) (not_empty (last_part part rest))
  where
    front : (xs ys : DnKeys) → (x : RdnKeys) × (zs : DnKeys) × (xs ≡ x ∷ zs) → take 1 (xs ++ ys) ≡ take 1 xs
    front xs ys is = ap (λ z. take 1 (z ++ ys)) is.2 ∙ ap (take 1) (sym is.2)

    not_empty : (end : RdnKeys) × (part ∷ rest ≡ take (length rest) (part ∷ rest) ++ end ∷ []) → (x : RdnKeys) × (zs : DnKeys) × (reverse (part ∷ rest) ≡ x ∷ zs)
    not_empty last = (last.0, reverse (take (length rest) (part ∷ rest)), ap reverse last.1 ∙ reverse-append (take (length rest) (part ∷ rest)) (last.0 ∷ []))

last_of : (p : DnKeys) (part : RdnKeys) → take 1 (reverse (p ++ part ∷ [])) ≡ part ∷ []
last_of p part = ap (take 1) (reverse-append p (part ∷ []))

-- an entry within the limits, with its key
abbrev IsWithin : DnKeys × Content → Type 0
IsWithin p = (length p.0 ≤ 64) × (is_sound_name p.1.own ≡ true) × (list_all is_rdn_within_limit p.1.own ≡ true)

module _ (rows : List TypeRow) (d : Dir) (k : DnKeys) (rdn : SpelledRdn) (delete_old : Bool) (superior : Option SpelledName) (new : Dir) (known : RenamedAt rows d k rdn delete_old superior new) where
  abbrev to : DnKeys
  to = new_key rows d k rdn delete_old superior new known

  place : Place d k to
  place = place_is rows d k rdn delete_old superior new known

  -- a longer key is not the suffix
  longer_apart : (q : DnKeys) → length d.suffix + 1 ≤ length q → dn_key_eq q d.suffix ≡ false
  longer_apart q long = by (dn_key_eq q d.suffix) refl
    where
      by : (b : Bool) → dn_key_eq q d.suffix ≡ b → b ≡ false
      by false t = refl
      by true t = let same = ap length ((dn_key_eq_decides q d.suffix).0 t) in absurd (omega (arith, same, long))

  -- what holds of the moved entry, and of each other entry wherever it is, holds of each entry
  each_moved : (P : DnKeys → Content → Type 0) → IsClosed d → P to known.new_entry
      → ((part : RdnKeys) (rest : DnKeys) (x : Content) → entry_at d (k ++ part ∷ rest) ≡ Some x → P (k ++ part ∷ rest) x → P (to ++ part ∷ rest) x)
      → ((q : DnKeys) (x : Content) → entry_at d q ≡ Some x → P q x)
      → (q : DnKeys) (x : Content) → entry_at (move_subtree d k to known.new_entry) q ≡ Some x → P q x
  each_moved P closed here inside each q x there = by (rest_below to q) refl
    where
      clear : IsClear d k to
      clear = clear_place d closed k to place

      some_same : {a b : Content} → ◌≡◌ {A = Option Content} (Some a) (Some b) → a ≡ b
      some_same e = cc

      by : (o : Option DnKeys) → rest_below to q ≡ o → P q x
      by (Some []) t =
          let same : q ≡ to = rest_is to q [] t ∙ append-nil to in
          let is : known.new_entry ≡ x = some_same (sym (moved_here d k to clear known.new_entry) ∙ ap (entry_at (move_subtree d k to known.new_entry)) (sym same) ∙ there) in
          subst (λ z. P z x) (sym same) (subst (P to) is here)
      by (Some (part ∷ rest)) t =
          let same : q ≡ to ++ part ∷ rest = rest_is to q (part ∷ rest) t in
          let before : entry_at d (k ++ part ∷ rest) ≡ Some x = sym (moved_inside d k to clear known.new_entry part rest) ∙ ap (entry_at (move_subtree d k to known.new_entry)) (sym same) ∙ there in
          subst (λ z. P z x) (sym same) (inside part rest x before (each (k ++ part ∷ rest) x before))
      by None t = apart (rest_below k q) refl
        where
          apart : (o : Option DnKeys) → rest_below k q ≡ o → P q x
          apart None u = each q x (sym (moved_outside d k to clear known.new_entry q t u) ∙ there)
          apart (Some rest) u = absurd (no (sym (moved_away d k to clear known.new_entry q rest t u) ∙ there))
            where
              no : ◌≡◌ {A = Option Content} None (Some x) → ⊥
              no e = cc

  pub rename_keeps : IsWellFormed rows d → Each IsLegalPair rdn → IsWellFormed rows new
  rename_keeps well legal =
      subst (IsWellFormed rows) (sym known.is)
      (well.0, closed_moved d well.1 k to place known.new_entry, each_moved (λ q x. IsSoundEntry rows x × (name_key rows x.own ≡ Some (own_part d.suffix q))) well.1 here inside well.2)
    where
      here : IsSoundEntry rows known.new_entry × (name_key rows known.new_entry.own ≡ Some (own_part d.suffix to))
      here =
          let low = new_longer d well.1 k to place in (
            renamed_sound rows known.old_entry rdn known.key delete_old known.new_entry known.named legal (well.2 k known.old_entry known.there).0 known.renamed,
            ap (λ (z : Content). name_key rows z.own) (renamed_is rows known.old_entry rdn known.key delete_old known.new_entry known.renamed).0
                ∙ own_key rows d k rdn delete_old superior new known
                ∙ ap Some (sym (ap (λ b. cond b to (take 1 (reverse to))) (longer_apart to (omega (arith, low))) ∙ last_of known.parent known.key)),
          )

      inside : (part : RdnKeys) (rest : DnKeys) (x : Content) → entry_at d (k ++ part ∷ rest) ≡ Some x → IsSoundEntry rows x × (name_key rows x.own ≡ Some (own_part d.suffix (k ++ part ∷ rest))) → IsSoundEntry rows x × (name_key rows x.own ≡ Some (own_part d.suffix (to ++ part ∷ rest)))
      inside part rest x there before =
          let low = new_longer d well.1 k to place in
          let low_old = old_longer d well.1 k to place in
          let count = length-append to (part ∷ rest) in
          let count_old = length-append k (part ∷ rest) in (
            before.0,
            before.1
                ∙ ap Some (
                ap (λ b. cond b (k ++ part ∷ rest) (take 1 (reverse (k ++ part ∷ rest)))) (longer_apart (k ++ part ∷ rest) (omega (arith, low_old, count_old)))
                ∙ last_below k part rest ∙ sym (last_below to part rest)
                ∙ sym (ap (λ b. cond b (to ++ part ∷ rest) (take 1 (reverse (to ++ part ∷ rest)))) (longer_apart (to ++ part ∷ rest) (omega (arith, low, count))))),
          )

  -- no key becomes longer than 64 RDNs
  fits : length to + height_below d k ≤ 64
  fits = grind (arith, nat_tests, known.fits)

  pub rename_within : IsWithinLimits d → is_sound_rdn rdn ≡ true → is_rdn_within_limit rdn ≡ true → IsWithinLimits new
  rename_within within sound small = subst IsWithinLimits (sym known.is) all
    where
      own : known.new_entry.own ≡ rdn ∷ []
      own = ap (λ (z : Content). z.own) (renamed_is rows known.old_entry rdn known.key delete_old known.new_entry known.renamed).0

      and_true : (b : Bool) → b ≡ true → list_all (λ (c : Bool). c) (b ∷ []) ≡ true
      and_true b e = ap (λ c. list_all (λ (c : Bool). c) (c ∷ [])) e

      here : IsWithin (to, known.new_entry)
      here = let low = fits in (omega (arith, low), ap is_sound_name own ∙ and_true (is_sound_rdn rdn) sound, ap (list_all is_rdn_within_limit) own ∙ and_true (is_rdn_within_limit rdn) small)

      -- a moved key is no longer than 64 RDNs
      one : (q : DnKeys) (x : Content) → entry_at d q ≡ Some x → length (moved_key k to q) ≤ 64
      one q x there = by (rest_below k q) refl
        where
          by : (o : Option DnKeys) → rest_below k q ≡ o → length (joined_or to q o) ≤ 64
          by None t = (within q x there).0
          by (Some rest) t =
              let reach = height_reaches d k rest (ap (λ z. is_some (entry_at d z)) (sym (rest_is k q rest t)) ∙ ap is_some there) in
              let count = length-append to rest in
              let low = fits in
              omega (arith, reach, count, low)

      each_of : (es : List (DnKeys × Content)) → Each (λ p. IsWithin (moved_key k to p.0, p.1)) es → Each IsWithin (map (λ p. (moved_key k to p.0, p.1)) es)
      each_of [] h = tt
      each_of (e ∷ es) h = (h.0, each_of es h.1)

      moved : Each IsWithin (map (λ p. (moved_key k to p.0, p.1)) (fin.entries d.entries))
      moved = each_of (fin.entries d.entries) (each_entry dn_key_cmp_total dn_key_cmp_exact (λ p. IsWithin (moved_key k to p.0, p.1)) d.entries (λ q x there. (one q x there, (within q x there).1, (within q x there).2)))

      all : IsWithinLimits (move_subtree d k to known.new_entry)
      all q x there = by (eq_by_cmp dn_key_cmp q to) refl (sym (get_put (rekeyed d k to) to known.new_entry q) ∙ there)
        where
          by : (b : Bool) → eq_by_cmp dn_key_cmp q to ≡ b → cond b (Some known.new_entry) (entry_at (rekeyed d k to) q) ≡ Some x → IsWithin (q, x)
          by false t h = each_find dn_key_cmp_total dn_key_cmp_exact IsWithin q x (map (λ p. (moved_key k to p.0, p.1)) (fin.entries d.entries)) moved (sym (get-from_entries dn_key_cmp_total (map (λ p. (moved_key k to p.0, p.1)) (fin.entries d.entries)) q) ∙ h)
          by true t h =
              let same : known.new_entry ≡ x = some_same h in
              subst (λ z. IsWithin (z, x)) (sym (same_key q to t)) (subst (λ z. IsWithin (to, z)) same here)
            where
              some_same : {a b : Content} → ◌≡◌ {A = Option Content} (Some a) (Some b) → a ≡ b
              some_same e = cc
