-- Names and values within the limits, and that an operation keeps them so.
use Rattle.std.proofs.Common.{◌≡◌, ℕ, zero, suc, ◌<◌, ◌≤◌, Bool, true, false, cond, ◌&&◌, nat_le, nat_lt, List, [], ◌∷◌, ◌++◌, length, map, Option, Some, None, is_some, Ok, refl, sym, ap, subst, ◌∙◌, arith, take}
use Rattle.std.specs.Prelude.{slice_index}
use Rattle.std.specs.List.{flat_map, list_all}
use Rattle.std.specs.FinMap as fin
use Rattle.std.proofs.lemmas.Bool.Decides.{nat_tests}
use Rattle.std.specs.Ordering.{eq_by_cmp}
use Rattle.dir_names.specs.declared.schema.TypeRow.{TypeRow}
use Rattle.dir_names.specs.declared.value.ValueKey.{ValueKey}
use Rattle.dir_names.specs.Attr.{Attr}
use Rattle.dir_names.specs.Described.{Described}
use Rattle.dir_names.specs.Keys.{DnKeys}
use Rattle.dir_names.specs.Names.{SpelledRdn}
use Rattle.dir_names.specs.NameKeys.{name_key}
use Rattle.dir_names.specs.Orders.{dn_key_cmp}
use Rattle.dir_names.specs.Names.Limits.{is_rdn_within_limit, is_within_limits}
use Rattle.dir_names.specs.Names.Sound.{is_sound_name, is_sound_rdn}
use Rattle.dir_ldif.specs.declared.records.Change.{Change}
use Rattle.dir_ldif.specs.declared.records.ChangeKind.{ChangeKind}
use Rattle.dir_ldif.specs.declared.records.ChangeKind.TheVariants as kind
use Rattle.dir_ldif.specs.declared.records.Mod.{Mod}
use Rattle.dir_ldif.specs.SoundRecords.{IsSoundKind, IsSoundName, ModsAreBytes, ValuesAreBytes}
use Rattle.dir_tree.specs.Content.{Content, Stored}
use Rattle.dir_tree.specs.Dir.{Dir, entry_at, put_entry}
use Rattle.dir_tree.specs.SpelledNames as spelled
use Rattle.dir_tree.specs.SpelledNames.{own_name_at, own_rdns, prefixes, spelled_name}
use Rattle.dir_tree.specs.WellFormed.{Each, IsSoundAttribute, IsSoundValue, IsWellFormed, IsWithinLimits, are_bytes, attribute_lines}
use Rattle.dir_tree.proofs.OwnNames.{all_own_of}
use Rattle.dir_ldif.specs.LegalRecords.{is_legal, is_legal_kind}
use Rattle.dir_tree.proofs.DirLemmas.{get_put, get_without, same_key}
use Rattle.dir_change.specs.Operation.{directory_after, step, step_at}
use Rattle.dir_change.specs.Runs.{group_at, group_of}
use Rattle.dir_change.specs.SoundChange.{IsSoundChange}
use Rattle.dir_change.specs.Difference.{difference}
use Rattle.dir_change.specs.Undo.{attributes_of_entry, entry_difference, lines_of_entry, modify_if_any, undo_of}
use Rattle.dir_change.proofs.LegalDifference.{difference_legal}
use Rattle.dir_change.proofs.LegalValues.{legal_mods}
use Rattle.dir_change.proofs.ModifiedEntry.{modified_is, slots_of_entry}
use Rattle.dir_change.proofs.ModifyBack.{ModifiedAt, modified_at, new_there}
use Rattle.dir_change.proofs.RenameAccepted.{renamed_at}
use Rattle.dir_change.proofs.RenameBack.{after, group_is, rename_sound}
use Rattle.dir_change.proofs.RenameStays.{rename_within}
use Rattle.dir_change.proofs.StaysWellFormed.{legal_rdn, step_keeps}
use Rattle.dir_change.proofs.LegalUndo.{group_legal}
use Rattle.dir_change.proofs.AfterOperations.{added_is, deleted_is, itself, key_length, made_own, spelled_key}
use Rattle.dir_names.proofs.Both.{left, right}

-- ---- names

all_append : {A : Type 0} (p : A → Bool) (xs ys : List A) → list_all p xs ≡ true → list_all p ys ≡ true → list_all p (xs ++ ys) ≡ true
all_append p [] ys e h = h
all_append p (x ∷ xs) ys e h = λ i. left (p x) (list_all p xs) e i && all_append p xs ys (right (p x) _ e) h i

all_joined : {A B : Type 0} (p : B → Bool) (f : A → List B) → ((x : A) → list_all p (f x) ≡ true) → (xs : List A) → list_all p (flat_map f xs) ≡ true
all_joined p f h [] = refl
all_joined p f h (x ∷ xs) = all_append p (f x) (flat_map f xs) (h x) (all_joined p f h xs)

all_taken : {A : Type 0} (p : A → Bool) (n : ℕ) (xs : List A) → list_all p xs ≡ true → list_all p (take n xs) ≡ true
all_taken p zero xs e = refl
all_taken p (suc n) [] e = refl
all_taken p (suc n) (x ∷ xs) e = λ i. left (p x) (list_all p xs) e i && all_taken p n xs (right (p x) _ e) i

all_own : (d : Dir) (p : SpelledRdn → Bool) → ((k : DnKeys) (e : Content) → entry_at d k ≡ Some e → list_all p e.own ≡ true) → (k : DnKeys) → list_all p (own_name_at d k) ≡ true
all_own d p h k = all_taken p (spelled.own_depth d.suffix k) (spelled.own_name_of (entry_at d k)) (by (entry_at d k) refl)
  where
    by : (o : Option Content) → entry_at d k ≡ o → list_all p (spelled.own_name_of o) ≡ true
    by None t = refl
    by (Some e) t = h k e t

pub name_sound : (rows : List TypeRow) (d : Dir) → IsWellFormed rows d → IsWithinLimits d → (k : DnKeys) (e : Content) → entry_at d k ≡ Some e → IsSoundName (spelled_name d k)
name_sound rows d well within k e there =
    (all_joined is_sound_rdn (own_name_at d) (all_own d is_sound_rdn (λ q x h. (within q x h).1)) (prefixes k), λ i. short i && small i)
  where
    small : list_all is_rdn_within_limit (spelled_name d k) ≡ true
    small = all_joined is_rdn_within_limit (own_name_at d) (all_own d is_rdn_within_limit (λ q x h. (within q x h).2)) (prefixes k)

    short : nat_le (length (spelled_name d k)) 64 ≡ true
    short =
        let same : length (spelled_name d k) ≡ length k = key_length rows (spelled_name d k) k (spelled_key rows d well.1 (λ q x h. (well.2 q x h).1) k (ap is_some there)) in
        let low = (within k e there).0 in
        grind (arith, nat_tests)

put_within : (d : Dir) → IsWithinLimits d → (k : DnKeys) (e : Content) → (length k ≤ 64) × (is_sound_name e.own ≡ true) × (list_all is_rdn_within_limit e.own ≡ true) → IsWithinLimits (put_entry d k e)
put_within d within k e one q x there = by (eq_by_cmp dn_key_cmp q k) refl (sym (get_put d k e q) ∙ there)
  where
    by : (b : Bool) → eq_by_cmp dn_key_cmp q k ≡ b → cond b (Some e) (entry_at d q) ≡ Some x → (length q ≤ 64) × (is_sound_name x.own ≡ true) × (list_all is_rdn_within_limit x.own ≡ true)
    by false t h = within q x h
    by true t h =
        let same : e ≡ x = cc in
        let here : q ≡ k = same_key q k t in
        (subst (λ z. length z ≤ 64) (sym here) one.0, ap (λ (c : Content). is_sound_name c.own) (sym same) ∙ one.1, ap (λ (c : Content). list_all is_rdn_within_limit c.own) (sym same) ∙ one.2)

pub step_within : (rows : List TypeRow) (d : Dir) (change : Change) → IsWithinLimits d → IsSoundChange rows change → (new : Dir) → step rows d change ≡ Ok new → IsWithinLimits new
step_within rows d change within sound new is = by (name_key rows change.dn) refl is
  where
    name : (is_sound_name change.dn ≡ true) × (is_within_limits change.dn ≡ true)
    name = sound.1.0

    done : (k : DnKeys) → name_key rows change.dn ≡ Some k → (c : ChangeKind) → IsSoundKind c → directory_after rows d k change.dn c ≡ Ok new → IsWithinLimits new
    done k t (kind.Add lines) bytes h =
        let known = added_is rows d k change.dn lines new h in
        let e = known.3 in
        let own = made_own rows (own_rdns d.suffix k change.dn) lines e known.4 in
        let long : length change.dn ≡ length k = key_length rows change.dn k t in
        let bound : nat_le (length change.dn) 64 ≡ true = left (nat_le (length change.dn) 64) _ name.1 in
        let low : length k ≤ 64 = grind (arith, nat_tests) in
        let one : (length k ≤ 64) × (is_sound_name e.own ≡ true) × (list_all is_rdn_within_limit e.own ≡ true) = (
          low,
          ap is_sound_name own ∙ all_own_of is_sound_rdn d.suffix k change.dn name.0,
          ap (list_all is_rdn_within_limit) own ∙ all_own_of is_rdn_within_limit d.suffix k change.dn (right (nat_le (length change.dn) 64) _ name.1),
        ) in
        subst IsWithinLimits (sym known.5) (put_within d within k e one)
    done k t kind.Delete bytes h =
        let known = deleted_is d k new h in
        subst IsWithinLimits (sym known.3) (λ q x there. by q x (eq_by_cmp dn_key_cmp q k) (sym (get_without d k q) ∙ there))
      where
        by : (q : DnKeys) (x : Content) (b : Bool) → cond b None (entry_at d q) ≡ Some x → (length q ≤ 64) × (is_sound_name x.own ≡ true) × (list_all is_rdn_within_limit x.own ≡ true)
        by q x true h = absurd (cc)
        by q x false h = within q x h
    done k t (kind.Modify mods) bytes h =
        let known = modified_at rows d k mods new h in
        let own = ap (λ (e : Content). e.own) (modified_is rows known.old_entry mods known.new_entry known.after).is in
        let before = within k known.old_entry known.there in
        subst IsWithinLimits (sym known.is) (put_within d within k known.new_entry (before.0, ap is_sound_name own ∙ before.1, ap (list_all is_rdn_within_limit) own ∙ before.2))
    done k t (kind.Rename rdn delete_old superior) bytes h = rename_within rows d k rdn delete_old superior new (renamed_at rows d k rdn delete_old superior new h) within bytes.0.0 bytes.0.1

    by : (o : Option DnKeys) → name_key rows change.dn ≡ o → step_at rows d change o ≡ Ok new → IsWithinLimits new
    by None t h = absurd (cc)
    by (Some k) t h = done k t change.kind sound.1.1 h

-- ---- values

as_bytes : (bs : List ℕ) → are_bytes bs ≡ true → ((i : ℕ) → slice_index bs i < 256)
as_bytes [] e i = grind (arith)
as_bytes (b ∷ bs) e zero = let low = left (nat_lt b 256) (are_bytes bs) e in grind (arith, nat_tests)
as_bytes (b ∷ bs) e (suc i) = as_bytes bs (right (nat_lt b 256) (are_bytes bs) e) i

values_append : (xs ys : List (Described × List ℕ)) → ValuesAreBytes xs → ValuesAreBytes ys → ValuesAreBytes (xs ++ ys)
values_append [] ys x y = y
values_append (l ∷ xs) ys x y = (x.0, values_append xs ys x.1 y)

module _ (rows : List TypeRow) where
  bytes_of : (a : Attr × Stored) (vs : List (ValueKey × List ℕ)) → Each (IsSoundValue rows a.0) vs → ValuesAreBytes (map (λ v. (record { spelling = a.1.spelling; key = a.0 }, v.1)) vs)
  bytes_of a [] sound = tt
  bytes_of a (v ∷ vs) sound = (as_bytes v.1 sound.0.2, bytes_of a vs sound.1)

  pub bytes_all : (es : List (Attr × Stored)) → Each (IsSoundAttribute rows) es → ValuesAreBytes (flat_map attribute_lines es)
  bytes_all [] sound = tt
  bytes_all (a ∷ es) sound = values_append (attribute_lines a) (flat_map attribute_lines es) (bytes_of a (fin.entries a.1.values) sound.0.2) (bytes_all es sound.1)

  -- the changes that take a change back are sound
  pub group_sound : (d : Dir) (change : Change) → IsWellFormed rows d → IsWithinLimits d → IsSoundChange rows change → (new : Dir) → step rows d change ≡ Ok new → Each (IsSoundChange rows) (group_of rows d new change)
  group_sound d change well within sound new is = by (name_key rows change.dn) refl is (group_legal rows d change well within sound new is)
    where
      done : (k : DnKeys) → name_key rows change.dn ≡ Some k → (c : ChangeKind) → directory_after rows d k change.dn c ≡ Ok new → is_legal_kind rows c ≡ true → IsSoundKind c → Each (λ x. is_legal rows x ≡ true) (undo_of rows d new k c) → Each (IsSoundChange rows) (undo_of rows d new k c)
      done k t (kind.Add lines) h legal_kind bytes legal =
          let known = added_is rows d k change.dn lines new h in
          let there : entry_at new k ≡ Some known.3 = ap (λ z. entry_at z k) known.5 ∙ get_put d k known.3 k ∙ ap (λ b. cond b (Some known.3) (entry_at d k)) (itself k) in
          ((legal.0, (name_sound rows new (step_keeps rows d change well sound new is) (step_within rows d change within sound new is) k known.3 there, tt)), tt)
      done k t kind.Delete h legal_kind bytes legal =
          let known = deleted_is d k new h in
          let values : ValuesAreBytes (lines_of_entry (entry_at d k)) = subst (λ o. ValuesAreBytes (lines_of_entry o)) (sym known.1) (bytes_all (fin.entries known.0.attributes) (well.2 k known.0 known.1).0.1) in
          ((legal.0, (name_sound rows d well within k known.0 known.1, values)), tt)
      done k t (kind.Modify mods) h legal_kind bytes legal = back (entry_difference new d k) bytes_back legal
        where
          kept : IsWellFormed rows new
          kept = step_keeps rows d change well sound new is

          changed : ModifiedAt rows d k mods new
          changed = modified_at rows d k mods new h

          there : entry_at new k ≡ Some changed.new_entry
          there = new_there rows d well k mods (legal_mods rows mods legal_kind bytes) new kept h

          bytes_back : ModsAreBytes (entry_difference new d k)
          bytes_back =
              subst ModsAreBytes (sym (λ i. difference (attributes_of_entry (there i)) (attributes_of_entry (changed.there i))))
              (difference_legal rows changed.new_entry.attributes changed.old_entry.attributes (slots_of_entry rows changed.new_entry (kept.2 k changed.new_entry there).0) (slots_of_entry rows changed.old_entry (well.2 k changed.old_entry changed.there).0)).1

          back : (ms : List Mod) → ModsAreBytes ms → Each (λ x. is_legal rows x ≡ true) (modify_if_any (spelled_name new k) ms) → Each (IsSoundChange rows) (modify_if_any (spelled_name new k) ms)
          back [] b e = tt
          back (m ∷ ms) b e = ((e.0, (name_sound rows new kept (step_within rows d change within sound new is) k changed.new_entry there, b)), tt)
      done k t (kind.Rename rdn delete_old superior) h legal_kind bytes legal =
          let known = renamed_at rows d k rdn delete_old superior new h in
          let pairs = legal_rdn rdn bytes.0.0 bytes.0.1 in
          let kept = subst (IsWellFormed rows) known.is (step_keeps rows d change well sound new is) in
          let kept_within = subst IsWithinLimits known.is (step_within rows d change within sound new is) in
          subst (λ z. Each (IsSoundChange rows) (undo_of rows d z k (kind.Rename rdn delete_old superior))) (sym known.is)
          (subst (Each (IsSoundChange rows)) (sym (group_is rows d well within k rdn delete_old superior new known pairs))
          (rename_sound rows d well within k rdn delete_old superior new known pairs kept (λ q x there. name_sound rows (after rows d well within k rdn delete_old superior new known pairs) kept kept_within q x there) (name_sound rows d well within k known.old_entry known.there)))

      by : (o : Option DnKeys) → name_key rows change.dn ≡ o → step_at rows d change o ≡ Ok new → Each (λ x. is_legal rows x ≡ true) (group_at rows d new change o) → Each (IsSoundChange rows) (group_at rows d new change o)
      by None t h legal = absurd (cc)
      by (Some k) t h legal = done k t change.kind h (right (is_some (name_key rows change.dn)) (is_legal_kind rows change.kind) sound.0) sound.1.1 legal
