-- The group of an accepted change is an undo of it, of the size that its operation asks for.
use Rattle.std.proofs.Common.{◌≡◌, true, false, List, [], ◌∷◌, map, Option, Some, None, is_some, Result, Ok, refl, sym, ap, subst, ◌∙◌}
use Rattle.std.specs.List.{list_all, list_any}
use Rattle.std.specs.FinMap as fin
use Rattle.std.specs.Option.{option_and_then}
use Rattle.dir_names.specs.declared.schema.TypeRow.{TypeRow}
use Rattle.dir_names.specs.Attr.{Attr}
use Rattle.dir_names.specs.Keys.{DnKeys}
use Rattle.dir_names.specs.NameKeys.{name_key}
use Rattle.dir_names.specs.Orders.{attr_cmp, attr_eq}
use Rattle.dir_names.specs.Results.{and_then}
use Rattle.dir_names.specs.Sorted.{set_of}
use Rattle.dir_names.proofs.Both.{right}
use Rattle.dir_ldif.specs.declared.records.Change.{Change}
use Rattle.dir_ldif.specs.declared.records.ChangeKind.{ChangeKind}
use Rattle.dir_ldif.specs.declared.records.ChangeKind.TheVariants as kind
use Rattle.dir_ldif.specs.declared.records.Mod.{Mod}
use Rattle.dir_ldif.specs.LegalRecords.{is_legal_kind}
use Rattle.dir_ldif.specs.SoundRecords.{IsSoundKind}
use Rattle.dir_tree.specs.Content.{Content}
use Rattle.dir_tree.specs.Dir.{Dir, entry_at}
use Rattle.dir_tree.specs.SpelledNames.{spelled_name}
use Rattle.dir_tree.specs.WellFormed.{IsWellFormed, IsWithinLimits}
use Rattle.dir_change.specs.Difference.{difference}
use Rattle.dir_change.specs.Operation.{directory_after, step, step_at}
use Rattle.dir_change.specs.Runs.{GroupsUndo, group_at, group_of}
use Rattle.dir_change.specs.SoundChange.{IsSoundChange}
use Rattle.dir_change.specs.Undo.{AreNamedAsSpelled, TakesBack, attributes_of_entry, entry_difference, entry_named, has_undo_size, is_modify_at_most, lines_of_entry, modify_if_any, undo_of}
use Rattle.dir_change.specs.declared.result_code.ResultCode.{ResultCode}
use Rattle.dir_change.proofs.AfterOperations.{added_key, deleted_is, spelled_key}
use Rattle.dir_change.proofs.KeysInOrder.{is_among, set_among}
use Rattle.dir_change.proofs.LegalUndo.{group_legal}
use Rattle.dir_change.proofs.LegalValues.{legal_mods}
use Rattle.dir_change.proofs.ModifiedAttributes.{difference_named, named_keys, only_named, untouched}
use Rattle.dir_change.proofs.ModifiedEntry.{modified_is}
use Rattle.dir_change.proofs.ModifyBack.{ModifiedAt, modified_at, modified_key, new_there}
use Rattle.dir_change.proofs.RenameAccepted.{renamed_at}
use Rattle.dir_change.proofs.RenameBack.{after, group_is, rename_named, rename_size}
use Rattle.dir_change.proofs.StaysWellFormed.{legal_rdn, step_keeps}
use Rattle.dir_change.proofs.TakenBack.{group_back}

module _ (rows : List TypeRow) (d : Dir) (change : Change) (well : IsWellFormed rows d) (within : IsWithinLimits d) (sound : IsSoundChange rows change) (new : Dir) (is : step rows d change ≡ Ok new) where
  kept : IsWellFormed rows new
  kept = step_keeps rows d change well sound new is

  -- ---- the modifications that take a modify back name only keys that it names

  module _ (k : DnKeys) (mods : List Mod) (legal : is_legal_kind rows (kind.Modify mods) ≡ true) (bytes : IsSoundKind (kind.Modify mods)) (h : directory_after rows d k change.dn (kind.Modify mods) ≡ Ok new) where
    abbrev changed : ModifiedAt rows d k mods new
    changed = modified_at rows d k mods new h

    there : entry_at new k ≡ Some changed.new_entry
    there = new_there rows d well k mods (legal_mods rows mods legal bytes) new kept h

    difference_is : entry_difference new d k ≡ difference changed.new_entry.attributes changed.old_entry.attributes
    difference_is = λ i. difference (attributes_of_entry (there i)) (attributes_of_entry (changed.there i))

    names_only : list_all (λ m. list_any (attr_eq m.description.key) (map (λ m. m.description.key) mods)) (entry_difference new d k) ≡ true
    names_only =
        let modified = modified_is rows changed.old_entry mods changed.new_entry changed.after in
        let apart : (q : Attr) → is_among q (named_keys mods) ≡ false → fin.get changed.new_entry.attributes q ≡ fin.get changed.old_entry.attributes q = λ q t. ap (λ (e : Content). fin.get e.attributes q) modified.is ∙ untouched rows changed.old_entry.attributes mods modified.xs modified.after q t in
        ap (list_all (λ m. list_any (attr_eq m.description.key) (map (λ m. m.description.key) mods)))
        (difference_is ∙ difference_named changed.new_entry.attributes changed.old_entry.attributes (named_keys mods) apart)
        ∙ only_named rows (named_keys mods) changed.new_entry.attributes changed.old_entry.attributes (set_of attr_cmp (named_keys mods)) (λ q t. sym (set_among q (named_keys mods)) ∙ t)

    at_most_one : is_modify_at_most (map (λ m. m.description.key) mods) (modify_if_any (spelled_name new k) (entry_difference new d k)) ≡ true
    at_most_one = by (entry_difference new d k) names_only
      where
        by : (ms : List Mod) → list_all (λ m. list_any (attr_eq m.description.key) (map (λ m. m.description.key) mods)) ms ≡ true → is_modify_at_most (map (λ m. m.description.key) mods) (modify_if_any (spelled_name new k) ms) ≡ true
        by [] e = refl
        by (m ∷ ms) e = e

    named_as_spelled : AreNamedAsSpelled rows new (modify_if_any (spelled_name new k) (entry_difference new d k))
    named_as_spelled = by (entry_difference new d k)
      where
        by : (ms : List Mod) → AreNamedAsSpelled rows new (modify_if_any (spelled_name new k) ms)
        by [] = tt
        by (m ∷ ms) = λ e t. ((k, modified_key rows d well k mods (legal_mods rows mods legal bytes) new kept h, refl), tt)

  -- ---- each operation

  group_size : has_undo_size rows (entry_named rows d change) change.kind (group_of rows d new change) ≡ true
  group_size = by (name_key rows change.dn) refl is
    where
      done : (k : DnKeys) (o : Option Content) → o ≡ entry_at d k → (c : ChangeKind) → is_legal_kind rows c ≡ true → IsSoundKind c → directory_after rows d k change.dn c ≡ Ok new → has_undo_size rows o c (undo_of rows d new k c) ≡ true
      done k o same (kind.Add lines) legal bytes h = refl
      done k o same kind.Delete legal bytes h = refl
      done k o same (kind.Modify mods) legal bytes h = at_most_one k mods legal bytes h
      done k o same (kind.Rename rdn delete_old superior) legal bytes h =
          let known = renamed_at rows d k rdn delete_old superior new h in
          let pairs = legal_rdn rdn bytes.0.0 bytes.0.1 in
          let kept_after = subst (IsWellFormed rows) known.is kept in
          subst (λ z. has_undo_size rows o (kind.Rename rdn delete_old superior) (undo_of rows d z k (kind.Rename rdn delete_old superior)) ≡ true) (sym known.is)
          (ap (has_undo_size rows o (kind.Rename rdn delete_old superior)) (group_is rows d well within k rdn delete_old superior new known pairs) ∙ rename_size rows d well within k rdn delete_old superior new known pairs kept_after o (same ∙ known.there))

      by : (o : Option DnKeys) → name_key rows change.dn ≡ o → step_at rows d change o ≡ Ok new → has_undo_size rows (option_and_then (entry_at d) (name_key rows change.dn)) change.kind (group_at rows d new change o) ≡ true
      by None t h = absurd (cc)
      by (Some k) t h = done k (option_and_then (entry_at d) (name_key rows change.dn)) (ap (option_and_then (entry_at d)) t) change.kind (right (is_some (name_key rows change.dn)) (is_legal_kind rows change.kind) sound.0) sound.1.1 h

  group_named : AreNamedAsSpelled rows new (group_of rows d new change)
  group_named = by (name_key rows change.dn) refl is (group_back rows d change well within sound new is)
    where
      -- where the one record is accepted, it leads to the directory before the change
      leads : (c : Change) → TakesBack rows d new (c ∷ []) → (e : Dir) → step rows new c ≡ Ok e → e ≡ d
      leads c back e t = ok_same (sym (ap (λ r. and_then r (λ e. Ok e)) t) ∙ back)
        where
          ok_same : {a b : Dir} → ◌≡◌ {A = Result Dir ResultCode} (Ok a) (Ok b) → a ≡ b
          ok_same e = cc

      done : (k : DnKeys) → name_key rows change.dn ≡ Some k → (c : ChangeKind) → is_legal_kind rows c ≡ true → IsSoundKind c → directory_after rows d k change.dn c ≡ Ok new → TakesBack rows d new (undo_of rows d new k c) → AreNamedAsSpelled rows new (undo_of rows d new k c)
      done k t (kind.Add lines) legal bytes h back = λ e u. ((k, added_key rows d well.1 (λ q x there. (well.2 q x there).1) k change.dn lines t new h, refl), tt)
      done k t kind.Delete legal bytes h back = λ e u.
          let same = leads (record { dn = spelled_name d k; kind = kind.Add (lines_of_entry (entry_at d k)) }) back e u in
          ((k, spelled_key rows d well.1 (λ q x there. (well.2 q x there).1) k (ap is_some (deleted_is d k new h).1), ap (λ z. spelled_name z k) (sym same)), tt)
      done k t (kind.Modify mods) legal bytes h back = named_as_spelled k mods legal bytes h
      done k t (kind.Rename rdn delete_old superior) legal bytes h back =
          let known = renamed_at rows d k rdn delete_old superior new h in
          let pairs = legal_rdn rdn bytes.0.0 bytes.0.1 in
          let kept_after = subst (IsWellFormed rows) known.is kept in
          subst (λ z. AreNamedAsSpelled rows z (undo_of rows d z k (kind.Rename rdn delete_old superior))) (sym known.is)
          (subst (AreNamedAsSpelled rows (after rows d well within k rdn delete_old superior new known pairs)) (sym (group_is rows d well within k rdn delete_old superior new known pairs)) (rename_named rows d well within k rdn delete_old superior new known pairs kept_after))

      by : (o : Option DnKeys) → name_key rows change.dn ≡ o → step_at rows d change o ≡ Ok new → TakesBack rows d new (group_at rows d new change o) → AreNamedAsSpelled rows new (group_at rows d new change o)
      by None t h back = absurd (cc)
      by (Some k) t h back = done k t change.kind (right (is_some (name_key rows change.dn)) (is_legal_kind rows change.kind) sound.0) sound.1.1 h back

pub groups_undo : GroupsUndo
groups_undo rows d new change well within sound is =
    ((is, group_legal rows d change well within sound new is, group_back rows d change well within sound new is), group_size rows d change well within sound new is, group_named rows d change well within sound new is)
