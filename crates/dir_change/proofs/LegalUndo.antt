-- The changes that take a change back are legal.
use Rattle.std.proofs.Common.{◌≡◌, ℕ, Bool, true, false, ◌&&◌, List, [], ◌∷◌, ◌++◌, map, Option, Some, None, is_some, Ok, refl, sym, ap, subst, ◌∙◌, arith}
use Rattle.std.specs.List.{flat_map, list_all}
use Rattle.std.proofs.lemmas.Bool.Decides.{nat_tests}
use Rattle.std.specs.FinMap as fin
use Rattle.dir_names.specs.declared.schema.TypeRow.{TypeRow}
use Rattle.dir_names.specs.declared.value.ValueKey.{ValueKey}
use Rattle.dir_names.specs.Attr.{Attr}
use Rattle.dir_names.specs.Keys.{DnKeys}
use Rattle.dir_names.specs.NameKeys.{name_key}
use Rattle.dir_names.specs.Orders.{attr_eq_decides}
use Rattle.dir_ldif.specs.declared.records.Change.{Change}
use Rattle.dir_ldif.specs.declared.records.ChangeKind.{ChangeKind}
use Rattle.dir_ldif.specs.declared.records.ChangeKind.TheVariants as kind
use Rattle.dir_ldif.specs.LegalRecords.{has_this_key, is_legal, is_legal_kind, is_legal_line, is_legal_mod, is_read_under, is_short}
use Rattle.dir_tree.specs.Content.{Stored}
use Rattle.dir_ldif.specs.SoundRecords.{IsSoundKind}
use Rattle.dir_ldif.specs.declared.records.Mod.{Mod}
use Rattle.dir_names.proofs.Both.{right}
use Rattle.dir_tree.specs.Dir.{Dir, entry_at}
use Rattle.dir_tree.specs.SpelledNames.{spelled_name}
use Rattle.dir_tree.specs.WellFormed.{Each, IsSoundAttribute, IsSoundValue, IsWellFormed, IsWithinLimits, attribute_lines}
use Rattle.dir_change.specs.Operation.{directory_after, step, step_at}
use Rattle.dir_change.specs.Runs.{group_at, group_of}
use Rattle.dir_change.specs.Difference.{difference}
use Rattle.dir_change.specs.SoundChange.{IsSoundChange}
use Rattle.dir_change.specs.Undo.{attributes_of_entry, entry_difference, lines_of_entry, modify_if_any, undo_of}
use Rattle.dir_change.proofs.LegalDifference.{difference_legal}
use Rattle.dir_change.proofs.LegalValues.{legal_mods}
use Rattle.dir_change.proofs.ModifiedEntry.{slots_of_entry}
use Rattle.dir_change.proofs.ModifyBack.{ModifiedAt, modified_at, modified_key, new_there}
use Rattle.dir_change.proofs.RenameAccepted.{renamed_at}
use Rattle.dir_change.proofs.RenameBack.{group_is, rename_legal}
use Rattle.dir_change.proofs.StaysWellFormed.{legal_rdn, step_keeps}
use Rattle.dir_change.proofs.AfterOperations.{added_key, deleted_is, spelled_key}

module _ (rows : List TypeRow) where
  all_append : {A : Type 0} (p : A → Bool) (xs ys : List A) → list_all p xs ≡ true → list_all p ys ≡ true → list_all p (xs ++ ys) ≡ true
  all_append p [] ys e h = h
  all_append p (x ∷ xs) ys e h = by (p x) e (λ t. all_append p xs ys t h)
    where
      by : (b : Bool) → (b && list_all p xs) ≡ true → (list_all p xs ≡ true → list_all p (xs ++ ys) ≡ true) → (b && list_all p (xs ++ ys)) ≡ true
      by true t rest = rest t
      by false t rest = t

  legal_values : (a : Attr × Stored) (vs : List (ValueKey × List ℕ)) → is_read_under rows (record { spelling = a.1.spelling; key = a.0 }) ≡ true → Each (IsSoundValue rows a.0) vs →
      list_all (is_legal_line rows) (map (λ v. (record { spelling = a.1.spelling; key = a.0 }, v.1)) vs) ≡ true
  legal_values a [] read sound = refl
  legal_values a (v ∷ vs) read sound =
      let low = sound.0.1 in
      let short : is_short v.1 ≡ true = grind (arith, nat_tests) in
      λ i. (short i && read i) && legal_values a vs read sound.1 i

  legal_attribute : (a : Attr × Stored) → IsSoundAttribute rows a → list_all (is_legal_line rows) (attribute_lines a) ≡ true
  legal_attribute a sound = legal_values a (fin.entries a.1.values) (ap (has_this_key a.0) sound.0 ∙ (attr_eq_decides a.0 a.0).1 refl) sound.2

  pub legal_attributes : (es : List (Attr × Stored)) → Each (IsSoundAttribute rows) es → list_all (is_legal_line rows) (flat_map attribute_lines es) ≡ true
  legal_attributes [] sound = refl
  legal_attributes (a ∷ es) sound = all_append (is_legal_line rows) (attribute_lines a) (flat_map attribute_lines es) (legal_attribute a sound.0) (legal_attributes es sound.1)

  pub group_legal : (d : Dir) (change : Change) → IsWellFormed rows d → IsWithinLimits d → IsSoundChange rows change → (new : Dir) → step rows d change ≡ Ok new → Each (λ c. is_legal rows c ≡ true) (group_of rows d new change)
  group_legal d change well within sound new is = by (name_key rows change.dn) refl is
    where
      done : (k : DnKeys) → name_key rows change.dn ≡ Some k → (c : ChangeKind) → is_legal_kind rows c ≡ true → IsSoundKind c → directory_after rows d k change.dn c ≡ Ok new → Each (λ c. is_legal rows c ≡ true) (undo_of rows d new k c)
      done k t (kind.Add lines) legal bytes h = (ap (λ o. is_some o && true) (added_key rows d well.1 (λ q x there. (well.2 q x there).1) k change.dn lines t new h), tt)
      done k t kind.Delete legal bytes h =
          let known = deleted_is d k new h in
          let key = spelled_key rows d well.1 (λ q x there. (well.2 q x there).1) k (ap is_some known.1) in
          let lines = ap (list_all (is_legal_line rows)) (ap lines_of_entry known.1) ∙ legal_attributes (fin.entries known.0.attributes) (well.2 k known.0 known.1).0.1 in
          (λ i. is_some (key i) && lines i, tt)
      done k t (kind.Modify mods) legal bytes h = back (entry_difference new d k) legal_back
        where
          kept : IsWellFormed rows new
          kept = step_keeps rows d change well sound new is

          changed : ModifiedAt rows d k mods new
          changed = modified_at rows d k mods new h

          there : entry_at new k ≡ Some changed.new_entry
          there = new_there rows d well k mods (legal_mods rows mods legal bytes) new kept h

          legal_back : list_all (is_legal_mod rows) (entry_difference new d k) ≡ true
          legal_back =
              (λ i. list_all (is_legal_mod rows) (difference (attributes_of_entry (there i)) (attributes_of_entry (changed.there i))))
              ∙ (difference_legal rows changed.new_entry.attributes changed.old_entry.attributes (slots_of_entry rows changed.new_entry (kept.2 k changed.new_entry there).0) (slots_of_entry rows changed.old_entry (well.2 k changed.old_entry changed.there).0)).0

          back : (ms : List Mod) → list_all (is_legal_mod rows) ms ≡ true → Each (λ c. is_legal rows c ≡ true) (modify_if_any (spelled_name new k) ms)
          back [] e = tt
          back (m ∷ ms) e = (λ i. is_some (modified_key rows d well k mods (legal_mods rows mods legal bytes) new kept h i) && e i, tt)
      done k t (kind.Rename rdn delete_old superior) legal bytes h =
          let known = renamed_at rows d k rdn delete_old superior new h in
          let pairs = legal_rdn rdn bytes.0.0 bytes.0.1 in
          let kept = subst (IsWellFormed rows) known.is (step_keeps rows d change well sound new is) in
          subst (λ z. Each (λ c. is_legal rows c ≡ true) (undo_of rows d z k (kind.Rename rdn delete_old superior))) (sym known.is)
          (subst (Each (λ c. is_legal rows c ≡ true)) (sym (group_is rows d well within k rdn delete_old superior new known pairs)) (rename_legal rows d well within k rdn delete_old superior new known pairs kept))

      by : (o : Option DnKeys) → name_key rows change.dn ≡ o → step_at rows d change o ≡ Ok new → Each (λ c. is_legal rows c ≡ true) (group_at rows d new change o)
      by None t h = absurd (cc)
      by (Some k) t h = done k t change.kind (right (is_some (name_key rows change.dn)) (is_legal_kind rows change.kind) sound.0) sound.1.1 h
