-- A modify of a directory, and the modify that takes it back.
use Rattle.std.proofs.Common.{◌≡◌, Bool, true, false, cond, List, [], ◌∷◌, Option, Some, None, is_some, Result, Ok, Err, refl, sym, ap, ◌∙◌}
use Rattle.std.specs.FinMap.{same_map}
use Rattle.std.specs.Ordering.{eq_by_cmp}
use Rattle.dir_names.specs.declared.schema.TypeRow.{TypeRow}
use Rattle.dir_names.specs.Keys.{DnKeys}
use Rattle.dir_names.specs.NameKeys.{name_key}
use Rattle.dir_names.specs.Orders.{dn_key_cmp, dn_key_cmp_total, dn_key_cmp_exact}
use Rattle.dir_names.specs.Results.{and_then}
use Rattle.dir_ldif.specs.declared.records.Change.{Change}
use Rattle.dir_ldif.specs.declared.records.ChangeKind.TheVariants as kind
use Rattle.dir_ldif.specs.declared.records.Mod.{Mod}
use Rattle.dir_tree.specs.Content.{Content, StoredAttributes}
use Rattle.dir_tree.proofs.Relisted.{insert_over}
use Rattle.dir_tree.specs.Dir.{Dir, entry_at, put_entry}
use Rattle.dir_tree.specs.SpelledNames.{spelled_name}
use Rattle.dir_tree.specs.WellFormed.{Each, IsWellFormed}
use Rattle.dir_tree.proofs.DirLemmas.{get_put, same_key}
use Rattle.dir_change.specs.Difference.{difference}
use Rattle.dir_change.specs.Modify.{entry_after, with_attributes}
use Rattle.dir_change.specs.Operation.{directory_after_modify, step_at, with_modified_entry}
use Rattle.dir_change.specs.Undo.{TakesBack, attributes_of_entry, entry_difference, modify_if_any, undo_of}
use Rattle.dir_change.specs.declared.result_code.ResultCode.{ResultCode}
use Rattle.dir_change.proofs.AfterOperations.{itself, spelled_key}
use Rattle.dir_change.proofs.LegalValues.{IsLegalMod}
use Rattle.dir_change.proofs.ModifiedEntry.{modified_back, modified_is}

module _ (rows : List TypeRow) (d : Dir) (k : DnKeys) (mods : List Mod) where
  -- what an accepted modify says of the directory after it
  pub record ModifiedAt (new : Dir) : Type 0 where
    pub old_entry : Content
    pub there : entry_at d k ≡ Some old_entry
    pub new_entry : Content
    pub after : entry_after rows old_entry mods ≡ Ok new_entry
    pub is : new ≡ put_entry d k new_entry

  pub modified_at : (new : Dir) → directory_after_modify rows d k mods ≡ Ok new → ModifiedAt new
  modified_at new is = by (entry_at d k) refl is
    where
      made : (e : Content) → entry_at d k ≡ Some e → (r : Result Content ResultCode) → entry_after rows e mods ≡ r → and_then r (λ y. Ok (put_entry d k y)) ≡ Ok new → ModifiedAt new
      made e t (Err code) u h = absurd (cc)
      made e t (Ok y) u h = let same : put_entry d k y ≡ new = cc in record { old_entry = e; there = t; new_entry = y; after = u; is = sym same }

      by : (o : Option Content) → entry_at d k ≡ o → with_modified_entry rows d k mods o ≡ Ok new → ModifiedAt new
      by None t h = absurd (cc)
      by (Some e) t h = made e t (entry_after rows e mods) refl h

pub entry_there : (d : Dir) (k : DnKeys) (e : Content) → entry_at (put_entry d k e) k ≡ Some e
entry_there d k e = get_put d k e k ∙ ap (λ b. cond b (Some e) (entry_at d k)) (itself k)

same_dir : (d e : Dir) → d.suffix ≡ e.suffix → ((q : DnKeys) → entry_at d q ≡ entry_at e q) → d ≡ e
same_dir d e s h = let entries = same_map dn_key_cmp_total dn_key_cmp_exact d.entries e.entries h in λ i. record { suffix = s i; entries = entries i }

-- what was there, put again
pub put_over : (d : Dir) (k : DnKeys) (s y : Content) → put_entry (put_entry d k s) k y ≡ put_entry d k y
put_over d k s y = λ i. record { suffix = d.suffix; entries = insert_over dn_key_cmp_total dn_key_cmp_exact d.entries k s y i }

pub put_again : (d : Dir) (k : DnKeys) (y e : Content) → entry_at d k ≡ Some e → put_entry (put_entry d k y) k e ≡ d
put_again d k y e there = same_dir _ d refl (λ q. get_put (put_entry d k y) k e q ∙ ap (cond (eq_by_cmp dn_key_cmp q k) (Some e)) (get_put d k y q) ∙ by q (eq_by_cmp dn_key_cmp q k) refl)
  where
    by : (q : DnKeys) (b : Bool) → eq_by_cmp dn_key_cmp q k ≡ b → cond b (Some e) (cond b (Some y) (entry_at d q)) ≡ entry_at d q
    by q false t = refl
    by q true t = sym (ap (entry_at d) (same_key q k t) ∙ there)

pub put_same : (d : Dir) (k : DnKeys) (e : Content) → entry_at d k ≡ Some e → put_entry d k e ≡ d
put_same d k e there = same_dir _ d refl (λ q. get_put d k e q ∙ by q (eq_by_cmp dn_key_cmp q k) refl)
  where
    by : (q : DnKeys) (b : Bool) → eq_by_cmp dn_key_cmp q k ≡ b → cond b (Some e) (entry_at d q) ≡ entry_at d q
    by q false t = refl
    by q true t = sym (ap (entry_at d) (same_key q k t) ∙ there)

module _ (rows : List TypeRow) (d : Dir) (well : IsWellFormed rows d) (k : DnKeys) (mods : List Mod) (legal : Each (IsLegalMod rows) mods) (new : Dir) (kept : IsWellFormed rows new) (is : directory_after_modify rows d k mods ≡ Ok new) where
  abbrev pub known : ModifiedAt rows d k mods new
  known = modified_at rows d k mods new is

  pub new_there : entry_at new k ≡ Some known.new_entry
  new_there = ap (λ z. entry_at z k) known.is ∙ entry_there d k known.new_entry

  -- the name of the entry as spelled has its key
  pub modified_key : name_key rows (spelled_name new k) ≡ Some k
  modified_key = spelled_key rows new kept.1 (λ q x there. (kept.2 q x there).1) k (ap is_some new_there)

  mods_are : entry_difference new d k ≡ difference known.new_entry.attributes known.old_entry.attributes
  mods_are = λ i. difference (attributes_of_entry (new_there i)) (attributes_of_entry (known.there i))

  entry_back : entry_after rows known.new_entry (entry_difference new d k) ≡ Ok known.old_entry
  entry_back = ap (entry_after rows known.new_entry) mods_are ∙ modified_back rows known.old_entry mods known.new_entry legal (well.2 k known.old_entry known.there).0 known.after

  directory_back : directory_after_modify rows new k (entry_difference new d k) ≡ Ok d
  directory_back =
      ap (with_modified_entry rows new k (entry_difference new d k)) new_there
      ∙ ap (λ r. and_then r (λ y. Ok (put_entry new k y))) entry_back
      ∙ ap (λ z. Ok (put_entry z k known.old_entry)) known.is
      ∙ ap Ok (put_again d k known.new_entry known.old_entry known.there)

  pub modify_taken_back : TakesBack rows d new (undo_of rows d new k (kind.Modify mods))
  modify_taken_back = by (entry_difference new d k) directory_back
    where
      by : (ms : List Mod) → directory_after_modify rows new k ms ≡ Ok d → TakesBack rows d new (modify_if_any (spelled_name new k) ms)
      by [] h =
          let was = modified_at rows new k [] d h in
          let nothing = modified_is rows was.old_entry [] was.new_entry was.after in
          let left : was.old_entry.attributes ≡ nothing.xs = ok_same nothing.after in
          let same : was.new_entry ≡ was.old_entry = nothing.is ∙ (λ i. with_attributes was.old_entry (sym left i)) in
          ap Ok (sym (was.is ∙ ap (put_entry new k) same ∙ put_same new k was.old_entry was.there))
        where
          ok_same : {a b : StoredAttributes} → ◌≡◌ {A = Result StoredAttributes ResultCode} (Ok a) (Ok b) → a ≡ b
          ok_same e = cc
      by (m ∷ ms) h =
          let again : Change = record { dn = spelled_name new k; kind = kind.Modify (m ∷ ms) } in
          ap (λ r. and_then r (λ e. Ok e)) (ap (step_at rows new again) modified_key ∙ h)
