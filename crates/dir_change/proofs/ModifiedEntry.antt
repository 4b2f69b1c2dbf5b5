-- An entry after modifications: it is sound, and the difference leads back.
use Rattle.std.proofs.Common.{◌≡◌, Bool, true, false, cond, List, Result, Ok, Err, refl, sym, ap, subst, ◌∙◌}
use Rattle.dir_names.specs.declared.schema.TypeRow.{TypeRow}
use Rattle.dir_names.specs.Results.{and_then}
use Rattle.dir_ldif.specs.declared.records.Mod.{Mod}
use Rattle.dir_tree.specs.ChangedEntry.{changed_entry, has_own_values}
use Rattle.dir_tree.specs.Content.{Content, StoredAttributes}
use Rattle.dir_tree.specs.NewEntry.{exceeds_single_value}
use Rattle.dir_tree.specs.WellFormed.{Each, IsSoundEntry}
use Rattle.dir_tree.specs.declared.fault.EntryFault.TheVariants.{NotNamed, Single}
use Rattle.dir_tree.proofs.OwnValues.{own_values}
use Rattle.dir_change.specs.Difference.{difference}
use Rattle.dir_change.specs.Modify.{attributes_after, entry_after, with_attributes}
use Rattle.dir_change.specs.Refusals.{entry_or_code}
use Rattle.dir_change.specs.declared.result_code.ResultCode.{ResultCode}
use Rattle.dir_change.proofs.AttributesBack.{AreSoundSlots, difference_leads}
use Rattle.dir_change.proofs.LegalValues.{IsLegalMod}
use Rattle.dir_change.proofs.ModifiedAttributes.{attributes_of_slots, slots_of_attributes, stay_sound}

module _ (rows : List TypeRow) where
  -- what an accepted modify says of the entry after it
  pub record Modified (e : Content) (mods : List Mod) (y : Content) : Type 0 where
    pub xs : StoredAttributes
    pub after : attributes_after rows e.attributes mods ≡ Ok xs
    pub is : y ≡ with_attributes e xs
    pub named : has_own_values (with_attributes e xs) ≡ true
    pub single : exceeds_single_value rows xs ≡ false

  pub modified_is : (e : Content) (mods : List Mod) (y : Content) → entry_after rows e mods ≡ Ok y → Modified e mods y
  modified_is e mods y is = by (attributes_after rows e.attributes mods) refl is
    where
      judged : (xs : StoredAttributes) → attributes_after rows e.attributes mods ≡ Ok xs → (a : Bool) → has_own_values (with_attributes e xs) ≡ a → (b : Bool) → exceeds_single_value rows xs ≡ b →
          entry_or_code (cond a (cond b (Err Single) (Ok (with_attributes e xs))) (Err NotNamed)) ≡ Ok y → Modified e mods y
      judged xs t false u b w h = absurd (cc)
      judged xs t true u true w h = absurd (cc)
      judged xs t true u false w h = let same : with_attributes e xs ≡ y = cc in record { xs = xs; after = t; is = sym same; named = u; single = w }

      by : (r : Result StoredAttributes ResultCode) → attributes_after rows e.attributes mods ≡ r → and_then r (λ xs. entry_or_code (changed_entry rows (with_attributes e xs))) ≡ Ok y → Modified e mods y
      by (Err code) t h = absurd (cc)
      by (Ok xs) t h = judged xs t (has_own_values (with_attributes e xs)) refl (exceeds_single_value rows xs) refl h

  pub slots_of_entry : (e : Content) → IsSoundEntry rows e → AreSoundSlots rows e.attributes
  slots_of_entry e sound = slots_of_attributes rows e.attributes sound.1

  pub modified_sound : (e : Content) (mods : List Mod) (y : Content) → Each (IsLegalMod rows) mods → IsSoundEntry rows e → entry_after rows e mods ≡ Ok y → IsSoundEntry rows y
  modified_sound e mods y legal sound is =
      let known = modified_is e mods y is in
      let each = attributes_of_slots rows known.xs (stay_sound rows e.attributes mods known.xs legal (slots_of_entry e sound) known.after) in
      subst (IsSoundEntry rows) (sym known.is) (sound.0, each, own_values rows (with_attributes e known.xs) sound.0 ∙ known.named, known.single)

  -- a sound entry is accepted
  pub sound_accepted : (e : Content) → IsSoundEntry rows e → entry_or_code (changed_entry rows e) ≡ Ok e
  sound_accepted e sound = λ i. entry_or_code (cond ((sym (own_values rows e sound.0) ∙ sound.2) i) (cond (sound.3 i) (Err Single) (Ok e)) (Err NotNamed))

  -- from the entry after an accepted modify the difference leads to the entry before it
  pub modified_back : (e : Content) (mods : List Mod) (y : Content) → Each (IsLegalMod rows) mods → IsSoundEntry rows e → entry_after rows e mods ≡ Ok y → entry_after rows y (difference y.attributes e.attributes) ≡ Ok e
  modified_back e mods y legal sound is =
      let known = modified_is e mods y is in
      let leads = difference_leads rows y.attributes e.attributes (slots_of_entry y (modified_sound e mods y legal sound is)) (slots_of_entry e sound) in
      ap (λ r. and_then r (λ xs. entry_or_code (changed_entry rows (with_attributes y xs)))) leads
      ∙ ap (λ (z : Content). entry_or_code (changed_entry rows (with_attributes z e.attributes))) known.is
      ∙ sound_accepted e sound
