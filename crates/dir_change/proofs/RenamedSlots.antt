-- What a rename makes of the attribute under one key depends on what is under that key alone.
use Rattle.std.proofs.Common.{◌≡◌, ℕ, Bool, true, false, cond, List, [], ◌∷◌, Option, Some, None, refl, sym, ap, ◌∙◌}
use Rattle.std.specs.FinMap as fin
use Rattle.std.specs.FinMap.{get-insert}
use Rattle.std.specs.Ordering.{eq_by_cmp}
use Rattle.dir_names.specs.declared.schema.TypeRow.{TypeRow}
use Rattle.dir_names.specs.declared.value.ValueKey.TheVariants.{Text}
use Rattle.dir_names.specs.Attr.{Attr}
use Rattle.dir_names.specs.Keys.{RdnKeys}
use Rattle.dir_names.specs.Names.{SpelledRdn}
use Rattle.dir_names.specs.Orders.{attr_cmp, attr_cmp_total}
use Rattle.dir_tree.specs.Content.{Stored, StoredAttributes, has_in}
use Rattle.dir_tree.specs.NewEntry.{rdn_lines, with_line, with_missing_line, with_missing_lines, with_missing_of, with_value}
use Rattle.dir_change.specs.Rename.{pairs_missing_in, renamed_attributes, slot_without_value, without_pair, without_pairs}
use Rattle.dir_change.proofs.AttributesBack.{get_slot}
use Rattle.dir_change.proofs.KeysInOrder.{same_attr}

module _ (q : Attr) where
  -- two entries have the same attribute
  abbrev AreAlike : StoredAttributes → StoredAttributes → Type 0
  AreAlike xs ys = fin.get xs q ≡ fin.get ys q

  -- ---- with the values of the new RDN

  get_with_line : (xs : StoredAttributes) (l : _) → fin.get (with_missing_line xs l) q ≡ cond (eq_by_cmp attr_cmp q l.description.key) (cond (has_in l.key (fin.get xs q)) (fin.get xs q) (Some (with_value (fin.get xs q) l))) (fin.get xs q)
  get_with_line xs l = by (eq_by_cmp attr_cmp q l.description.key) refl
    where
      new : Stored
      new = with_value (fin.get xs l.description.key) l

      get_new : fin.get (with_line xs l) q ≡ cond (eq_by_cmp attr_cmp q l.description.key) (Some new) (fin.get xs q)
      get_new = get-insert attr_cmp_total xs l.description.key new q

      by : (b : Bool) → eq_by_cmp attr_cmp q l.description.key ≡ b →
          fin.get (cond (has_in l.key (fin.get xs l.description.key)) xs (with_line xs l)) q ≡ cond b (cond (has_in l.key (fin.get xs q)) (fin.get xs q) (Some (with_value (fin.get xs q) l))) (fin.get xs q)
      by true t =
          let same : l.description.key ≡ q = sym (same_attr q l.description.key t) in
          here (has_in l.key (fin.get xs l.description.key))
          ∙ (λ i. cond (has_in l.key (fin.get xs (same i))) (fin.get xs q) (Some (with_value (fin.get xs (same i)) l)))
        where
          here : (c : Bool) → fin.get (cond c xs (with_line xs l)) q ≡ cond c (fin.get xs q) (Some new)
          here true = refl
          here false = get_new ∙ ap (λ b. cond b (Some new) (fin.get xs q)) t
      by false t = elsewhere (has_in l.key (fin.get xs l.description.key))
        where
          elsewhere : (c : Bool) → fin.get (cond c xs (with_line xs l)) q ≡ fin.get xs q
          elsewhere true = refl
          elsewhere false = get_new ∙ ap (λ b. cond b (Some new) (fin.get xs q)) t

  alike_lines : (xs ys : StoredAttributes) (ls : List _) → AreAlike xs ys → AreAlike (with_missing_lines xs ls) (with_missing_lines ys ls)
  alike_lines xs ys [] same = same
  alike_lines xs ys (l ∷ ls) same = alike_lines (with_missing_line xs l) (with_missing_line ys l) ls
      (get_with_line xs l
      ∙ ap (λ slot. cond (eq_by_cmp attr_cmp q l.description.key) (cond (has_in l.key slot) slot (Some (with_value slot l))) slot) same
      ∙ sym (get_with_line ys l))

  alike_missing : (xs ys : StoredAttributes) (lines : Option (List _)) → AreAlike xs ys → AreAlike (with_missing_of xs lines) (with_missing_of ys lines)
  alike_missing xs ys None same = same
  alike_missing xs ys (Some ls) same = alike_lines xs ys ls same

  -- ---- without those of the old one

  get_without_pair : (xs : StoredAttributes) (p : Attr × List ℕ) → fin.get (without_pair xs p) q ≡ cond (eq_by_cmp attr_cmp q p.0) (slot_without_value (Text p.1) (fin.get xs q)) (fin.get xs q)
  get_without_pair xs p = get_slot xs p.0 (slot_without_value (Text p.1) (fin.get xs p.0)) q ∙ by (eq_by_cmp attr_cmp q p.0) refl
    where
      by : (b : Bool) → eq_by_cmp attr_cmp q p.0 ≡ b → cond b (slot_without_value (Text p.1) (fin.get xs p.0)) (fin.get xs q) ≡ cond b (slot_without_value (Text p.1) (fin.get xs q)) (fin.get xs q)
      by true t = ap (λ k. slot_without_value (Text p.1) (fin.get xs k)) (sym (same_attr q p.0 t))
      by false t = refl

  alike_without : (xs ys : StoredAttributes) (ps : RdnKeys) → AreAlike xs ys → AreAlike (without_pairs xs ps) (without_pairs ys ps)
  alike_without xs ys [] same = same
  alike_without xs ys (p ∷ ps) same = alike_without (without_pair xs p) (without_pair ys p) ps
      (get_without_pair xs p
      ∙ ap (λ slot. cond (eq_by_cmp attr_cmp q p.0) (slot_without_value (Text p.1) slot) slot) same
      ∙ sym (get_without_pair ys p))

  -- where two entries have the same attribute, a rename makes the same of both
  pub renamed_alike : (rows : List TypeRow) (old : RdnKeys) (rdn : SpelledRdn) (new : RdnKeys) (delete_old : Bool) (xs ys : StoredAttributes) → AreAlike xs ys
      → AreAlike (renamed_attributes rows xs old rdn new delete_old) (renamed_attributes rows ys old rdn new delete_old)
  renamed_alike rows old rdn new false xs ys same = alike_missing xs ys (rdn_lines rows rdn) same
  renamed_alike rows old rdn new true xs ys same =
      alike_without (with_missing_of xs (rdn_lines rows rdn)) (with_missing_of ys (rdn_lines rows rdn)) (pairs_missing_in old new) (alike_missing xs ys (rdn_lines rows rdn) same)
