-- The modifications that lead from one sound entry to another are legal, and their values are bytes.
use Rattle.std.proofs.Common.{◌≡◌, ℕ, zero, suc, ◌<◌, Bool, true, false, cond, not, ◌&&◌, nat_lt, List, [], ◌∷◌, ◌++◌, Option, Some, None, Ok, refl, ap, ◌∙◌, arith}
use Rattle.std.specs.Prelude.{slice_index}
use Rattle.std.specs.List.{list_all}
use Rattle.std.specs.FinMap as fin
use Rattle.std.proofs.lemmas.Bool.Decides.{nat_tests}
use Rattle.dir_names.specs.declared.schema.TypeRow.{TypeRow}
use Rattle.dir_names.specs.Attr.{Attr}
use Rattle.dir_names.specs.Descriptions.{description_of}
use Rattle.dir_names.specs.Orders.{attr_cmp, attr_eq_decides, bytes_eq}
use Rattle.dir_names.specs.Sorted.{set_of}
use Rattle.dir_names.proofs.Both.{left, right}
use Rattle.dir_ldif.specs.declared.records.Mod.{Mod}
use Rattle.dir_ldif.specs.declared.records.ModOp.{ModOp}
use Rattle.dir_ldif.specs.declared.records.ModOp.TheVariants as op
use Rattle.dir_ldif.specs.LegalRecords.{has_this_key, is_legal_mod, is_short}
use Rattle.dir_ldif.specs.SoundRecords.{AreBytes, ModsAreBytes}
use Rattle.dir_tree.specs.Content.{Stored, StoredAttributes}
use Rattle.dir_tree.specs.WellFormed.{Each, IsSoundValue, are_bytes}
use Rattle.dir_change.specs.Difference.{bytes_of, difference, difference_at, has_exactly, modification, modification_if_any, slot_difference, values_missing_in}
use Rattle.dir_change.specs.Modify.{KeyedValues}
use Rattle.dir_change.proofs.AttributesBack.{AreSoundSlots}
use Rattle.dir_change.proofs.SlotBack.{IsSoundSlot}
use Rattle.dir_change.proofs.ValueSets.{each_passing}

as_bytes : (bs : List ℕ) → are_bytes bs ≡ true → ((i : ℕ) → slice_index bs i < 256)
as_bytes [] e i = grind (arith)
as_bytes (b ∷ bs) e zero = let low = left (nat_lt b 256) (are_bytes bs) e in grind (arith, nat_tests)
as_bytes (b ∷ bs) e (suc i) = as_bytes bs (right (nat_lt b 256) (are_bytes bs) e) i

module _ (rows : List TypeRow) where
  -- modifications that are legal, of values that are bytes
  abbrev pub AreLegalMods : List Mod → Type 0
  AreLegalMods mods = (list_all (is_legal_mod rows) mods ≡ true) × ModsAreBytes mods

  none_legal : AreLegalMods []
  none_legal = (refl, tt)

  append_legal : (ms ns : List Mod) → AreLegalMods ms → AreLegalMods ns → AreLegalMods (ms ++ ns)
  append_legal [] ns h g = g
  append_legal (m ∷ ms) ns h g =
      let rest = append_legal ms ns (right (is_legal_mod rows m) (list_all (is_legal_mod rows) ms) h.0, h.1.1) g in
      ((λ i. left (is_legal_mod rows m) (list_all (is_legal_mod rows) ms) h.0 i && rest.0 i), (h.1.0, rest.1))

  module _ (k : Attr) where
    short_values : (given : KeyedValues) → Each (IsSoundValue rows k) given → list_all is_short (bytes_of given) ≡ true
    short_values [] each = refl
    short_values (p ∷ ps) each =
        let low = each.0.1 in
        let short : is_short p.1 ≡ true = grind (arith, nat_tests) in
        λ i. short i && short_values ps each.1 i

    values_are_bytes : (given : KeyedValues) → Each (IsSoundValue rows k) given → AreBytes (bytes_of given)
    values_are_bytes [] each = tt
    values_are_bytes (p ∷ ps) each = (as_bytes p.1 each.0.2, values_are_bytes ps each.1)

    one_legal : (spelling : List ℕ) (what : ModOp) (given : KeyedValues) → description_of rows spelling ≡ Ok (record { spelling = spelling; key = k }) → Each (IsSoundValue rows k) given → AreLegalMods (modification k spelling what (bytes_of given) ∷ [])
    one_legal spelling what given read each =
        let here = ap (has_this_key k) read ∙ (attr_eq_decides k k).1 refl in
        let short = short_values given each in
        ((λ i. (here i && short i) && true), (values_are_bytes given each, tt))

    any_legal : (spelling : List ℕ) (what : ModOp) (given : KeyedValues) → description_of rows spelling ≡ Ok (record { spelling = spelling; key = k }) → Each (IsSoundValue rows k) given → AreLegalMods (modification_if_any k spelling what (bytes_of given))
    any_legal spelling what [] read each = none_legal
    any_legal spelling what (p ∷ ps) read each = one_legal spelling what (p ∷ ps) read each

    pub slot_legal : (x y : Option Stored) → IsSoundSlot rows k x → IsSoundSlot rows k y → AreLegalMods (slot_difference k x y)
    slot_legal None None f g = none_legal
    slot_legal (Some a) None f g = one_legal a.spelling op.Delete [] f.0 tt
    slot_legal None (Some b) f g = one_legal b.spelling op.Add (fin.entries b.values) g.0 g.2
    slot_legal (Some a) (Some b) f g = by (bytes_eq a.spelling b.spelling)
      where
        by : (s : Bool) → AreLegalMods (cond s (modification_if_any k b.spelling op.Delete (bytes_of (values_missing_in a.values b.values)) ++ modification_if_any k b.spelling op.Add (bytes_of (values_missing_in b.values a.values))) (modification k b.spelling op.Replace (bytes_of (fin.entries b.values)) ∷ []))
        by true =
            append_legal (modification_if_any k b.spelling op.Delete (bytes_of (values_missing_in a.values b.values))) (modification_if_any k b.spelling op.Add (bytes_of (values_missing_in b.values a.values)))
            (any_legal b.spelling op.Delete (values_missing_in a.values b.values) g.0 (each_passing (λ p. not (has_exactly b.values p)) (IsSoundValue rows k) (fin.entries a.values) f.2))
            (any_legal b.spelling op.Add (values_missing_in b.values a.values) g.0 (each_passing (λ p. not (has_exactly a.values p)) (IsSoundValue rows k) (fin.entries b.values) g.2))
        by false = one_legal b.spelling op.Replace (fin.entries b.values) g.0 g.2

  at_legal : (ks : List Attr) (xs ys : StoredAttributes) → AreSoundSlots rows xs → AreSoundSlots rows ys → AreLegalMods (difference_at ks xs ys)
  at_legal [] xs ys f g = none_legal
  at_legal (k ∷ ks) xs ys f g = append_legal (slot_difference k (fin.get xs k) (fin.get ys k)) (difference_at ks xs ys) (slot_legal k (fin.get xs k) (fin.get ys k) (f k) (g k)) (at_legal ks xs ys f g)

  pub difference_legal : (xs ys : StoredAttributes) → AreSoundSlots rows xs → AreSoundSlots rows ys → AreLegalMods (difference xs ys)
  difference_legal xs ys f g = at_legal (set_of attr_cmp (fin.keys xs ++ fin.keys ys)) xs ys f g
