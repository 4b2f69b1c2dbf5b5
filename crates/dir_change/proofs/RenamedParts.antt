-- A rename of the attributes of the RDNs' types, set into all attributes, is a rename of all.
use Rattle.std.proofs.Common.{◌≡◌, Bool, true, false, cond, ◌||◌, List, ◌++◌, Some, None, refl, sym, ap, ◌∙◌}
use Rattle.std.specs.FinMap as fin
use Rattle.dir_names.specs.declared.schema.TypeRow.{TypeRow}
use Rattle.dir_names.specs.Attr.{Attr}
use Rattle.dir_names.specs.Keys.{RdnKeys}
use Rattle.dir_names.specs.Names.{SpelledRdn}
use Rattle.dir_names.specs.NameKeys.{rdn_key}
use Rattle.dir_names.specs.Orders.{attr_cmp}
use Rattle.dir_names.specs.Sorted.{set_of}
use Rattle.dir_tree.specs.Content.{StoredAttributes}
use Rattle.dir_tree.specs.Slots.{with_slots}
use Rattle.dir_change.specs.Inside.Looked.{is_one_of}
use Rattle.dir_change.specs.Inside.Touched.{IsPartAt, has_type, types_of}
use Rattle.dir_change.specs.Rename.{renamed_attributes}
use Rattle.dir_change.proofs.AttributesBack.{same_attributes}
use Rattle.dir_change.proofs.KeysInOrder.{among_append, is_among, set_among}
use Rattle.dir_change.proofs.RenamedEntry.{renamed_apart}
use Rattle.dir_change.proofs.RenamedSlots.{renamed_alike}
use Rattle.dir_change.proofs.TouchedDifference.{among_types, none_or}
use Rattle.dir_change.proofs.WholeParts.{get_slots}

module _ (rows : List TypeRow) (xs fs : StoredAttributes) (old : RdnKeys) (rdn : SpelledRdn) (new : RdnKeys) (named : rdn_key rows rdn ≡ Some new) (delete_old : Bool)
    (keys : List Attr) (are : keys ≡ set_of attr_cmp (types_of old ++ types_of new)) (part : IsPartAt keys xs fs) where
  no_types : (q : Attr) → is_among q keys ≡ false → (has_type old q ≡ false) × (has_type new q ≡ false)
  no_types q t = none_or (has_type old q) (has_type new q) (sym types ∙ t)
    where
      types : is_among q keys ≡ (has_type old q || has_type new q)
      types =
          ap (is_among q) are
          ∙ set_among q (types_of old ++ types_of new)
          ∙ among_append q (types_of old) (types_of new)
          ∙ (λ i. among_types q old i || among_types q new i)

  pub renamed_by_part : with_slots xs keys (renamed_attributes rows fs old rdn new delete_old) ≡ renamed_attributes rows xs old rdn new delete_old
  renamed_by_part = same_attributes _ _ (λ q. get_slots xs keys (renamed_attributes rows fs old rdn new delete_old) q ∙ by q (is_one_of q keys) refl)
    where
      by : (q : Attr) (b : Bool) → is_one_of q keys ≡ b → cond b (fin.get (renamed_attributes rows fs old rdn new delete_old) q) (fin.get xs q) ≡ fin.get (renamed_attributes rows xs old rdn new delete_old) q
      by q true t = renamed_alike q rows old rdn new delete_old fs xs (part q ∙ ap (λ b. cond b (fin.get xs q) None) t)
      by q false t = let apart = no_types q t in sym (renamed_apart rows xs old rdn new named delete_old q apart.0 apart.1)
