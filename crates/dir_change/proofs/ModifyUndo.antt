-- The group of a modify is the difference at the keys that it names.
use Rattle.std.proofs.Common.{◌≡◌, false, List, Some, Ok, sym, ap, map, ◌∙◌}
use Rattle.std.specs.FinMap as fin
use Rattle.dir_names.specs.declared.schema.TypeRow.{TypeRow}
use Rattle.dir_names.specs.Attr.{Attr}
use Rattle.dir_names.specs.Keys.{DnKeys}
use Rattle.dir_names.specs.Names.{SpelledName}
use Rattle.dir_names.specs.Orders.{attr_cmp}
use Rattle.dir_names.specs.Sorted.{set_of}
use Rattle.dir_ldif.specs.declared.records.Mod.{Mod}
use Rattle.dir_tree.specs.Content.{Content}
use Rattle.dir_tree.specs.Dir.{Dir, entry_at, put_entry}
use Rattle.dir_tree.specs.SpelledNames.{own_name_of, spelled_name}
use Rattle.dir_tree.proofs.SpelledLemmas.{spelled_put_same}
use Rattle.dir_change.specs.Difference.{difference, difference_at}
use Rattle.dir_change.specs.Modify.{entry_after}
use Rattle.dir_change.specs.Undo.{attributes_of_entry, entry_difference, modify_if_any}
use Rattle.dir_change.proofs.KeysInOrder.{is_among}
use Rattle.dir_change.proofs.ModifiedAttributes.{difference_named, named_keys, untouched}
use Rattle.dir_change.proofs.ModifiedEntry.{Modified, modified_is}
use Rattle.dir_change.proofs.ModifyBack.{entry_there}

module _ (rows : List TypeRow) (d : Dir) (k : DnKeys) (mods : List Mod) (e y : Content) (there : entry_at d k ≡ Some e) (after : entry_after rows e mods ≡ Ok y) (new : Dir) (is : new ≡ put_entry d k y) where
  known : Modified rows e mods y
  known = modified_is rows e mods y after

  own_same : own_name_of (entry_at d k) ≡ y.own
  own_same = ap own_name_of there ∙ ap (λ (z : Content). z.own) (sym known.is)

  name_same : spelled_name new k ≡ spelled_name d k
  name_same = ap (λ z. spelled_name z k) is ∙ spelled_put_same d k y own_same k

  apart : (q : Attr) → is_among q (named_keys mods) ≡ false → fin.get y.attributes q ≡ fin.get e.attributes q
  apart q t = ap (λ (z : Content). fin.get z.attributes q) known.is ∙ untouched rows e.attributes mods known.xs known.after q t

  difference_same : entry_difference new d k ≡ difference_at (set_of attr_cmp (named_keys mods)) y.attributes e.attributes
  difference_same =
      let found = ap (λ z. entry_at z k) is ∙ entry_there d k y in
      (λ i. difference (attributes_of_entry (found i)) (attributes_of_entry (there i)))
      ∙ difference_named y.attributes e.attributes (named_keys mods) apart

  pub modify_undo : (name : SpelledName) (back : List Mod) → name ≡ spelled_name d k → back ≡ difference_at (set_of attr_cmp (map (λ (m : Mod). m.description.key) mods)) y.attributes e.attributes
      → modify_if_any name back ≡ modify_if_any (spelled_name new k) (entry_difference new d k)
  modify_undo name back n b = λ i. modify_if_any ((n ∙ sym name_same) i) ((b ∙ sym difference_same) i)
