-- What a modify is to do to an entry.
use Rattle.std.specs.Prelude.{◌≡◌, List, map, Ok}
use Rattle.std.specs.FinMap as fin
use Rattle.dir_names.specs.declared.schema.TypeRow.{TypeRow}
use Rattle.dir_names.specs.Attr.{Attr}
use Rattle.dir_names.specs.Orders.{attr_cmp}
use Rattle.dir_names.specs.Sorted.{set_of}
use Rattle.dir_ldif.specs.declared.records.Change.{Change}
use Rattle.dir_ldif.specs.declared.records.Mod.{Mod}
use Rattle.dir_names.specs.Keys.{DnKeys}
use Rattle.dir_names.specs.Names.{SpelledName}
use Rattle.dir_tree.specs.Content.{Content, StoredAttributes}
use Rattle.dir_tree.specs.Dir.{Dir, put_entry}
use Rattle.dir_change.specs.Difference.{difference_at}
use Rattle.dir_change.specs.Inside.Exchanged.{FitAttributes, exchanged_slot}
use Rattle.dir_change.specs.Modify.{entry_after, with_attributes}
use Rattle.dir_change.specs.Undo.{modify_if_any}

-- the attributes with the part before exchanged for the part after
abbrev pub AreExchanged : StoredAttributes → StoredAttributes → StoredAttributes → StoredAttributes → Type 0
AreExchanged xs before after new = (q : Attr) → fin.get new q ≡ exchanged_slot (fin.get xs q) (fin.get before q) (fin.get after q)

-- the entry with the part before exchanged for the part after
abbrev pub IsExchanged : Content → StoredAttributes → StoredAttributes → Content → Type 0
IsExchanged e before after done = (new : StoredAttributes) × AreExchanged e.attributes before after new × (done ≡ with_attributes e new)

-- the directory after has the entry at the key, with the part before exchanged for the part after
abbrev pub IsExchangedAt : Dir → DnKeys → Content → StoredAttributes → StoredAttributes → Dir → Type 0
IsExchangedAt d k e before after done = (new : StoredAttributes) × AreExchanged e.attributes before after new × (done ≡ put_entry d k (with_attributes e new))

-- the exchange gives the entry after the modifications, and these lead back
pub record IsPlan (rows : List TypeRow) (e : Content) (mods : List Mod) (before after : StoredAttributes) (back : List Mod) : Type 0 where
  pub fits : FitAttributes e.attributes before after
  pub leads : (new : StoredAttributes) → AreExchanged e.attributes before after new → entry_after rows e mods ≡ Ok (with_attributes e new)
  pub leads_back : (new : StoredAttributes) → AreExchanged e.attributes before after new → back ≡ difference_at (set_of attr_cmp (map (λ m. m.description.key) mods)) new e.attributes

-- the same, and the undo is a modify of this name by these, if there is one
abbrev pub IsPlanWithUndo : List TypeRow → SpelledName → Content → List Mod → StoredAttributes → StoredAttributes → List Change → Type 0
IsPlanWithUndo rows name e mods before after undo = (back : List Mod) × IsPlan rows e mods before after back × (undo ≡ modify_if_any name back)
