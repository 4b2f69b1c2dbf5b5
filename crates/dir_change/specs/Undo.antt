-- What takes a change back: a group of changes that leads from the directory after it to the directory before it.
use Rattle.std.specs.Prelude.{◌≡◌, ℕ, Bool, true, false, cond, ◌&&◌, List, [], ◌∷◌, ◌++◌, map, Option, None, Some, option_and_then, Result, Ok, ⊤}
use Rattle.std.specs.List.{list_all, list_any}
use Rattle.std.specs.FinMap as fin
use Rattle.dir_names.specs.declared.schema.TypeRow.{TypeRow}
use Rattle.dir_names.specs.Described.{Described}
use Rattle.dir_names.specs.Attr.{Attr}
use Rattle.dir_names.specs.Keys.{DnKeys, RdnKeys, parent_of}
use Rattle.dir_names.specs.Names.{SpelledName, SpelledRdn}
use Rattle.dir_names.specs.NameKeys.{name_key, rdn_key}
use Rattle.dir_names.specs.Orders.{attr_eq, dn_key_eq}
use Rattle.dir_ldif.specs.declared.records.Change.{Change}
use Rattle.dir_ldif.specs.declared.records.ChangeKind.{ChangeKind}
use Rattle.dir_ldif.specs.declared.records.ChangeKind.TheVariants as kind
use Rattle.dir_ldif.specs.declared.records.Mod.{Mod}
use Rattle.dir_ldif.specs.LegalRecords.{is_legal}
use Rattle.dir_tree.specs.Content.{Content, StoredAttributes}
use Rattle.dir_tree.specs.Dir.{Dir, entry_at}
use Rattle.dir_tree.specs.NewEntry.{leaf_key, leaf_of}
use Rattle.dir_tree.specs.SpelledNames.{spelled_name}
use Rattle.dir_tree.specs.WellFormed.{Each, all_lines}
use Rattle.dir_names.specs.Results.{and_then}
use Rattle.dir_change.specs.Difference.{difference}
use Rattle.dir_change.specs.Operation.{step}
use Rattle.dir_change.specs.Rename.{renamed_attributes, superior_key}
use Rattle.dir_change.specs.declared.result_code.ResultCode.{ResultCode}

-- the directory after changes, one after the other, or the first refusal
abbrev pub directory_after_all : List TypeRow → Dir → List Change → Result Dir ResultCode
directory_after_all rows d [] = Ok d
directory_after_all rows d (c ∷ cs) = and_then (step rows d c) (λ e. directory_after_all rows e cs)

-- the group is accepted whole after the change, and leads back to the directory before it
abbrev pub TakesBack : List TypeRow → Dir → Dir → List Change → Type 0
TakesBack rows before after group = directory_after_all rows after group ≡ Ok before

-- the group undoes the change that leads from one directory to the other: each of its records is legal, and after the change all are accepted and lead back
abbrev pub Undoes : List TypeRow → Dir → Dir → Change → List Change → Type 0
Undoes rows before after change group =
    (step rows before change ≡ Ok after) × Each (λ c. is_legal rows c ≡ true) group × TakesBack rows before after group

-- the record is a delete, or an add
abbrev pub is_delete : ChangeKind → Bool
is_delete kind.Delete = true
is_delete other = false

abbrev pub is_add : ChangeKind → Bool
is_add (kind.Add lines) = true
is_add other = false

-- the record is a rename that deletes the values of the old RDN
abbrev pub is_full_rename : ChangeKind → Bool
is_full_rename (kind.Rename rdn delete_old superior) = delete_old
is_full_rename other = false

-- the record is a modify of these keys alone
abbrev pub is_modify_of : List Attr → ChangeKind → Bool
is_modify_of keys (kind.Modify mods) = list_all (λ m. list_any (attr_eq m.description.key) keys) mods
is_modify_of keys other = false

-- at most one record, a modify of these keys alone
abbrev pub is_modify_at_most : List Attr → List Change → Bool
is_modify_at_most keys [] = true
is_modify_at_most keys (c ∷ []) = is_modify_of keys c.kind
is_modify_at_most keys (c ∷ more) = false

-- the types of an RDN, if it has a key
abbrev pub types_in : Option RdnKeys → List Attr
types_in None = []
types_in (Some key) = map (λ p. p.0) key

abbrev pub own_types : Option Content → List Attr
own_types None = []
own_types (Some e) = map (λ p. p.0) e.key

-- how large an undo is, by the operation that it takes back: for an add one delete; for a delete one add; for a modify at most one modify, of keys that the change names;
-- for a rename one rename that deletes the old values, and then at most one modify, of types of the two RDNs
abbrev pub has_undo_size : List TypeRow → Option Content → ChangeKind → List Change → Bool
has_undo_size rows before (kind.Add lines) (c ∷ []) = is_delete c.kind
has_undo_size rows before kind.Delete (c ∷ []) = is_add c.kind
has_undo_size rows before (kind.Modify mods) group = is_modify_at_most (map (λ m. m.description.key) mods) group
has_undo_size rows before (kind.Rename rdn delete_old superior) (c ∷ more) = is_full_rename c.kind && is_modify_at_most (own_types before ++ types_in (rdn_key rows rdn)) more
has_undo_size rows before other group = false

-- the entry that a change names, before it
abbrev pub entry_named : List TypeRow → Dir → Change → Option Content
entry_named rows d change = option_and_then (entry_at d) (name_key rows change.dn)

-- the directory in which a record that leads from one directory to another finds the entry that it names: for an add the second, for any other the first
abbrev pub directory_that_names : ChangeKind → Dir → Dir → Dir
directory_that_names (kind.Add lines) from to = to
directory_that_names other from to = from

-- the record names an entry as it is spelled in the directory
abbrev pub NamesAsSpelled : List TypeRow → Dir → Change → Type 0
NamesAsSpelled rows d change = (k : DnKeys) × (name_key rows change.dn ≡ Some k) × (change.dn ≡ spelled_name d k)

-- each record of the group, applied one after the other, names an entry as it is spelled then
abbrev pub AreNamedAsSpelled : List TypeRow → Dir → List Change → Type 0
AreNamedAsSpelled rows d [] = ⊤
AreNamedAsSpelled rows d (c ∷ cs) = (e : Dir) → step rows d c ≡ Ok e → NamesAsSpelled rows (directory_that_names c.kind d e) c × AreNamedAsSpelled rows e cs

-- an undo of a change: a group that undoes it, of that size, which names the entries as they are spelled
abbrev pub IsUndo : List TypeRow → Dir → Dir → Change → List Change → Type 0
IsUndo rows before after change group =
    Undoes rows before after change group × (has_undo_size rows (entry_named rows before change) change.kind group ≡ true) × AreNamedAsSpelled rows after group

-- ---- the group that a run writes

-- the parent's part of an entry's name, which is empty for the suffix's entry
abbrev pub spelled_name_or_empty : Dir → Option DnKeys → SpelledName
spelled_name_or_empty d None = []
spelled_name_or_empty d (Some k) = spelled_name d k

abbrev pub name_of_parent : Dir → DnKeys → SpelledName
name_of_parent d k = cond (dn_key_eq k d.suffix) [] (spelled_name_or_empty d (parent_of k))

-- whether the two keys are there and the same
abbrev pub is_parent : Option DnKeys → Option DnKeys → Bool
is_parent (Some p) (Some q) = dn_key_eq p q
is_parent p q = false

abbrev pub lines_of_entry : Option Content → List (Described × List ℕ)
lines_of_entry None = []
lines_of_entry (Some e) = all_lines e.attributes

abbrev pub attributes_of_entry : Option Content → StoredAttributes
attributes_of_entry None = fin.empty
attributes_of_entry (Some e) = e.attributes

-- the modifications that lead from the entry at the key in one directory to the entry there in the other
abbrev pub entry_difference : Dir → Dir → DnKeys → List Mod
entry_difference from to k = difference (attributes_of_entry (entry_at from k)) (attributes_of_entry (entry_at to k))

-- a modify of this name, if there is a modification
abbrev pub modify_if_any : SpelledName → List Mod → List Change
modify_if_any name [] = []
modify_if_any name (m ∷ mods) = record { dn = name; kind = kind.Modify (m ∷ mods) } ∷ []

-- the key of an entry that is renamed
abbrev pub joined_key : Option DnKeys → Option RdnKeys → Option DnKeys
joined_key (Some parent) (Some key) = Some (parent ++ key ∷ [])
joined_key parent key = None

-- the superior that a rename back names: the old parent, as it is spelled after the rename, if that isn't the parent any more
abbrev pub superior_back : List TypeRow → Dir → DnKeys → Option SpelledName → Option SpelledName
superior_back rows after k superior = cond (is_parent (parent_of k) (superior_key rows k superior)) None (Some (spelled_name_or_empty after (parent_of k)))

-- the rename to this RDN, which takes the values of the other one away
abbrev pub rename_to : SpelledName → Option SpelledName → SpelledRdn → Change
rename_to name superior leaf = record { dn = name; kind = kind.Rename leaf true superior }

-- the rename to the RDN that the entry had, and then the modifications that lead to what the entry was; nothing if it had no RDN with a key
abbrev pub rename_back : List TypeRow → SpelledName → Option SpelledName → SpelledName → Content → Content → Option SpelledRdn → Option RdnKeys → List Change
rename_back rows new_name superior old_name after before (Some leaf) (Some key) =
    rename_to new_name superior leaf
    ∷ modify_if_any old_name (difference (renamed_attributes rows after.attributes after.key leaf key true) before.attributes)
rename_back rows new_name superior old_name after before leaf key = []

-- the same for a rename to below this superior, by the names in the directory before it
abbrev pub superior_back_in : Dir → DnKeys → DnKeys → Option SpelledName
superior_back_in d k superior = cond (is_parent (parent_of k) (Some superior)) None (Some (spelled_name_or_empty d (parent_of k)))

abbrev pub rename_back_in : List TypeRow → Dir → DnKeys → DnKeys → Content → Content → List Change
rename_back_in rows d k superior after before =
    rename_back rows (after.own ++ spelled_name d superior) (superior_back_in d k superior) (spelled_name d k) after before (leaf_of before.own) (leaf_key rows before.own)

abbrev pub undo_of_rename : List TypeRow → Dir → Dir → DnKeys → Option DnKeys → Option SpelledName → Option Content → Option Content → List Change
undo_of_rename rows before after k (Some new) superior (Some y) (Some e) =
    rename_back rows (spelled_name after new) superior (spelled_name before k) y e (leaf_of e.own) (leaf_key rows e.own)
undo_of_rename rows before after k new superior y e = []

-- an add is taken back by one delete, a delete by one add of all values, a modify by the modifications that lead back, and a rename by a rename back and the modifications that are left, each of the entry's name as spelled
abbrev pub undo_of : List TypeRow → Dir → Dir → DnKeys → ChangeKind → List Change
undo_of rows before after k (kind.Add lines) = record { dn = spelled_name after k; kind = kind.Delete } ∷ []
undo_of rows before after k kind.Delete = record { dn = spelled_name before k; kind = kind.Add (lines_of_entry (entry_at before k)) } ∷ []
undo_of rows before after k (kind.Modify mods) = modify_if_any (spelled_name after k) (entry_difference after before k)
undo_of rows before after k (kind.Rename rdn delete_old superior) =
    let new = joined_key (superior_key rows k superior) (rdn_key rows rdn) in
    undo_of_rename rows before after k new (superior_back rows after k superior) (option_and_then (entry_at after) new) (entry_at before k)
