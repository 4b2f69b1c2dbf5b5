-- The update operations (RFC 4511, sections 4.6 to 4.9): the directory after a change, or the result code of the first test that refuses it.
use Rattle.std.specs.Prelude.{◌≡◌, ℕ, not, List, Option, None, Some, is_some, Result, Ok, Err, ⊤}
use Rattle.dir_names.specs.declared.schema.TypeRow.{TypeRow}
use Rattle.dir_names.specs.Described.{Described}
use Rattle.dir_names.specs.Keys.{DnKeys}
use Rattle.dir_names.specs.Names.{SpelledName}
use Rattle.dir_names.specs.NameKeys.{name_key}
use Rattle.dir_names.specs.Below.{is_at_or_below}
use Rattle.dir_ldif.specs.declared.records.Change.{Change}
use Rattle.dir_ldif.specs.declared.records.ChangeKind.{ChangeKind}
use Rattle.dir_ldif.specs.declared.records.ChangeKind.TheVariants as kind
use Rattle.dir_tree.specs.Content.{Content}
use Rattle.dir_tree.specs.Dir.{Dir, entry_at, has_child, has_parent, put_entry, remove_entry}
use Rattle.dir_tree.specs.NewEntry.{new_entry}
use Rattle.dir_tree.specs.declared.fault.EntryFault.{EntryFault}
use Rattle.dir_tree.specs.SpelledNames.{own_rdns}
use Rattle.dir_ldif.specs.declared.records.Mod.{Mod}
use Rattle.dir_names.specs.Results.{and_then}
use Rattle.dir_change.specs.Modify.{entry_after}
use Rattle.dir_change.specs.Refusals.{entry_or_code, unless}
use Rattle.dir_change.specs.Rename.{directory_after_rename}
use Rattle.dir_change.specs.declared.refusal.Refusal.{Refusal}
use Rattle.dir_change.specs.declared.refusal.Refusal.TheVariants as refusal
use Rattle.dir_change.specs.declared.result_code.ResultCode.{ResultCode}
use Rattle.dir_change.specs.declared.result_code.ResultCode.TheVariants.{NoSuchObject, NotAllowedOnNonLeaf, EntryAlreadyExists}

-- the directory with the new entry at the key, or its fault's result code
abbrev pub with_new_entry : Dir → DnKeys → Result Content EntryFault → Result Dir ResultCode
with_new_entry d k made = and_then (entry_or_code made) (λ e. Ok (put_entry d k e))

-- add (RFC 4511, section 4.7): the name is the suffix or below it; it is free; its parent is there; and the values make an entry
abbrev pub directory_after_add : List TypeRow → Dir → DnKeys → SpelledName → List (Described × List ℕ) → Result Dir ResultCode
directory_after_add rows d k name lines =
    unless (not (is_at_or_below k d.suffix)) NoSuchObject
    (unless (is_some (entry_at d k)) EntryAlreadyExists
    (unless (not (has_parent d k)) NoSuchObject
    (with_new_entry d k (new_entry rows (own_rdns d.suffix k name) lines))))

-- delete (RFC 4511, section 4.8): the entry is there, and has no child
abbrev pub directory_after_delete : Dir → DnKeys → Result Dir ResultCode
directory_after_delete d k =
    unless (not (is_some (entry_at d k))) NoSuchObject
    (unless (has_child d k) NotAllowedOnNonLeaf
    (Ok (remove_entry d k)))

-- modify (RFC 4511, section 4.6): the entry is there, and none of the modifications, nor the entry after them, is refused
abbrev pub with_modified_entry : List TypeRow → Dir → DnKeys → List Mod → Option Content → Result Dir ResultCode
with_modified_entry rows d k mods None = Err NoSuchObject
with_modified_entry rows d k mods (Some e) = and_then (entry_after rows e mods) (λ y. Ok (put_entry d k y))

abbrev pub directory_after_modify : List TypeRow → Dir → DnKeys → List Mod → Result Dir ResultCode
directory_after_modify rows d k mods = with_modified_entry rows d k mods (entry_at d k)

abbrev pub directory_after : List TypeRow → Dir → DnKeys → SpelledName → ChangeKind → Result Dir ResultCode
directory_after rows d k name (kind.Add lines) = directory_after_add rows d k name lines
directory_after rows d k name kind.Delete = directory_after_delete d k
directory_after rows d k name (kind.Modify mods) = directory_after_modify rows d k mods
directory_after rows d k name (kind.Rename rdn delete_old superior) = directory_after_rename rows d k rdn delete_old superior

-- a name that has no key names no entry
abbrev pub step_at : List TypeRow → Dir → Change → Option DnKeys → Result Dir ResultCode
step_at rows d change None = Err NoSuchObject
step_at rows d change (Some k) = directory_after rows d k change.dn change.kind

-- the directory after one change, or its result code
abbrev pub step : List TypeRow → Dir → Change → Result Dir ResultCode
step rows d change = step_at rows d change (name_key rows change.dn)

-- a refusal's code is the definition's; out of memory says nothing of it
abbrev pub IsRefused : {A : Type 0} → Refusal → Result A ResultCode → Type 0
IsRefused (refusal.Code code) wanted = wanted ≡ Err code
IsRefused refusal.Memory wanted = ⊤

-- a name without a key is refused with 32, and no other name is refused, unless memory ran out
abbrev pub IsRefusedWithoutKey : Refusal → Option DnKeys → Type 0
IsRefusedWithoutKey (refusal.Code NoSuchObject) key = key ≡ None
IsRefusedWithoutKey (refusal.Code code) key = ⊥
IsRefusedWithoutKey refusal.Memory key = ⊤
