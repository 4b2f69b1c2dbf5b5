-- The modify DN operation (RFC 4511, section 4.9): an entry gets a new RDN and, if asked, a new superior, and all that is below it moves with it.
use Rattle.std.specs.Prelude.{ℕ, ◌+◌, Bool, cond, not, ◌&&◌, List, [], ◌∷◌, ◌++◌, filter, length, nat_lt, Option, Some, None, is_some, ok_or, Result, Ok, Err}
use Rattle.std.specs.List.{list_any}
use Rattle.std.specs.FinMap as fin
use Rattle.dir_names.specs.declared.schema.TypeRow.{TypeRow}
use Rattle.dir_names.specs.declared.value.ValueKey.{ValueKey}
use Rattle.dir_names.specs.declared.value.ValueKey.TheVariants.{Text}
use Rattle.dir_names.specs.Attr.{Attr}
use Rattle.dir_names.specs.Below.{is_at_or_below}
use Rattle.dir_names.specs.Keys.{DnKeys, RdnKeys, parent_of}
use Rattle.dir_names.specs.Names.{SpelledName, SpelledRdn}
use Rattle.dir_names.specs.NameKeys.{name_key, rdn_key}
use Rattle.dir_names.specs.Orders.{dn_key_eq, pair_eq}
use Rattle.dir_names.specs.Results.{and_then}
use Rattle.dir_tree.specs.Content.{Content, Stored, StoredAttributes}
use Rattle.dir_tree.specs.Dir.{Dir, entry_at}
use Rattle.dir_tree.specs.Moves.{height_below, move_subtree}
use Rattle.dir_tree.specs.NewEntry.{ok_unless_exceeding, rdn_lines, with_missing_of}
use Rattle.dir_tree.specs.Slots.{slot_of, with_slot}
use Rattle.dir_change.specs.Refusals.{entry_or_code, unless}
use Rattle.dir_change.specs.declared.result_code.ResultCode.{ResultCode}
use Rattle.dir_change.specs.declared.result_code.ResultCode.TheVariants.{AdminLimitExceeded, NoSuchObject, UnwillingToPerform, EntryAlreadyExists}

-- ---- the entry

-- the pairs of the first RDN that are not of the second
abbrev pub pairs_missing_in : RdnKeys → RdnKeys → RdnKeys
pairs_missing_in pairs others = filter (λ p. not (list_any (pair_eq p) others)) pairs

-- what is under a key without a value; an attribute has at least one value
abbrev pub slot_without_value : ValueKey → Option Stored → Option Stored
slot_without_value value None = None
slot_without_value value (Some a) = slot_of a.spelling (fin.remove a.values value)

abbrev pub without_pair : StoredAttributes → Attr × List ℕ → StoredAttributes
without_pair xs p = with_slot xs p.0 (slot_without_value (Text p.1) (fin.get xs p.0))

-- the attributes without the values of these pairs
abbrev pub without_pairs : StoredAttributes → RdnKeys → StoredAttributes
without_pairs xs [] = xs
without_pairs xs (p ∷ ps) = without_pairs (without_pair xs p) ps

-- the attributes with the values of the new RDN that are missing, and then, if asked, without those of the old RDN that are not of the new one. So an attribute that has values before and after keeps its spelling
abbrev pub renamed_attributes : List TypeRow → StoredAttributes → RdnKeys → SpelledRdn → RdnKeys → Bool → StoredAttributes
renamed_attributes rows xs old rdn new delete_old =
    cond delete_old
    (without_pairs (with_missing_of xs (rdn_lines rows rdn)) (pairs_missing_in old new))
    (with_missing_of xs (rdn_lines rows rdn))

-- the entry with the new RDN, as spelled and by key
abbrev pub renamed : List TypeRow → Content → SpelledRdn → RdnKeys → Bool → Content
renamed rows e rdn key delete_old = record { own = rdn ∷ []; key = key; attributes = renamed_attributes rows e.attributes e.key rdn key delete_old }

-- the same, if no attribute of a single type has more than one value
abbrev pub renamed_entry : List TypeRow → Content → SpelledRdn → RdnKeys → Bool → Result Content ResultCode
renamed_entry rows e rdn key delete_old = entry_or_code (ok_unless_exceeding rows (renamed rows e rdn key delete_old))

-- ---- its place

-- the key of the entry below which it is afterwards: of the new superior if there is one, else of its parent
abbrev pub superior_key : List TypeRow → DnKeys → Option SpelledName → Option DnKeys
superior_key rows k None = parent_of k
superior_key rows k (Some name) = name_key rows name

-- this key, if it is not the entry's or below it, and there is an entry
abbrev pub superior_at : Dir → DnKeys → Option DnKeys → Result DnKeys ResultCode
superior_at d k None = Err NoSuchObject
superior_at d k (Some p) =
    unless (is_at_or_below p k) UnwillingToPerform
    (unless (not (is_some (entry_at d p))) NoSuchObject
    (Ok p))

-- the new key, if it is free or the entry's own, and no key becomes longer than 64 RDNs
abbrev pub place_at : Dir → DnKeys → DnKeys → Result DnKeys ResultCode
place_at d k new =
    unless (is_some (entry_at d new) && not (dn_key_eq new k)) EntryAlreadyExists
    (unless (nat_lt 64 (length new + height_below d k)) AdminLimitExceeded
    (Ok new))

-- ---- the directory: the entry is there, and is not the suffix's; then its superior, its key, and its values
abbrev pub with_renamed_entry : List TypeRow → Dir → DnKeys → SpelledRdn → Bool → Option SpelledName → Option Content → Result Dir ResultCode
with_renamed_entry rows d k rdn delete_old superior None = Err NoSuchObject
with_renamed_entry rows d k rdn delete_old superior (Some e) =
    unless (dn_key_eq k d.suffix) UnwillingToPerform
    (and_then (superior_at d k (superior_key rows k superior)) (λ p.
    and_then (ok_or (rdn_key rows rdn) NoSuchObject) (λ key.
    and_then (place_at d k (p ++ key ∷ [])) (λ new.
    and_then (renamed_entry rows e rdn key delete_old) (λ y.
    Ok (move_subtree d k new y))))))

abbrev pub directory_after_rename : List TypeRow → Dir → DnKeys → SpelledRdn → Bool → Option SpelledName → Result Dir ResultCode
directory_after_rename rows d k rdn delete_old superior = with_renamed_entry rows d k rdn delete_old superior (entry_at d k)
