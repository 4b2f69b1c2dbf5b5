-- A directory (RFC 4512, section 2.1): a suffix, and a finite map from the keys of names to the contents of entries.
use Rattle.std.specs.Prelude.{Bool, false, ◌||◌, List, [], ◌∷◌, ◌++◌, Option, Some, None, is_some, IsSome, IsTrue}
use Rattle.std.specs.List.{list_any}
use Rattle.std.specs.FinMap as fin
use Rattle.dir_names.specs.Keys.{DnKeys, RdnKeys, parent_of}
use Rattle.dir_names.specs.Orders.{dn_key_cmp, dn_key_eq}
use Rattle.dir_tree.specs.Content.{Content}

pub record Dir : Type 0 where
  pub suffix : DnKeys
  pub entries : fin.FinMap dn_key_cmp Content

-- the directory of these entries, as an ordered map lists them
abbrev pub dir_over : DnKeys → List (DnKeys × Content) → Dir
dir_over suffix entries = record { suffix = suffix; entries = fin.from_entries entries }

-- the entry at a key, if there is one
abbrev pub entry_at : Dir → DnKeys → Option Content
entry_at d k = fin.get d.entries k

-- the directory with this entry at the key
abbrev pub put_entry : Dir → DnKeys → Content → Dir
put_entry d k e = record { suffix = d.suffix; entries = fin.insert d.entries k e }

-- the directory with nothing at the key
abbrev pub remove_entry : Dir → DnKeys → Dir
remove_entry d k = record { suffix = d.suffix; entries = fin.remove d.entries k }

-- whether there is a key, and an entry at it
abbrev pub is_there : Dir → Option DnKeys → Bool
is_there d None = false
is_there d (Some k) = is_some (entry_at d k)

-- whether the key is the suffix, or there is an entry at its parent's key
abbrev pub has_parent : Dir → DnKeys → Bool
has_parent d k = dn_key_eq k d.suffix || is_there d (parent_of k)

-- each entry but the suffix's has its parent in the map
abbrev pub IsClosed : Dir → Type 0
IsClosed d = (k : DnKeys) → IsSome (entry_at d k) → IsTrue (has_parent d k)

-- there is an entry directly below the key
abbrev pub HasChild : Dir → DnKeys → Type 0
HasChild d k = (part : RdnKeys) × IsSome (entry_at d (k ++ part ∷ []))

abbrev pub is_key : DnKeys → Option DnKeys → Bool
is_key k None = false
is_key k (Some p) = dn_key_eq p k

-- the same as a test
abbrev pub has_child : Dir → DnKeys → Bool
has_child d k = list_any (λ q. is_key k (parent_of q)) (fin.keys d.entries)
