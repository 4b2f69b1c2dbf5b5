-- The name of an entry as spelled: an entry has only its own name, and the entries above it have the rest.
use Rattle.std.specs.Prelude.{ℕ, ◌+◌, cond, List, [], map, reverse, take, length, Option, Some, None}
use Rattle.std.specs.List.{flat_map, range_with_len}
use Rattle.std.specs.FinMap as fin
use Rattle.dir_names.specs.Keys.{DnKeys}
use Rattle.dir_names.specs.Names.{SpelledName}
use Rattle.dir_names.specs.Orders.{dn_key_eq}
use Rattle.dir_tree.specs.Content.{Content}
use Rattle.dir_tree.specs.Dir.{Dir, entry_at}

-- the prefixes of a key, the longest, which is the key itself, first
abbrev pub prefixes : DnKeys → List DnKeys
prefixes k = reverse (map (λ n. take n k) (range_with_len 0 (length k + 1)))

-- the own name of an entry; nothing if there is no entry
abbrev pub own_name_of : Option Content → SpelledName
own_name_of None = []
own_name_of (Some e) = e.own

-- how many RDNs of an entry's own name count: for the suffix's entry as many as its key has, for any other entry one
abbrev pub own_depth : DnKeys → DnKeys → ℕ
own_depth suffix k = cond (dn_key_eq k suffix) (length k) 1

-- the own name of the entry at a key, as far as it counts; nothing if there is no entry. In a well-formed directory the whole own name counts
abbrev pub own_name_at : Dir → DnKeys → SpelledName
own_name_at d k = take (own_depth d.suffix k) (own_name_of (entry_at d k))

-- the name of an entry as spelled on its path: the own names of the entries from it up to the suffix's, joined, leaf first
abbrev pub spelled_name : Dir → DnKeys → SpelledName
spelled_name d k = flat_map (own_name_at d) (prefixes k)

-- every entry with its name as spelled, in order of keys
abbrev pub named_entries : Dir → List (SpelledName × Content)
named_entries d = map (λ p. (spelled_name d p.0, p.1)) (fin.entries d.entries)

-- what an entry keeps of its name: all RDNs for the suffix's entry, else the leaf RDN
abbrev pub own_rdns : DnKeys → DnKeys → SpelledName → SpelledName
own_rdns suffix k name = cond (dn_key_eq k suffix) name (take 1 name)
