-- Subtrees that move (RFC 4511, section 4.9): the key of an entry at or below the one that moves begins with another key afterwards.
use Rattle.std.specs.Prelude.{◌≡◌, ℕ, ◌≤◌, IsSome, max, cond, List, [], ◌∷◌, ◌++◌, map, length, Option, Some, None, ◌⊎◌}
use Rattle.std.specs.FinMap as fin
use Rattle.dir_names.specs.Keys.{DnKeys}
use Rattle.dir_names.specs.Orders.{rdn_key_eq}
use Rattle.dir_tree.specs.Content.{Content}
use Rattle.dir_tree.specs.Dir.{Dir, entry_at, put_entry}

-- what follows the first key in the second, if the second is at or below the first
abbrev pub rest_below : DnKeys → DnKeys → Option DnKeys
rest_below [] k = Some k
rest_below (part ∷ above) [] = None
rest_below (part ∷ above) (first ∷ k) = cond (rdn_key_eq part first) (rest_below above k) None

-- the key; or, if something of it follows, the new key and that
abbrev pub joined_or : DnKeys → DnKeys → Option DnKeys → DnKeys
joined_or new k None = k
joined_or new k (Some rest) = new ++ rest

-- the key, with the old key at its beginning exchanged for the new one
abbrev pub moved_key : DnKeys → DnKeys → DnKeys → DnKeys
moved_key old new k = joined_or new k (rest_below old k)

-- the directory in which all that was at or below the old key is at or below the new one, with this entry at the new key itself
abbrev pub move_subtree : Dir → DnKeys → DnKeys → Content → Dir
move_subtree d old new e = put_entry (record { suffix = d.suffix; entries = fin.from_entries (map (λ p. (moved_key old new p.0, p.1)) (fin.entries d.entries)) }) new e

-- where an entry may move: to its own key, or to one that is free and not below it
abbrev pub MayMoveTo : Dir → DnKeys → DnKeys → Type 0
MayMoveTo d old new = (new ≡ old) ⊎ ((entry_at d new ≡ None) × (rest_below old new ≡ None))

-- ---- how far a subtree reaches down

abbrev pub greatest : List ℕ → ℕ
greatest [] = 0
greatest (n ∷ ns) = max n (greatest ns)

abbrev pub length_or_zero : Option DnKeys → ℕ
length_or_zero None = 0
length_or_zero (Some rest) = length rest

-- by how many RDNs the longest key at or below this one is longer
abbrev pub height_below : Dir → DnKeys → ℕ
height_below d k = greatest (map (λ q. length_or_zero (rest_below k q)) (fin.keys d.entries))

-- each key has at most 64 RDNs
abbrev pub IsShallow : Dir → Type 0
IsShallow d = (k : DnKeys) → IsSome (entry_at d k) → length k ≤ 64
