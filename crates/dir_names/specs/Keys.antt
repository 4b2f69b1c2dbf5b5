-- Keys of names: the keys of their RDNs, root first.
use Rattle.std.specs.Prelude.{◌≡◌, ℕ, Bool, cond, List, [], ◌∷◌, ◌++◌, map, take, length, Option, Some, None, is_some, Result, Ok, Err}
use Rattle.std.specs.FinMap.{find, put}
use Rattle.dir_names.specs.declared.fault.NameFault.{NameFault}
use Rattle.dir_names.specs.declared.fault.NameFault.TheVariants.{BadDn}
use Rattle.dir_names.specs.Attr.{Attr}
use Rattle.dir_names.specs.Orders.{attr_cmp}
use Rattle.dir_names.specs.Sorted.{rises}

-- what an RDN is compared by: the set of its pairs of attribute and value key
abbrev pub RdnKeys : Type 0
RdnKeys = List (Attr × List ℕ)

-- the pairs are in the order of their attributes, and no attribute occurs twice
abbrev pub is_rdn_key : RdnKeys → Bool
is_rdn_key pairs = rises attr_cmp (map (λ p. p.0) pairs)

-- the set with one pair more, unless its attribute is there already (RFC 4512, section 2.3.1: no two values of an RDN have the same type)
abbrev pub with_pair : Attr → List ℕ → RdnKeys → Result RdnKeys NameFault
with_pair attr value pairs = cond (is_some (find attr_cmp attr pairs)) (Err BadDn) (Ok (put attr_cmp attr value pairs))

-- what a name is compared by
abbrev pub DnKeys : Type 0
DnKeys = List RdnKeys

-- the name is `above`, or an entry of this name would be below it
abbrev pub IsAtOrBelow : DnKeys → DnKeys → Type 0
IsAtOrBelow key above = (rest : DnKeys) × (key ≡ above ++ rest)

-- the first name is that of the parent of the second
abbrev pub IsParent : DnKeys → DnKeys → Type 0
IsParent above key = (part : RdnKeys) × (key ≡ above ++ part ∷ [])

-- the name of the parent, if there is one
abbrev pub parent_of : DnKeys → Option DnKeys
parent_of [] = None
parent_of (part ∷ parts) = Some (take (length parts) (part ∷ parts))
