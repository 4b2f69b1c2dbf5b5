-- The attributes of an entry that an operation can change.
use Rattle.std.specs.Prelude.{◌≡◌, Bool, cond, false, List, map, None}
use Rattle.std.specs.List.{list_any}
use Rattle.std.specs.FinMap as fin
use Rattle.dir_names.specs.Attr.{Attr}
use Rattle.dir_names.specs.Keys.{RdnKeys}
use Rattle.dir_names.specs.Orders.{attr_eq}
use Rattle.dir_tree.specs.Content.{StoredAttributes}
use Rattle.dir_change.specs.Inside.Looked.{is_one_of}

-- the part has what the attributes have under these keys, and nothing else
abbrev pub IsPartAt : List Attr → StoredAttributes → StoredAttributes → Type 0
IsPartAt keys xs part = (q : Attr) → fin.get part q ≡ cond (is_one_of q keys) (fin.get xs q) None

-- the types of an RDN
abbrev pub types_of : RdnKeys → List Attr
types_of rdn = map (λ p. p.0) rdn

abbrev pub has_type : RdnKeys → Attr → Bool
has_type rdn q = list_any (λ p. attr_eq p.0 q) rdn

-- the attributes are the same under each key that is a type of neither RDN
abbrev pub AreSameApartFrom : RdnKeys → RdnKeys → StoredAttributes → StoredAttributes → Type 0
AreSameApartFrom rdn other xs ys = (q : Attr) → has_type rdn q ≡ false → has_type other q ≡ false → fin.get xs q ≡ fin.get ys q
