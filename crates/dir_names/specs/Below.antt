-- Whether the key of a name begins with another (`IsAtOrBelow`), as a test.
use Rattle.std.specs.Prelude.{Bool, length, take}
use Rattle.dir_names.specs.Keys.{DnKeys}
use Rattle.dir_names.specs.Orders.{dn_key_eq}

-- the key begins with the other
abbrev pub is_at_or_below : DnKeys → DnKeys → Bool
is_at_or_below k above = dn_key_eq (take (length above) k) above
