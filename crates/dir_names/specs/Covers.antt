-- When a description covers another: the attributes that the second describes are among those of the first (RFC 4512, section 2.5.2.1, with all options taken as
-- tagging options).
use Rattle.std.specs.Prelude.{◌≡◌, Bool, ◌&&◌, All, Contains}
use Rattle.std.specs.List.{list_any, list_all}
use Rattle.dir_names.specs.Attr.{Attr}
use Rattle.dir_names.specs.Orders.{bytes_eq}

-- the types are the same, and each option of the first is one of the second
abbrev pub Covers : Attr → Attr → Type 0
Covers a b = (a.attr_type ≡ b.attr_type) × All (Contains b.options) a.options

-- the same as a test
abbrev pub covers : Attr → Attr → Bool
covers a b = bytes_eq a.attr_type b.attr_type && list_all (λ option. list_any (λ other. bytes_eq other option) b.options) a.options
