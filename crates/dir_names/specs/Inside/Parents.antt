-- The key of a name that also serves as that of its parent.
use Rattle.std.specs.Prelude.{◌≡◌, ◌≤◌, ◌-◌, ℕ, Bool, true, false, List, length, take}
use Rattle.dir_names.specs.Inside.SortTexts.{name_sort}
use Rattle.dir_names.specs.Keys.{DnKeys}

-- the parts without the leaf
abbrev pub parts_above : DnKeys → DnKeys
parts_above parts = take (length parts - 1) parts

abbrev pub parts_or_above : Bool → DnKeys → DnKeys
parts_or_above true parts = parts_above parts
parts_or_above false parts = parts

-- the text of a name, which begins with that of its parent, of this length
abbrev pub AreSortTexts : DnKeys → List ℕ → ℕ → Type 0
AreSortTexts parts sort above = (sort ≡ name_sort parts) × (above ≤ length sort) × (take above sort ≡ name_sort (parts_above parts))
