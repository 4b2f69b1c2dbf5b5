-- Why an entry can't be added at a path below a node.
use Rattle.std.specs.Prelude.{◌≡◌, IsSome, [], ◌∷◌, length, take, None, Some, ⊤}
use Rattle.std.specs.FinMap as fin
use Rattle.dir_names.specs.Keys.{DnKeys, RdnKeys}
use Rattle.dir_tree.specs.Content.{Content}
use Rattle.dir_tree.specs.Inside.TreePlaces.{Places, entry_on}
use Rattle.dir_tree.specs.declared.directory.NotAdded.{NotAdded}
use Rattle.dir_tree.specs.declared.directory.NotAdded.TheVariants.{Taken, NoParent, Memory}

-- a node without children
abbrev pub leaf_places : Content → Places
leaf_places e = fin.insert fin.empty [] (Some e)

-- the path without its last part
abbrev pub path_above : RdnKeys → DnKeys → DnKeys
path_above first rest = take (length rest) (first ∷ rest)

abbrev pub IsNotAddedOn : Places → RdnKeys → DnKeys → Content → NotAdded → Type 0
IsNotAddedOn m first rest e Taken = IsSome (entry_on m (first ∷ rest))
IsNotAddedOn m first rest e (NoParent back) = (back ≡ e) × (entry_on m (first ∷ rest) ≡ None) × (entry_on m (path_above first rest) ≡ None)
IsNotAddedOn m first rest e Memory = ⊤
