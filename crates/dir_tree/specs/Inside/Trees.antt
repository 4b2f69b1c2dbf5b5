-- A tree of nodes as a directory.
use Rattle.std.specs.Prelude.{◌≡◌, List, [], ◌∷◌, ◌++◌, Option, Some, None}
use Rattle.std.specs.List.{flat_map}
use Rattle.std.specs.FinMap as fin
use Rattle.dir_names.specs.Keys.{DnKeys, RdnKeys}
use Rattle.dir_tree.specs.Content.{Content}
use Rattle.dir_tree.specs.Dir.{Dir, IsClosed, dir_over}
use Rattle.dir_tree.specs.Moves.{IsShallow}
use Rattle.dir_tree.specs.Inside.TreePlaces.{Places}

-- the entry of a place, if it isn't empty, under a key that begins with the suffix
abbrev pub entry_below : DnKeys → DnKeys → Option Content → List (DnKeys × Content)
entry_below suffix path None = []
entry_below suffix path (Some e) = (suffix ++ path, e) ∷ []

-- the entries of these places, in the same order
abbrev pub entries_below : DnKeys → List (DnKeys × Option Content) → List (DnKeys × Content)
entries_below suffix places = flat_map (λ p. entry_below suffix p.0 p.1) places

abbrev pub root_places : Option Places → List (DnKeys × Option Content)
root_places None = []
root_places (Some m) = fin.entries m

-- the directory of a tree: each entry has the key of its path, below the suffix
abbrev pub tree_dir : DnKeys → Option Places → Dir
tree_dir suffix root = dir_over suffix (entries_below suffix (root_places root))

-- the key has more parts than the suffix with which it begins
abbrev pub IsBelow : DnKeys → DnKeys → Type 0
IsBelow suffix k = (first : RdnKeys) × (rest : DnKeys) × (k ≡ suffix ++ first ∷ rest)

-- no place is empty
abbrev pub IsFilled : Option Places → Type 0
IsFilled None = Unit {0}
IsFilled (Some m) = (path : DnKeys) → fin.get m path ≡ Some None → ⊥

pub record IsTree (suffix : DnKeys) (root : Option Places) : Type 0 where
  pub closed : IsClosed (tree_dir suffix root)
  pub shallow : IsShallow (tree_dir suffix root)
  pub filled : IsFilled root
