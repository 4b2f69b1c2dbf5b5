-- Names as spelled, from a node down.
use Rattle.std.specs.Prelude.{ℕ, List, [], ◌∷◌, ◌++◌, take, Option, Some, None}
use Rattle.std.specs.List.{flat_map}
use Rattle.std.specs.FinMap as fin
use Rattle.dir_names.specs.Keys.{DnKeys}
use Rattle.dir_names.specs.Names.{SpelledName}
use Rattle.dir_tree.specs.Content.{Content}
use Rattle.dir_tree.specs.SpelledNames.{own_name_of, prefixes}
use Rattle.dir_tree.specs.Inside.TreePlaces.{Places, entry_on}

-- the own name of the entry on a path, as far as it counts: so many RDNs in the node itself, and one below it
abbrev pub own_in : Places → ℕ → DnKeys → SpelledName
own_in m depth [] = take depth (own_name_of (entry_on m []))
own_in m depth (part ∷ path) = take 1 (own_name_of (entry_on m (part ∷ path)))

-- the own names of the entries on a path, joined, leaf first
abbrev pub name_in : Places → ℕ → DnKeys → SpelledName
name_in m depth path = flat_map (own_in m depth) (prefixes path)

-- the entry of a place, if it isn't empty, with its name; the names of the entries above the node are joined already
abbrev pub named_place : Places → ℕ → SpelledName → DnKeys → Option Content → List (SpelledName × Content)
named_place m depth above path None = []
named_place m depth above path (Some e) = (name_in m depth path ++ above, e) ∷ []

-- every entry with its name, in order of paths
abbrev pub named_places : Places → ℕ → SpelledName → List (SpelledName × Content)
named_places m depth above = flat_map (λ p. named_place m depth above p.0 p.1) (fin.entries m)
