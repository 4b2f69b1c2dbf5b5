-- Values that are added or removed one after the other.
use Rattle.std.specs.Prelude.{Bool, true, not, ◌&&◌, [], ◌∷◌}
use Rattle.std.specs.FinMap as fin
use Rattle.dir_tree.specs.Content.{StoredValues}
use Rattle.dir_change.specs.Modify.{KeyedValues}

-- none of the values is there when it is added
abbrev pub are_new : StoredValues → KeyedValues → Bool
are_new values [] = true
are_new values (p ∷ ps) = not (fin.contains_key values p.0) && are_new (fin.insert values p.0 p.1) ps

-- each of the values is there when it is removed
abbrev pub are_there : StoredValues → KeyedValues → Bool
are_there values [] = true
are_there values (p ∷ ps) = fin.contains_key values p.0 && are_there (fin.remove values p.0) ps

abbrev pub without_each : StoredValues → KeyedValues → StoredValues
without_each values [] = values
without_each values (p ∷ ps) = without_each (fin.remove values p.0) ps
