-- The attributes of an entry, or of one that is made up.
use Rattle.std.specs.Prelude.{Option, Some, None}
use Rattle.std.specs.FinMap as fin
use Rattle.dir_tree.specs.Content.{Content, StoredAttributes}

-- an entry that is made up has no attributes
abbrev pub attributes_of : Option Content → StoredAttributes
attributes_of None = fin.empty
attributes_of (Some entry) = entry.attributes
