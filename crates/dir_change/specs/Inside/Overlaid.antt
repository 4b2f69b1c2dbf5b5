-- Attributes where those under some keys are taken from elsewhere.
use Rattle.std.specs.Prelude.{List, [], ◌∷◌}
use Rattle.std.specs.FinMap as fin
use Rattle.dir_names.specs.Attr.{Attr}
use Rattle.dir_tree.specs.Content.{StoredAttributes}
use Rattle.dir_tree.specs.Slots.{with_slot}

-- under each of these keys what the second have there, under all others what the first have
abbrev pub overlaid : StoredAttributes → List Attr → StoredAttributes → StoredAttributes
overlaid xs [] fs = xs
overlaid xs (k ∷ ks) fs = with_slot (overlaid xs ks fs) k (fin.get fs k)
