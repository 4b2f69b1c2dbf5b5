-- The values that an entry lends, in the form in which it keeps them.
use Rattle.std.specs.Prelude.{IsTrue, ⊤}
use Rattle.dir_tree.specs.declared.views.LentValues.{LentValues}
use Rattle.dir_tree.specs.declared.views.LentValues.TheVariants.{Open, Packed}
use Rattle.dir_tree.specs.Content.{StoredValues}
use Rattle.dir_tree.specs.Inside.Packed.{values_of}
use Rattle.dir_tree.specs.Inside.Stored.{are_rising, values_in}

abbrev pub lent_values : LentValues → StoredValues
lent_values (Open values) = values.now
lent_values (Packed values) = values_in (values_of values)

-- packed values are in strictly rising order of their keys
abbrev pub AreInOrder : LentValues → Type 0
AreInOrder (Open values) = ⊤
AreInOrder (Packed values) = IsTrue (are_rising (values_of values))
