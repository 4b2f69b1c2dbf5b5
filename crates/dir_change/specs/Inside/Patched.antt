-- A part of what is under a key, exchanged for another.
use Rattle.std.specs.Prelude.{cond, Option, Some, None}
use Rattle.std.specs.FinMap as fin
use Rattle.dir_names.specs.Orders.{bytes_eq}
use Rattle.dir_tree.specs.Content.{Stored, StoredValues}
use Rattle.dir_change.specs.Modify.{values_with, values_without}

-- the values without the first of these, and with the second
abbrev pub patched_values : StoredValues → StoredValues → StoredValues → StoredValues
patched_values values gone come = values_with (values_without values (fin.entries gone)) (fin.entries come)

-- an attribute where a part of it, the first, becomes the second
abbrev pub patched : Option Stored → Option Stored → Option Stored → Option Stored
patched slot part None = None
patched None part (Some b) = Some b
patched (Some x) None (Some b) = Some b
patched (Some x) (Some a) (Some b) = cond (bytes_eq a.spelling b.spelling) (Some (record { spelling = x.spelling; values = patched_values x.values a.values b.values })) (Some b)
