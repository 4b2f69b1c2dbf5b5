-- Lines with the keys of their values, and in which order they may be added: first all descriptions, then the values in any order.
use Rattle.std.specs.Prelude.{◌≡◌, Bool, Ok, true, not, ◌&&◌, List, [], ◌∷◌}
use Rattle.std.specs.FinMap as fin
use Rattle.dir_names.specs.NameKeys.{value_key_of}
use Rattle.dir_names.specs.declared.schema.TypeRow.{TypeRow}
use Rattle.dir_tree.specs.declared.lines.KeyedLine.{KeyedLine}
use Rattle.dir_tree.specs.Content.{StoredAttributes, has_value}
use Rattle.dir_tree.specs.NewEntry.{give_distinct_values, with_description, with_line, with_lines}

-- the key of a line is that of its value
abbrev pub HasKey : List TypeRow → KeyedLine → Type 0
HasKey rows line = value_key_of rows line.description.key line.bytes ≡ Ok line.key

-- the attributes with the descriptions of all lines
abbrev pub with_descriptions : StoredAttributes → List KeyedLine → StoredAttributes
with_descriptions xs [] = xs
with_descriptions xs (l ∷ ls) = with_descriptions (with_description xs l.description) ls

-- each line, when it is added, gives a value that is not there yet
abbrev pub have_new_values : StoredAttributes → List KeyedLine → Bool
have_new_values xs [] = true
have_new_values xs (l ∷ ls) = not (has_value xs l.description.key l.key) && have_new_values (with_line xs l) ls

-- adding the values of `ls` to `xs` gives the attributes of all the lines `all`, and finds a value given twice exactly if two lines of `all` give one value
abbrev pub IsArranged : List KeyedLine → StoredAttributes → List KeyedLine → Type 0
IsArranged all xs ls = (with_lines xs ls ≡ with_lines fin.empty all) × (have_new_values xs ls ≡ give_distinct_values all)
