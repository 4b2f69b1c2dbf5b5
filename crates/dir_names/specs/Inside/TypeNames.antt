-- An index of the names of a table's types: each in lower case, with the number of a row.
use Rattle.std.specs.Prelude.{◌≡◌, ℕ, Bool, true, cond, List, map, Option, Some, None}
use Rattle.std.specs.FinMap.{find}
use Rattle.std.specs.List.{list_any, position}
use Rattle.std.specs.Option.{option_or}
use Rattle.std.specs.Str.{str_eq_ignore_ascii_case, str_to_ascii_lowercase}
use Rattle.dir_names.specs.declared.schema.TypeRow.{TypeRow}
use Rattle.dir_names.specs.Orders.{bytes_cmp}
use Rattle.dir_names.specs.Sorted.{rises}

abbrev pub are_rising : List (List ℕ × ℕ) → Bool
are_rising names = rises bytes_cmp (map (λ n. n.0) names)

-- the number under which a text is found, in any ASCII case
abbrev pub row_number : List (List ℕ × ℕ) → List ℕ → Option ℕ
row_number names t = find bytes_cmp (str_to_ascii_lowercase t) names

abbrev pub is_named : List ℕ → TypeRow → Bool
is_named t row = list_any (λ name. str_eq_ignore_ascii_case name t) row.names

-- in strictly rising order, and a text is found under the number of the first row that it names
abbrev pub IsIndex : List TypeRow → List (List ℕ × ℕ) → Type 0
IsIndex rows names = (are_rising names ≡ true) × ((t : List ℕ) → row_number names t ≡ position (is_named t) rows)

-- the texts that pass a test are found under this number, unless they were found before
abbrev pub Gains : (List ℕ → Bool) → ℕ → List (List ℕ × ℕ) → List (List ℕ × ℕ) → Type 0
Gains test row old new = (t : List ℕ) → row_number new t ≡ option_or (row_number old t) (cond (test t) (Some row) None)
