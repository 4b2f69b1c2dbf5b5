-- The key of a value where it is appended to a text, unless it is the value itself or that of a name.
use Rattle.std.specs.Prelude.{◌≡◌, ℕ, Bool, true, false, List, ◌++◌, Result, Ok}
use Rattle.dir_names.specs.declared.fault.NameFault.{NameFault}
use Rattle.dir_names.specs.declared.value.ValueKey.{ValueKey}
use Rattle.dir_names.specs.declared.value.ValueKey.TheVariants as key
use Rattle.dir_names.specs.declared.value.pushed.PushedKey.{PushedKey}
use Rattle.dir_names.specs.declared.value.pushed.PushedKey.TheVariants.{Same, Appended, Name}

-- the key of a value, by what was answered and what was appended
abbrev pub pushed_key : PushedKey → List ℕ → List ℕ → ValueKey
pushed_key Same value more = key.Text value
pushed_key Appended value more = key.Text more
pushed_key (Name name) value more = key.Name name

abbrev pub is_appended : PushedKey → Bool
is_appended Same = false
is_appended Appended = true
is_appended (Name name) = false

-- the text has grown by `more`, and the key that is wanted is the one answered
abbrev pub Pushes : Result ValueKey NameFault → List ℕ → List ℕ → List ℕ → PushedKey → Type 0
Pushes wanted value old new pushed = (more : List ℕ) × (new ≡ old ++ more) × (wanted ≡ Ok (pushed_key pushed value more))
