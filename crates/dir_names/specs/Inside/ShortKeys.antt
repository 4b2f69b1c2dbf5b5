-- The keys of values that are found without their rule's work.
use Rattle.std.specs.Prelude.{◌≡◌, ℕ, Ok, Result, List}
use Rattle.std.specs.Str.{str_to_ascii_lowercase}
use Rattle.dir_names.specs.declared.fault.NameFault.{NameFault}
use Rattle.dir_names.specs.declared.value.pushed.Way.{Way}
use Rattle.dir_names.specs.declared.value.pushed.Way.TheVariants.{Same, Lowercase, Squeezed, Dialed, ByRule}
use Rattle.dir_names.specs.ValueKeys.Spaces.{without_extra_spaces, without_spaces_and_hyphens}

-- the key is the value, or the value in lower case, or that without extra spaces, or that without spaces and hyphens
abbrev pub IsKeyByWay : Result (List ℕ) NameFault → List ℕ → Way → Type 0
IsKeyByWay wanted value Same = wanted ≡ Ok value
IsKeyByWay wanted value Lowercase = wanted ≡ Ok (str_to_ascii_lowercase value)
IsKeyByWay wanted value Squeezed = wanted ≡ Ok (without_extra_spaces (str_to_ascii_lowercase value))
IsKeyByWay wanted value Dialed = wanted ≡ Ok (without_spaces_and_hyphens (str_to_ascii_lowercase value))
IsKeyByWay wanted value ByRule = Unit {0}
