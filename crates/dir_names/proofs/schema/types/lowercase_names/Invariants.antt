use Rattle.std.proofs.Common.{◌≡◌, map, take}
use Rattle.std.specs.Str.{str_to_ascii_lowercase}
use Rattle.dir_names.proofs.schema.types.lowercase_names.Given as goal

abbrev pub invariant-loop-name : goal.invariant-loop-name
invariant-loop-name l = l.lowered.items ≡ map str_to_ascii_lowercase (take l.name-index l.names)
