-- Names that have keys.
use Rattle.std.specs.Prelude.{ℕ, List, Result, Ok}
use Rattle.dir_names.specs.declared.fault.NameFault.{NameFault}
use Rattle.dir_names.specs.declared.schema.TypeRow.{TypeRow}
use Rattle.dir_names.specs.NameKeys.{name_key}
use Rattle.dir_names.specs.Names.{SpelledName}
use Rattle.dir_names.specs.Names.Reading.{name_within_limits}
use Rattle.dir_names.specs.Outcome.{ok_or_bad_dn}
use Rattle.dir_names.specs.Results.{and_then}

-- the name that a text spells, if it is within the limits and has a key
abbrev pub keyed_name : List TypeRow → List ℕ → Result SpelledName NameFault
keyed_name rows text = and_then (name_within_limits text) (λ name. and_then (ok_or_bad_dn (name_key rows name)) (λ _. Ok name))
