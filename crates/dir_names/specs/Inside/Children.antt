-- A name that is read by the texts of its leaf and of its parent.
use Rattle.std.specs.Prelude.{◌∷◌, ℕ, List, false, Result, Ok}
use Rattle.dir_names.specs.Ascii.{comma}
use Rattle.dir_names.specs.declared.fault.NameFault.{NameFault}
use Rattle.dir_names.specs.declared.schema.TypeRow.{TypeRow}
use Rattle.dir_names.specs.NameKeys.{name_key}
use Rattle.dir_names.specs.Names.{SpelledName}
use Rattle.dir_names.specs.Names.Limits.{is_within_limits, ok_if_within}
use Rattle.dir_names.specs.Names.Reading.{pieces, rdn_of}
use Rattle.dir_names.specs.Outcome.{ok_or_bad_dn}
use Rattle.dir_names.specs.Results.{and_then, option_collect}

-- the name, if it has a key
abbrev pub if_keyed : List TypeRow → SpelledName → Result SpelledName NameFault
if_keyed rows name = and_then (ok_or_bad_dn (name_key rows name)) (λ _. Ok name)

-- the name that the two texts spell, if it is within the limits
abbrev pub child_within_limits : List ℕ → List ℕ → Result SpelledName NameFault
child_within_limits leaf above = ok_if_within is_within_limits (option_collect rdn_of (leaf ∷ pieces comma false above))

-- the same, if it has a key too
abbrev pub keyed_child : List TypeRow → List ℕ → List ℕ → Result SpelledName NameFault
keyed_child rows leaf above = and_then (child_within_limits leaf above) (if_keyed rows)
