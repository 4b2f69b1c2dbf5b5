use Rattle.std.proofs.Common.{◌≡◌, ◌≤◌, length, take, reverse}
use Rattle.dir_names.specs.NameKeys.{rdn_key, name_key}
use Rattle.dir_names.specs.Results.{option_collect}
use Rattle.dir_names.proofs.AllLemmas.{prefixed}
use Rattle.dir_names.proofs.name.Dn.key_of_rdns.Given as goal

abbrev pub invariant-loop-at : goal.invariant-loop-at
invariant-loop-at l = (l.at ≤ length l.self) × (name_key l.schema l.self ≡ prefixed l.parts.items (option_collect (rdn_key l.schema) (reverse (take l.at l.self))))

abbrev pub decreases-loop-at : goal.decreases-loop-at
decreases-loop-at l = l.at
