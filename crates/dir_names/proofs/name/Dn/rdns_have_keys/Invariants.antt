use Rattle.std.proofs.Common.{◌≡◌, true, take, is_some}
use Rattle.std.specs.List.{list_all}
use Rattle.dir_names.specs.NameKeys.{rdn_key}
use Rattle.dir_names.proofs.name.Dn.rdns_have_keys.Given as goal

abbrev pub invariant-loop-rdn : goal.invariant-loop-rdn
invariant-loop-rdn l = list_all (λ r. is_some (rdn_key l.schema r)) (take l.rdn-index l.self) ≡ true
