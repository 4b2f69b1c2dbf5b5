use Rattle.std.proofs.Common.{◌≡◌, true, take}
use Rattle.std.specs.List.{list_all}
use Rattle.dir_names.specs.Names.Limits.{is_rdn_within_limit}
use Rattle.dir_names.specs.Names.Sound.{is_sound_rdn}
use Rattle.dir_names.proofs.name.Dn.of_rdns.Given as goal

abbrev pub invariant-loop-rdn : goal.invariant-loop-rdn
invariant-loop-rdn l = (list_all is_sound_rdn (take l.rdn-index l.rdn-items) ≡ true) × (list_all is_rdn_within_limit (take l.rdn-index l.rdn-items) ≡ true)
