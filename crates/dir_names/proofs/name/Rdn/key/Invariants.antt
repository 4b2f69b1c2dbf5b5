use Rattle.std.proofs.Common.{◌≡◌, drop}
use Rattle.dir_names.specs.NameKeys.{rdn_key}
use Rattle.dir_names.proofs.KeyLemmas.{key_from}
use Rattle.dir_names.proofs.name.Rdn.key.Given as goal

abbrev pub invariant-loop-pair : goal.invariant-loop-pair
invariant-loop-pair l = rdn_key l.schema l.self ≡ key_from l.schema l.key (drop l.pair-index l.pair-items)
