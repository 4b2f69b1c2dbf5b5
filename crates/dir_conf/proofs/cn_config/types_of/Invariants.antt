use Rattle.std.proofs.Common.{◌≡◌, [], drop, map}
use Rattle.dir_conf.specs.CnConfig.{types_of}
use Rattle.dir_conf.proofs.Turns.{after}
use Rattle.dir_conf.proofs.cn_config.types_of.Given as goal

abbrev pub invariant-loop-entry : goal.invariant-loop-entry
invariant-loop-entry l = types_of [] (map (λ entry. entry.items) l.entries) ≡ after l.types.items (types_of l.macros.items (map (λ entry. entry.items) (drop l.entry-index l.entries)))
