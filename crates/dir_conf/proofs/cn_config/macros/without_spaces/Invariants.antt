use Rattle.std.proofs.Common.{◌≡◌, length}
use Rattle.dir_conf.specs.CnConfig.Macros.{without_spaces}
use Rattle.dir_conf.proofs.cn_config.macros.without_spaces.Given as goal

abbrev pub invariant-loop-rest : goal.invariant-loop-rest
invariant-loop-rest l = without_spaces l.rest ≡ without_spaces l.text

abbrev pub decreases-loop-rest : goal.decreases-loop-rest
decreases-loop-rest l = length l.rest
