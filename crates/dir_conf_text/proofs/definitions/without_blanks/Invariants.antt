use Rattle.std.proofs.Common.{◌≡◌, length}
use Rattle.dir_conf_text.specs.Definitions.{without_blanks}
use Rattle.dir_conf_text.proofs.definitions.without_blanks.Given as goal

abbrev pub invariant-loop-rest : goal.invariant-loop-rest
invariant-loop-rest l = without_blanks l.rest ≡ without_blanks l.text

abbrev pub decreases-loop-rest : goal.decreases-loop-rest
decreases-loop-rest l = length l.rest
