use Rattle.dir_acl.proofs.Bounds.Judged.{known_granted}
use Rattle.dir_acl.proofs.laws.known_rules_are_granted.Goals as goal

pub returns : goal.returns
returns c = λ d root rules q p. known_granted d q root rules p
