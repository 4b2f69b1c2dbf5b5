use Rattle.dir_acl.proofs.Bounds.Decided.{decided_granted}
use Rattle.dir_acl.proofs.laws.decided_rules_are_granted.Goals as goal

pub returns : goal.returns
returns c = λ closed d root rules q p e. decided_granted closed d q root rules p e
