use Rattle.dir_acl.proofs.Bounds.Exact.{bounds_exact}
use Rattle.dir_acl.proofs.laws.bounds_are_exact.Goals as goal

pub returns : goal.returns
returns c = bounds_exact
