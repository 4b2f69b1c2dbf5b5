use Rattle.std.proofs.Common.{◌∙◌}
use Rattle.dir_tree.specs.Moves.{rest_below}
use Rattle.dir_tree.proofs.TreeWrites.{stripped}
use Rattle.dir_tree.proofs.tree.path_below.Goals as goal

pub returns-clause-value : goal.returns-clause-value
returns-clause-value c = stripped c.parts-2.result.now c.parts.result.now c.strip_prefix.result c.strip_prefix.ensures.cases ∙ (λ i. rest_below (c.parts-2.ensures.value i) (c.parts.ensures.value i))
