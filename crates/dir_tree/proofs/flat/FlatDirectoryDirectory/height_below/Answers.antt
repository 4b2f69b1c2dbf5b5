use Rattle.std.proofs.Common.{ap, ◌∙◌}
use Rattle.dir_tree.specs.Moves.{height_below}
use Rattle.dir_tree.proofs.MoveLemmas.{height_over}
use Rattle.dir_tree.proofs.flat.FlatDirectoryDirectory.height_below.Goals as goal

pub returns : goal.returns
returns c = c.height_in.ensures ∙ height_over c.self.inside.suffix c.self.inside.entries.entries c.args.key.now ∙ ap (λ d. height_below d c.args.key.now) c.self.view_is
