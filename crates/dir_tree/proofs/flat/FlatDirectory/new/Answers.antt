use Rattle.std.proofs.Common.{sym, subst}
use Rattle.std.specs.FinMap as fin
use Rattle.dir_tree.specs.Dir.{IsClosed}
use Rattle.dir_tree.specs.Moves.{IsShallow}
use Rattle.dir_tree.proofs.DirLemmas.{closed_empty}
use Rattle.dir_tree.proofs.MoveLemmas.{shallow_empty}
use Rattle.dir_tree.proofs.flat.FlatDirectory.new.Goals as goal

pub invariant_of-result : goal.invariant_of-result
invariant_of-result c =
    subst (λ entries. IsClosed (record { suffix = c.args.suffix; entries = fin.from_entries entries }) × IsShallow (record { suffix = c.args.suffix; entries = fin.from_entries entries }))
    (sym c.new.ensures.empty) (closed_empty c.args.suffix, shallow_empty c.args.suffix)
