use Rattle.dir_tree.proofs.MoveLemmas.{AreMoved}
use Rattle.dir_tree.proofs.flat.moved_entries.Given as goal

abbrev pub invariant-loop-key : goal.invariant-loop-key
invariant-loop-key l = AreMoved l.old l.new l.key-iterator.iter l.entries.entries l.moved.entries
