use Rattle.std.proofs.Common.{◌≡◌, ◌+◌, ◌++◌, drop, length}
use Rattle.dir_tree.proofs.flat.moved_key.Given as goal

abbrev pub invariant-loop-part : goal.invariant-loop-part
invariant-loop-part l = l.moved ++ drop (length l.old + l.part-index) l.key ≡ l.new ++ drop (length l.old) l.key
