use Rattle.std.proofs.Common.{◌≡◌, ◌++◌, map}
use Rattle.dir_tree.specs.Dir.{Dir, dir_over}
use Rattle.dir_tree.specs.SpelledNames.{named_entries, spelled_name}
use Rattle.dir_tree.proofs.Walk.{Ahead}
use Rattle.dir_tree.proofs.flat.walk_over.Given as goal

abbrev pub invariant-loop-key : goal.invariant-loop-key
invariant-loop-key l =
    let d : Dir = dir_over l.suffix l.entries.entries in
    record {
      so_far : map (λ item. (item.0, item.1.now)) l.walk.items ++ map (λ p. (spelled_name d p.0, p.1)) l.key-iterator ≡ named_entries d;
      ahead : Ahead d (map (λ own. own.now) l.path.items) l.key-iterator;
    }
