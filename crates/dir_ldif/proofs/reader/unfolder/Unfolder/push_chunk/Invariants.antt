use Rattle.std.proofs.Common.{◌≡◌, ◌+◌, ◌++◌, ◌≤◌, ℕ, List, false, length}
use Rattle.dir_ldif.specs.Marks.{ignored}
use Rattle.dir_ldif.specs.Reader.Unfolding.{to_come}
use Rattle.dir_ldif.proofs.reader.unfolder.Unfolder.push_chunk.Given as goal

abbrev pub invariant-loop-text : goal.invariant-loop-text
invariant-loop-text l =
    (l.self.number + length l.rest ≤ l.fn.self.number + length l.chunk)
    × (length l.rest ≤ length l.chunk)
    × ((front : List ℕ) × (l.chunk ≡ front ++ l.rest) × ((text : List ℕ) → to_come l.fn.self (front ++ text) ≡ to_come l.self text))
    × ((text : List ℕ) → to_come l.fn.self (l.chunk ++ text) ≡ to_come l.self (l.rest ++ text))
    × (l.self.marks.is_over ≡ false)
    × (l.fn.self.marks ≡ ignored → l.self.marks ≡ ignored)

abbrev pub decreases-loop-text : goal.decreases-loop-text
decreases-loop-text l = length l.rest
