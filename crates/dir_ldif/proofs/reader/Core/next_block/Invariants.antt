use Rattle.std.proofs.Common.{◌≡◌, ◌+◌, ◌*◌, ◌++◌, ◌≤◌, ℕ, List, length}
use Rattle.std.specs.Io.KnownBytes.{Consumes}
use Rattle.dir_ldif.specs.declared.reader.Place.TheVariants.{Reading}
use Rattle.dir_ldif.specs.Reader.Answers.{to_read, bytes_ahead}
use Rattle.dir_ldif.proofs.LongLineSoon.{Takes}
use Rattle.dir_ldif.proofs.reader.Core.next_block.Given as goal

abbrev pub invariant-loop-block : goal.invariant-loop-block
invariant-loop-block g l =
    (l.self.place ≡ Reading)
    × g.S.Source.is_same l.fn.source l.source
    × (g.S.Source.failures l.source ≡ g.S.Source.failures l.fn.source)
    × ((bytes : List ℕ)
    × Consumes (g.S.Source.left l.fn.source) (g.S.Source.left l.source) bytes
    × ((text : List ℕ) → to_read l.fn.self (bytes ++ text) ≡ to_read l.self text)
    × (l.fn.self.turns ≤ l.self.turns + length bytes)
    × (length bytes + 8192 * l.self.turns ≤ 8192 * l.fn.self.turns)
    × Takes l.fn.self bytes l.self)
    × (bytes_ahead l.self ≤ bytes_ahead l.fn.self)

abbrev pub decreases-loop-block : goal.decreases-loop-block
decreases-loop-block g l = l.self.turns
