use Rattle.std.proofs.Common.{◌≡◌, length, take}
use Rattle.dir_tree.specs.Inside.Patterns.{TakesLines}
use Rattle.dir_tree.proofs.packed.PackedValues.with_lines.Given as goal

abbrev pub invariant-loop-number : goal.invariant-loop-number
invariant-loop-number l = (l.start ≡ length l.fn.self) × TakesLines l.schema l.lines l.attribute (take l.number-index l.numbers) l.fn.self l.values
