use Rattle.std.proofs.Common.{◌≡◌, ◌+◌, ◌++◌, ◌≤◌, ℕ, All, List, false, length, map}
use Rattle.dir_ldif.specs.Blocks.{all_blocks, blocks_of}
use Rattle.dir_ldif.specs.Bytes.{is_empty}
use Rattle.dir_ldif.specs.Marks.{ignored}
use Rattle.dir_ldif.specs.Reader.Unfolding.{blocks_to_come}
use Rattle.dir_ldif.proofs.reader.blocks.read_blocks.Given as goal

abbrev pub invariant-loop-blocks : goal.invariant-loop-blocks
invariant-loop-blocks l =
    (l.unfolder.number + length l.rest ≤ 1 + length l.text)
    × (length l.text ≤ 9007199254732800)
    × (l.unfolder.marks ≡ ignored)
    × ((more : List ℕ) → blocks_of (l.text ++ more) ≡ all_blocks (map (λ b. b.items) l.blocks.items) ++ blocks_to_come l.unfolder (l.rest ++ more))
    × All (λ b. is_empty b.items ≡ false) l.blocks.items

abbrev pub decreases-loop-blocks : goal.decreases-loop-blocks
decreases-loop-blocks l = length l.rest
