-- What one step of an unfolder does to the blocks to come.
use Rattle.std.specs.Prelude.{◌≡◌, Bool, if◌then◌else◌, List, [], Result, Ok, Err}
use Rattle.dir_ldif.specs.declared.faults.StreamFault.{StreamFault}
use Rattle.dir_ldif.specs.declared.reader.unfolder.Unfolder.{Unfolder}
use Rattle.dir_ldif.specs.LogicalLines.{Line, logical_lines}
use Rattle.dir_ldif.specs.Remainder.{FailsAtOnce, Remainder, remainder_from, then_rest}
use Rattle.dir_ldif.specs.Reader.Unfolding.{to_come_with}

-- the blocks to come where the block in hand has ended and these physical lines follow
abbrev pub after_block : Unfolder → List Line → Remainder
after_block u lines = then_rest u.block.items (remainder_from u.marks u.begun [] (logical_lines lines))

-- a physical line was taken, and either ended the block or did not: whatever lines follow, the blocks that were to come still are, or end in
-- the fault
abbrev pub TakesLine : (List Line → Remainder) → Result Bool StreamFault → Unfolder → Type 0
TakesLine before (Ok ends) u = (more : List Line) → before more ≡ (if ends then after_block u more else to_come_with u more)
TakesLine before (Err fault) u = (more : List Line) → FailsAtOnce fault (before more)
