use Rattle.std.proofs.Common.{◌≡◌, ◌+◌, ◌≤◌, ◌++◌, length, map}
use Rattle.std.specs.Option.{option_copied, option_map_or}
use Rattle.dir_names.specs.Cut.{parts_at}
use Rattle.dir_names.specs.Inside.Left.{parts_left}
use Rattle.dir_names.specs.Trimming.{without_return}
use Rattle.dir_conf_text.specs.PhysicalLines.{continued, folded}
use Rattle.dir_conf_text.proofs.physical.folded.Given as goal

-- the lines so far, and those of the rest that go on with them, are the whole line; and they are no more than its bytes
abbrev pub invariant-loop-rest : goal.invariant-loop-rest
invariant-loop-rest l = record {
  same :
      folded (map without_return (parts_at 10 l.text))
      ≡ map (λ line. line.now) l.lines.items ++ continued (map without_return (parts_left 10 (option_copied l.rest)));
  few : length l.lines.items + option_map_or (λ text. length text + 1) (option_copied l.rest) 0 ≤ length l.text + 1;
}

abbrev pub decreases-loop-rest : goal.decreases-loop-rest
decreases-loop-rest l = option_map_or (λ text. length text + 1) (option_copied l.rest) 0
