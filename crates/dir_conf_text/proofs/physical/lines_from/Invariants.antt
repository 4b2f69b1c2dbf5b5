use Rattle.std.proofs.Common.{◌≡◌, ◌+◌, ◌-◌, ◌≤◌, drop, length}
use Rattle.std.specs.Option.{option_copied, option_map_or}
use Rattle.dir_names.specs.Cut.{parts_at}
use Rattle.dir_names.specs.Inside.Left.{parts_left}
use Rattle.dir_conf_text.proofs.physical.lines_from.Given as goal

-- after the lines that are yet to be left out come those that are wanted; and each that was left out had a byte
abbrev pub invariant-loop-left : goal.invariant-loop-left
invariant-loop-left l = record {
  same : drop l.left (parts_left 10 (option_copied l.rest)) ≡ drop (l.number - 1) (parts_at 10 l.text);
  few : option_map_or (λ text. length text + l.number) (option_copied l.rest) 0 ≤ length l.text + 1 + l.left;
}

abbrev pub decreases-loop-left : goal.decreases-loop-left
decreases-loop-left l = l.left
