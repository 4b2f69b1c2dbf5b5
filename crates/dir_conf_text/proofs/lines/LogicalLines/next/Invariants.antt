use Rattle.std.proofs.Common.{◌≡◌, ◌+◌, ◌≤◌, None, length, map}
use Rattle.std.specs.Option.{option_copied, option_map_or}
use Rattle.dir_names.specs.Inside.Left.{parts_left}
use Rattle.dir_names.specs.Trimming.{without_return}
use Rattle.dir_conf_text.specs.Lines.{lines_after}
use Rattle.dir_conf_text.proofs.lines.LogicalLines.next.Given as goal

-- the lines that were to come are those that begin with this one, so far; and the lines are fewer than the text's bytes
abbrev pub invariant-loop-self : goal.invariant-loop-self
invariant-loop-self l = record {
  same : l.fn.self ≡ lines_after l.self-inside.joining (l.number, l.line.items) l.self-inside.number (map without_return (parts_left 10 (option_copied l.self-inside.left)));
  none : l.self-inside.begun ≡ None;
  few : l.self-inside.number + option_map_or (λ text. length text + 1) (option_copied l.self-inside.left) 0 ≤ 16777220;
}

abbrev pub decreases-loop-self : goal.decreases-loop-self
decreases-loop-self l = option_map_or (λ text. length text + 1) (option_copied l.self-inside.left) 0
