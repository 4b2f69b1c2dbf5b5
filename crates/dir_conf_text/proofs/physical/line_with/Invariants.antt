use Rattle.std.proofs.Common.{◌≡◌, ◌+◌, drop, map}
use Rattle.dir_conf_text.specs.Inside.Wanting.{line_of_last, wanting_of}
use Rattle.dir_conf_text.specs.declared.arguments.Spot.TheVariants.{Between}
use Rattle.dir_conf_text.proofs.physical.line_with.Given as goal

-- the line is that of the last word of the rest which is wanting
abbrev pub invariant-loop-line : goal.invariant-loop-line
invariant-loop-line l = record {
  same :
      line_of_last (Between, l.wanted) l.initial.number (map (λ line. line.now) l.lines)
      ≡ line_of_last (wanting_of l.wanting) l.number (map (λ line. line.now) (drop l.line-index l.lines));
  at : l.number ≡ l.initial.number + l.line-index;
}
