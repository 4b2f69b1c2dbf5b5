use Rattle.std.proofs.Common.{List, ℕ, ap, map, sym, ◌∙◌, arith}
use Rattle.std.specs.Borrow.{Bor}
use Rattle.std.proofs.lemmas.Grind.{common_steps}
use Rattle.dir_conf_text.specs.declared.arguments.Spot.{Spot}
use Rattle.dir_conf_text.specs.Inside.Wanting.{wanting_of}
use Rattle.dir_conf_text.proofs.Wanted.{last_here, line_found}
use Rattle.dir_conf_text.proofs.physical.line_with.Goals as goal

pub returns-then-wanting-eq0 : goal.returns-then-wanting-eq0
returns-then-wanting-eq0 c =
    let none = ap (λ (wanting : Spot × ℕ). wanting.1) (sym c.after_bytes-wanting.ensures) ∙ c.if-wanting-eq0.true in
    sym (last_here (wanting_of c.loop-line.wanting) c.loop-line.number c.loop-line.line-index c.args.lines.now _ c.loop-line-test.true none)
    ∙ sym c.loop-line.invariant.same
    ∙ sym (line_found c.args.wanted c.args.number (map (λ (line : Bor (List ℕ)). line.now) c.args.lines.now))

pub returns : goal.returns
returns c =
    let found = line_found c.args.wanted c.args.number (map (λ (line : Bor (List ℕ)). line.now) c.args.lines.now) in
    grind (arith, common_steps)
