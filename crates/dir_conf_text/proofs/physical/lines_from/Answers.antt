use Rattle.std.proofs.Common.{◌≡◌, ◌-◌, List, ℕ, arith, ap, drop, map, option_copied, subst, sym, ◌∙◌}
use Rattle.std.proofs.lemmas.List.{drop-map}
use Rattle.dir_names.specs.Cut.{parts_at}
use Rattle.dir_names.specs.Inside.Left.{parts_left}
use Rattle.dir_names.specs.Trimming.{without_return}
use Rattle.dir_conf_text.proofs.physical.lines_from.Goals as goal

-- no line is left to be left out
pub returns-clause-rest : goal.returns-clause-rest
returns-clause-rest c =
    let lines : List (List ℕ) = parts_at 10 c.args.text.now in
    let rest : List (List ℕ) = parts_left 10 (option_copied c.loop-left.rest) in
    let none : c.loop-left.left ≡ 0 = omega arith in
    let from : rest ≡ drop (c.args.number - 1) lines = subst (λ (n : ℕ). drop n rest ≡ drop (c.args.number - 1) lines) none c.loop-left.invariant.same in
    ap (map without_return) from ∙ sym (drop-map without_return (c.args.number - 1) lines)
