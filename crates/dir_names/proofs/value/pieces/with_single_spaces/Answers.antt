use Rattle.std.proofs.Common.{◌++◌, Ok, ap, sym, ◌∙◌, arith}
use Rattle.std.proofs.lemmas.Grind.{common_steps}
use Rattle.std.proofs.lemmas.List.{append-nil}
use Rattle.std.proofs.Math.ListN.{drop_of_length-le}
use Rattle.dir_names.proofs.SingleSpaces.{single, single-none}
use Rattle.dir_names.proofs.value.pieces.with_single_spaces.Goals as goal

pub returns : goal.returns
returns c =
    let text = c.args.text.now in
    let left = c.loop-b.invariant ∙ ap (λ l. c.loop-b.out.items ++ single c.loop-b.after_space l) (drop_of_length-le text c.loop-b-test.false) ∙ append-nil c.loop-b.out.items in
    ap Ok (sym (single-none text) ∙ left)

pub loop-b-preserved : goal.loop-b-preserved
loop-b-preserved c = grind (arith, common_steps)
