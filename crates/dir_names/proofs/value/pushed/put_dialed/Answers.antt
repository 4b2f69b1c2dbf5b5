use Rattle.std.proofs.Common.{◌++◌, Ok, ap, ◌∙◌, arith}
use Rattle.std.proofs.lemmas.Grind.{common_steps}
use Rattle.std.proofs.lemmas.List.{append-nil}
use Rattle.std.proofs.Math.ListN.{drop_of_length-le}
use Rattle.dir_names.proofs.ShortKeys.{dialed, dialed_is}
use Rattle.dir_names.proofs.value.pushed.put_dialed.Goals as goal

pub returns : goal.returns
returns c =
    let value = c.args.value.now in
    let whole = ap (λ l. c.args.text.now.items ++ l) (dialed_is value) in
    let left = c.loop-b.invariant ∙ ap (λ l. c.loop-b.text.items ++ dialed l) (drop_of_length-le value c.loop-b-test.false) ∙ append-nil c.loop-b.text.items in
    ap Ok (whole ∙ left)

pub loop-b-preserved : goal.loop-b-preserved
loop-b-preserved c = grind (arith, common_steps)
