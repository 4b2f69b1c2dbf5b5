use Rattle.std.proofs.Common.{ap, ◌∙◌}
use Rattle.std.proofs.Math.ListN.{drop_of_length-le}
use Rattle.dir_names.proofs.Tidy.{stays, tidied_stays}
use Rattle.dir_names.proofs.value.spaces.are_spaces_apart.Goals as goal

pub returns-else-is_empty : goal.returns-else-is_empty
returns-else-is_empty c =
    λ tidy. tidied_stays c.args.text.now (c.loop-b.invariant ∙ ap (stays c.loop-b.after_space) (drop_of_length-le c.args.text.now c.loop-b-test.false) ∙ tidy)
