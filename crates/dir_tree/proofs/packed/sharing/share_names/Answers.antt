use Rattle.std.proofs.Common.{ap, ◌∙◌, set}
use Rattle.std.proofs.lemmas.List.{set-get_or}
use Rattle.dir_tree.proofs.packed.sharing.share_names.Goals as goal

pub loop-at-preserved : goal.loop-at-preserved
loop-at-preserved c = ap (set c.loop-at.names.items c.loop-at.at) (c.share_name.ensures ∙ c.index_mut.ensures.value) ∙ set-get_or c.loop-at.names.items c.loop-at.at _ ∙ c.loop-at.invariant
