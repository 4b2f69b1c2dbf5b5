use Rattle.dir_names.specs.Inside.Ranks.{ranked_types}
use Rattle.dir_names.proofs.RankLemmas.{placed_rank}
use Rattle.dir_names.proofs.attribute.rank_of.Goals as goal

pub returns-in-Some : goal.returns-in-Some
unfolding ranked_types
returns-in-Some c = placed_rank _ c.in-Some.rank c.in-Some.ensures
