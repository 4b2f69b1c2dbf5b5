use Rattle.std.proofs.Common.{rules}
use Rattle.dir_names.specs.Inside.Ranks.{HasRank}
use Rattle.dir_names.proofs.RankLemmas.{eq_by_rank}
use Rattle.dir_names.proofs.attribute.AttrKey.has_type_of.Goals as goal

pub returns-in-Some-Some : goal.returns-in-Some-Some
returns-in-Some-Some c =
    let mine : HasRank c.args.self.now.attr_type c.in-Some-Some.rank = search rules in
    let theirs : HasRank c.args.other.now.attr_type c.in-Some-Some.other_rank = search rules in
    eq_by_rank _ _ _ _ mine theirs
