use Rattle.std.proofs.Common.{◌≡◌, ◌∙◌, rules}
use Rattle.std.specs.Ordering.{nat_cmp}
use Rattle.dir_names.specs.Inside.Ranks.{HasRank}
use Rattle.dir_names.proofs.RankLemmas.{cmp_by_rank}
use Rattle.dir_names.proofs.attribute.AttrKey.cmp_types.Goals as goal

pub returns-in-Some-Some : goal.returns-in-Some-Some
returns-in-Some-Some c =
    let mine : HasRank c.args.self.now.attr_type c.in-Some-Some.rank = search rules in
    let theirs : HasRank c.args.other.now.attr_type c.in-Some-Some.other_rank = search rules in
    let run : c.cmp.result ≡ nat_cmp c.in-Some-Some.rank c.in-Some-Some.other_rank = search rules in
    run ∙ cmp_by_rank _ _ _ _ mine theirs
