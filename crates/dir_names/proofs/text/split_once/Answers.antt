use Rattle.std.proofs.Common.{arith, rules}
use Rattle.std.proofs.lemmas.Grind.{common_steps}
use Rattle.dir_names.proofs.CutLemmas.{parts_found, parts_none}
use Rattle.dir_names.proofs.text.split_once.Goals as goal

pub returns-in-Some-clause-parts : goal.returns-in-Some-clause-parts
returns-in-Some-clause-parts c =
    let parted = parts_found c.args.separator c.args.text.now c.in-Some.at (search rules) in
    grind (arith, common_steps, parted)

pub returns-in-None-clause-parts : goal.returns-in-None-clause-parts
returns-in-None-clause-parts c = parts_none c.args.separator c.args.text.now (search rules)
