use Rattle.std.proofs.lemmas.Grind.{common_steps}
use Rattle.std.proofs.Common.{◌<◌, length, subst, arith}
use Rattle.dir_names.specs.Inside.TypeNames.{Gains}
use Rattle.dir_names.proofs.IndexedNames.{index_more, named_in}
use Rattle.dir_names.proofs.schema.index.index_of.Goals as goal

pub loop-number-preserved : goal.loop-number-preserved
loop-number-preserved c =
    let number = c.loop-number.number in
    let old = c.loop-number.names.items in
    let new = c.insert_names.new.names.items in
    let inside : number < length c.args.rows.now = omega arith in
    index_more c.args.rows.now number c.index-rows-number.result old new inside c.index-rows-number.is c.loop-number.invariant c.insert_names.ensures.rising (subst (λ ns. Gains (named_in ns) number old new) c.as_slice.ensures c.in_ok-insert_names.ensures.gains)

pub returns-clause-index : goal.returns-clause-index
returns-clause-index c = grind (arith, common_steps)
