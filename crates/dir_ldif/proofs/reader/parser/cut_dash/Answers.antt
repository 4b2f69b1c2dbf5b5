use Rattle.std.proofs.Common.{◌+◌, take, ◌∷◌, sym, ap, ◌∙◌}
use Rattle.std.proofs.lemmas.List.{take_rest}
use Rattle.dir_ldif.specs.RecordGrammar.{is_dash}
use Rattle.dir_ldif.specs.LogicalLines.{cut}
use Rattle.dir_ldif.proofs.GrammarLemmas.{cut_at_index, cut_whole}
use Rattle.dir_ldif.proofs.reader.parser.cut_dash.Goals as goal

pub returns-then-is_dash-clause-cut : goal.returns-then-is_dash-clause-cut
returns-then-is_dash-clause-cut c =
    let lines = c.args.lines.now in
    let i = c.loop-i.i in
    cut_at_index is_dash lines i c.index-lines-i.result c.loop-i-test.true c.index-lines-i.is c.loop-i.invariant (cc) ∙ ap (λ t. take i lines ∷ cut is_dash t) (sym (take_rest lines (i + 1)))

pub returns-clause-cut : goal.returns-clause-cut
returns-clause-cut c = cut_whole is_dash c.args.lines.now c.loop-i.i c.loop-i-test.false c.requires c.loop-i.invariant
