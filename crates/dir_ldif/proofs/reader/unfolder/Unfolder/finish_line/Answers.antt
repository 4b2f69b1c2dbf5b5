use Rattle.std.proofs.lemmas.Result.{err_from_is_err_and}
use Rattle.std.proofs.Common.{ap, ◌∙◌}
use Rattle.dir_ldif.proofs.UnfolderLemmas.{line_goes_on, line_Ends, line_ends_block}
use Rattle.dir_ldif.proofs.reader.unfolder.Unfolder.finish_line.Goals as goal

pub returns-then-branch-clause-ok : goal.returns-then-branch-clause-ok
returns-then-branch-clause-ok c =
    let j = c.args.self.now in
    let same = c.finish_block.ensures.partial in
    line_ends_block (λ v. v.items) j c.finish_physical_line.new.self c.finish_block.new.self c.args.text.now c.finish_physical_line.result c.finish_block.result j.unended c.requires.line
    (c.finish_block.ensures.number ∙ c.finish_physical_line.ensures.number) (ap (λ v. v.items) same ∙ c.finish_physical_line.ensures.partial) (cc) c.finish_physical_line.ensures.takes c.finish_block.ensures.blocks

pub returns-else-branch-clause-ok : goal.returns-else-branch-clause-ok
returns-else-branch-clause-ok c =
    let j = c.args.self.now in
    line_goes_on j c.finish_physical_line.new.self c.args.text.now c.finish_physical_line.result j.unended c.requires.line c.finish_physical_line.ensures.number c.finish_physical_line.ensures.partial (cc) c.finish_physical_line.ensures.takes

pub returns-in_err-finish_physical_line-clause-err : goal.returns-in_err-finish_physical_line-clause-err
returns-in_err-finish_physical_line-clause-err c =
    let e = err_from_is_err_and c.from_residual.result c.from_residual.ensures.1 in
    let j = c.args.self.now in
    rw (e.1, e.2) (
    line_Ends j c.args.text.now c.in_err-finish_physical_line.field-0.0 j.unended c.requires.line c.in_err-finish_physical_line.ensures.takes
    )
