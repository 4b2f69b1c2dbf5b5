use Rattle.std.proofs.lemmas.Result.{err_from_is_err_and}
use Rattle.dir_ldif.proofs.UnfolderLemmas.{ended_text, ended_text_Ends, some_of_count}
use Rattle.dir_ldif.proofs.reader.unfolder.Unfolder.finish_partial_line.Goals as goal

pub returns-clause-ok : goal.returns-clause-ok
returns-clause-ok c =
    let j = c.args.self.now in
    ended_text j c.finish_physical_line.new.self c.in_ok-finish_physical_line.field-0 j.unended (some_of_count _ _ j.partial.ok.0 (cc)) c.in_ok-finish_physical_line.ensures.last c.in_ok-finish_physical_line.ensures.takes

pub returns-in_err-finish_physical_line-clause-err : goal.returns-in_err-finish_physical_line-clause-err
returns-in_err-finish_physical_line-clause-err c =
    let e = err_from_is_err_and c.from_residual.result c.from_residual.ensures.1 in
    let j = c.args.self.now in
    rw (e.1, e.2) (
    ended_text_Ends j c.in_err-finish_physical_line.field-0.0 j.unended (some_of_count _ _ j.partial.ok.0 (cc)) c.in_err-finish_physical_line.ensures.takes
    )
