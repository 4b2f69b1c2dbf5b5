use Rattle.std.proofs.lemmas.Result.{on_ok_weaker, IfErr-weaker}
use Rattle.dir_ldif.proofs.UnfolderLemmas.{closed_end, closed_end_fails}
use Rattle.dir_ldif.proofs.reader.unfolder.Unfolder.finish_last_line.Goals as goal

pub returns-in-Some-clause-ok : goal.returns-in-Some-clause-ok
returns-in-Some-clause-ok c =
    let j = c.args.self.now in
    let k = c.push_to_block.new.self in
    on_ok_weaker c.push_to_block.result (closed_end j.marks k.marks j.begun k.begun j.block.items k.block.items j.last c.in-Some.last (cc)) c.push_to_block.ensures.ok

pub returns-in-Some-clause-err : goal.returns-in-Some-clause-err
returns-in-Some-clause-err c =
    let j = c.args.self.now in
    IfErr-weaker c.push_to_block.result _ _ (λ fault h. closed_end_fails j.marks j.begun j.block.items fault j.last c.in-Some.last (cc) h) c.push_to_block.ensures.err
