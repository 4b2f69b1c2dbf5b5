use Rattle.dir_ldif.proofs.AnswerLemmas.{end_counted}
use Rattle.dir_ldif.proofs.reader.Core.next.Goals as goal

pub returns-in-AtEnd-clause-counted : goal.returns-in-AtEnd-clause-counted
returns-in-AtEnd-clause-counted g c = end_counted c.args.self.now (g.S.Source.left c.args.source.now) c.in-AtEnd.is
