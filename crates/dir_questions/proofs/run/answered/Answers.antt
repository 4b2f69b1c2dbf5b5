use Rattle.std.proofs.Common.{refl}
use Rattle.dir_tools.specs.AccessReport.{Configured}
use Rattle.dir_tools.specs.CopyOf.{empty_copy}
use Rattle.dir_tools.specs.Inside.Asking.{configured_under}
use Rattle.dir_questions.proofs.RunLemmas.{fault_of_copy}
use Rattle.dir_questions.proofs.run.answered.Goals as goal

pub returns-in-Err-clause-blamed : goal.returns-in-Err-clause-blamed
returns-in-Err-clause-blamed g c =
    let found : Configured = configured_under c.args.schema.now c.args.config.now in
    fault_of_copy found (empty_copy found.configuration.suffix).entries _ _ _ _ c.in-Err.fault refl refl c.in-Err.ensures.blamed c.in-Err.ensures.settled

pub returns-in-Ok-texts_of-clause-ok : goal.returns-in-Ok-texts_of-clause-ok
returns-in-Ok-texts_of-clause-ok g c = record {
  directory = c.in-Ok.directory;
  copy_is = c.in-Ok.ensures.reads;
  texts = record { answers = c.in-Ok-texts_of.ensures.answers; report = c.in-Ok-texts_of.ensures.report; tally = c.in-Ok-texts_of.ensures.tally };
}
