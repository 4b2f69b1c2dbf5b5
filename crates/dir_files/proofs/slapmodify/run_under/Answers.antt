use Rattle.std.proofs.Common.{ap, ◌∙◌}
use Rattle.std.specs.Option.{option_copied}
use Rattle.dir_files.proofs.CallLemmas.{made_after, no_file, with_file, with_input}
use Rattle.dir_files.proofs.slapmodify.run_under.Goals as goal

pub returns-in-Err-open-clause-calls : goal.returns-in-Err-open-clause-calls
returns-in-Err-open-clause-calls g c =
    no_file c.args.schema.now c.args.words.now _ (g.F.FileSystem.disk c.args.files.now) (g.F.FileSystem.disk c.open.new.self)
    (g.F.FileSystem.disk c.open-in-Some.new.self) c.in-Some.path.now c.in-Err-open.why (ap option_copied c.in-Some.is) c.in-Ok.ensures.told
    c.in-Err-open.ensures.told c.not_opened-in-Err-open.ensures

pub returns-in-Ok-open-clause-calls : goal.returns-in-Ok-open-clause-calls
returns-in-Ok-open-clause-calls g c =
    made_after (g.F.FileSystem.disk c.args.files.now) (g.F.FileSystem.disk c.with_changes-answer.new.files) (g.F.FileSystem.disk c.close-in-Some.new.self) _ (c.close-in-Some.ensures.told ∙ c.close.ensures.told)
    (with_file c.args.schema.now c.args.words.now _ (g.F.FileSystem.disk c.args.files.now) (g.F.FileSystem.disk c.open.new.self)
    (g.F.FileSystem.disk c.open-in-Some.new.self) (g.F.FileSystem.disk c.with_changes-answer.new.files) c.in-Some.path.now (ap option_copied c.in-Some.is)
    c.in-Ok.ensures.told c.in-Ok-open.ensures.told c.with_changes-answer.ensures.calls)

pub returns-in-None-clause-calls : goal.returns-in-None-clause-calls
returns-in-None-clause-calls g c =
    made_after (g.F.FileSystem.disk c.args.files.now) (g.F.FileSystem.disk c.with_changes-answer-in-None.new.files) (g.F.FileSystem.disk c.close-in-None.new.self) _ (c.close-in-None.ensures.told ∙ c.close_standard_input.ensures.told)
    (with_input c.args.schema.now c.args.words.now _ (g.F.FileSystem.disk c.args.files.now) (g.F.FileSystem.disk c.open.new.self)
    (g.F.FileSystem.disk c.standard_input-changes.new.self) (g.F.FileSystem.disk c.with_changes-answer-in-None.new.files) (ap option_copied c.in-None.is) c.in-Ok.ensures.told
    c.standard_input-changes.ensures.told c.with_changes-answer-in-None.ensures.calls)
