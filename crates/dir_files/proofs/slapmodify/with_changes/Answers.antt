use Rattle.std.proofs.Common.{sym, ◌∙◌}
use Rattle.dir_files.proofs.CallLemmas.{writes_some}
use Rattle.dir_files.proofs.slapmodify.with_changes.Goals as goal

pub returns-in-Some-clause-calls : goal.returns-in-Some-clause-calls
returns-in-Some-clause-calls g c =
    writes_some c.args.schema.now c.args.words.now _ c.args.mode (g.R.Source.left c.args.copy.now) (g.R2.Source.left c.args.changes.now) (g.F.FileSystem.disk c.args.files.now)
    (g.F.FileSystem.disk c.with_outputs.new.files) c.in-Some.paths (sym c.outputs_of.ensures ∙ c.in-Some.is) c.requires.copy c.requires.changes c.requires.mode c.with_outputs.ensures.calls
