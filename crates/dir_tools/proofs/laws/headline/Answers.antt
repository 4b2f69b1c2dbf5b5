use Rattle.dir_tools.proofs.WholeRuns.{headline}
use Rattle.dir_tools.proofs.laws.headline.Goals as goal

pub returns : goal.returns
returns c = headline c.records_are_sound.ensures c.first_records_are_sound.ensures c.copies_are_sound.ensures c.runs_accept_changes.ensures c.written_runs_are_taken_back.ensures
