use Rattle.dir_tools.proofs.WholeRuns.{to_any_point}
use Rattle.dir_tools.proofs.laws.goes_back_to_any_point.Goals as goal

pub returns : goal.returns
returns c = to_any_point c.records_are_sound.ensures c.first_records_are_sound.ensures c.copies_are_sound.ensures c.written_runs_go_back.ensures
