use Rattle.dir_tools.proofs.RunBack.{runs_go_back}
use Rattle.dir_tools.proofs.laws.written_runs_go_back.Goals as goal

pub returns : goal.returns
returns c = runs_go_back c.canonical_texts_read_back.ensures c.runs_are_taken_back.ensures c.runs_stay_in_order.ensures c.undo_texts_read_back.ensures
