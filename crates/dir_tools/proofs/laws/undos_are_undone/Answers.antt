use Rattle.dir_tools.proofs.WholeRuns.{canonical_copies, undone}
use Rattle.dir_tools.proofs.laws.undos_are_undone.Goals as goal

pub returns-clause-undone : goal.returns-clause-undone
returns-clause-undone c = undone c.records_are_sound.ensures c.first_records_are_sound.ensures c.runs_accept_changes.ensures c.written_runs_are_taken_back.ensures

pub returns-clause-canonical : goal.returns-clause-canonical
returns-clause-canonical c = canonical_copies c.records_are_sound.ensures c.first_records_are_sound.ensures c.copies_are_sound.ensures c.canonical_texts_read_back.ensures c.runs_accept_changes.ensures c.runs_stay_in_order.ensures
