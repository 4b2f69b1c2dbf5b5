use Rattle.dir_change.proofs.ReadBack.{texts_read_back}
use Rattle.dir_change.proofs.laws.undo_texts_read_back.Goals as goal

pub returns : goal.returns
returns c = texts_read_back c.marked_groups_read_back.ensures
