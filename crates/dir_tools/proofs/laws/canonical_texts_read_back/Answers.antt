use Rattle.dir_tools.proofs.CopyBack.{texts_read_back}
use Rattle.dir_tools.proofs.laws.canonical_texts_read_back.Goals as goal

pub returns : goal.returns
returns c = texts_read_back c.written_records_read_back.ensures
