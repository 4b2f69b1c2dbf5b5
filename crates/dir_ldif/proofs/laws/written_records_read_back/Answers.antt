use Rattle.dir_ldif.proofs.RoundTrip.{records-read}
use Rattle.dir_ldif.proofs.laws.written_records_read_back.Goals as goal

pub returns : goal.returns
returns c = records-read
