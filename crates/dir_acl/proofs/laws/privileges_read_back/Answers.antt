use Rattle.dir_acl.proofs.PrivilegeTexts.{text_reads_back}
use Rattle.dir_acl.proofs.laws.privileges_read_back.Goals as goal

pub returns : goal.returns
returns c = text_reads_back
