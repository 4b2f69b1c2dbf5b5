use Rattle.dir_ldif.proofs.LegalLemmas.{legal-changes}
use Rattle.dir_ldif.proofs.laws.legal_changes_have_no_fault.Goals as goal

pub returns : goal.returns
returns c = legal-changes
