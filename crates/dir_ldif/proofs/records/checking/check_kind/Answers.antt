use Rattle.dir_ldif.proofs.records.checking.check_kind.Goals as goal

pub returns-in-Rename : goal.returns-in-Rename
returns-in-Rename c = rw c.in-Rename.is c.check_rename.ensures
