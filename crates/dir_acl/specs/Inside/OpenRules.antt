-- The runs through rules with open parts, of all privileges at once, as the code has them.
use Rattle.dir_acl.specs.declared.access.Control.{Control}
use Rattle.dir_acl.specs.declared.access.Control.TheVariants.{Stop, Continue, Break}
use Rattle.dir_acl.specs.declared.open_rules.Parted as parted
use Rattle.dir_acl.specs.declared.open_rules.Runs as runs
use Rattle.dir_acl.specs.declared.privileges.Privilege.{Privilege}
use Rattle.dir_acl.specs.Inside.Bounding.{Parted, Runs, both_runs}
use Rattle.dir_acl.specs.Privileges.{has}

abbrev pub runs_at : runs.Runs → Privilege → Runs
runs_at runs p = record { held = has runs.held p; lacking = has runs.lacking p }

abbrev pub parted_at : parted.Parted → Privilege → Parted
parted_at parted p = record { on = runs_at parted.on p; ended = runs_at parted.ended p }

-- the runs that take a clause of this control
abbrev pub with_taken : Control → Parted → Runs → Parted
with_taken Stop parted taken = record { on = parted.on; ended = both_runs parted.ended taken }
with_taken Break parted taken = record { on = both_runs parted.on taken; ended = parted.ended }
with_taken Continue parted taken = parted

-- the runs for which the later clauses are gone through
abbrev pub left : Control → Runs → Runs → Runs
left Stop taken passed = passed
left Break taken passed = passed
left Continue taken passed = both_runs taken passed
