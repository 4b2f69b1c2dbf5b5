use Rattle.dir_ldif.specs.Reader.{budget}
use Rattle.dir_hints.proofs.count.count_records.Given as goal

abbrev pub decreases-loop-records : goal.decreases-loop-records
decreases-loop-records g l = budget l.reader
