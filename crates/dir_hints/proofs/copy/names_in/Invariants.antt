use Rattle.dir_ldif.specs.Reader.{budget}
use Rattle.dir_hints.proofs.copy.names_in.Given as goal

abbrev pub decreases-loop-first : goal.decreases-loop-first
decreases-loop-first g l = budget l.reader
