use Rattle.std.proofs.Common.{◌≡◌, length}
use Rattle.dir_acl.specs.Filters.Reading.{at_start, filter_from}
use Rattle.dir_acl.specs.Inside.Stack.{state_of}
use Rattle.dir_acl.proofs.filter.reading.read_whole.Given as goal

abbrev pub invariant-loop-rest : goal.invariant-loop-rest
invariant-loop-rest l = filter_from l.schema at_start l.text ≡ filter_from l.schema (state_of l.state) l.rest

abbrev pub decreases-loop-rest : goal.decreases-loop-rest
decreases-loop-rest l = length l.rest
