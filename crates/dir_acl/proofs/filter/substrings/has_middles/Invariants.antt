use Rattle.std.proofs.Common.{◌≡◌, drop}
use Rattle.dir_acl.specs.Substrings.{has_middles}
use Rattle.dir_acl.proofs.filter.substrings.has_middles.Given as goal

abbrev pub invariant-loop-piece : goal.invariant-loop-piece
invariant-loop-piece l = has_middles l.middle l.last l.text ≡ has_middles (drop l.piece-index l.middle) l.last l.rest
