use Rattle.std.proofs.Common.{◌≡◌, length}
use Rattle.base64.specs.GeneralPurpose.{IsBytes}
use Rattle.dir_ldif.specs.AttrVal.{is_base64}
use Rattle.dir_ldif.proofs.reader.attrval.is_base64.Given as goal

abbrev pub invariant-loop-rest : goal.invariant-loop-rest
invariant-loop-rest l = (is_base64 l.text ≡ is_base64 l.rest) × IsBytes l.rest

abbrev pub decreases-loop-rest : goal.decreases-loop-rest
decreases-loop-rest l = length l.rest
