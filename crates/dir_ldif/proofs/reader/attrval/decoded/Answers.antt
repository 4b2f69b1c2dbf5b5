use Rattle.std.proofs.Common.{ap}
use Rattle.dir_ldif.specs.AttrVal.{base64_value, or_bad_base64}
use Rattle.dir_ldif.proofs.reader.attrval.decoded.Goals as goal

pub returns-in-Ok : goal.returns-in-Ok
unfolding base64_value
returns-in-Ok c = ap or_bad_base64 c.in-Ok.ensures.ok

pub returns-in-Err-DecodeError : goal.returns-in-Err-DecodeError
unfolding base64_value
returns-in-Err-DecodeError c = ap or_bad_base64 (rw c.in-Err-DecodeError.field-0-is at c.in-Err-DecodeError.ensures.err)
