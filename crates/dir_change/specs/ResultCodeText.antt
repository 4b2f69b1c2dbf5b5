-- The number and the name of a result code (RFC 4511, appendix A).
use Rattle.std.specs.Prelude.{ℕ, List, codes}
use Rattle.dir_change.specs.declared.result_code.ResultCode.{ResultCode}
use Rattle.dir_change.specs.declared.result_code.ResultCode.TheVariants as code

abbrev pub result_code_text : ResultCode → List ℕ
result_code_text code.ProtocolError = codes "2 protocolError"
result_code_text code.AdminLimitExceeded = codes "11 adminLimitExceeded"
result_code_text code.NoSuchAttribute = codes "16 noSuchAttribute"
result_code_text code.ConstraintViolation = codes "19 constraintViolation"
result_code_text code.AttributeOrValueExists = codes "20 attributeOrValueExists"
result_code_text code.InvalidAttributeSyntax = codes "21 invalidAttributeSyntax"
result_code_text code.NoSuchObject = codes "32 noSuchObject"
result_code_text code.UnwillingToPerform = codes "53 unwillingToPerform"
result_code_text code.NotAllowedOnNonLeaf = codes "66 notAllowedOnNonLeaf"
result_code_text code.NotAllowedOnRdn = codes "67 notAllowedOnRDN"
result_code_text code.EntryAlreadyExists = codes "68 entryAlreadyExists"
