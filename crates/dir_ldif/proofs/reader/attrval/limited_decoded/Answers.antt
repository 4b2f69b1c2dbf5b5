use Rattle.std.proofs.Common.{arith}
use Rattle.base64.specs.GeneralPurpose.{IsBytes}
use Rattle.dir_ldif.proofs.Base64Lemmas.{long-yes, long-no}
use Rattle.dir_ldif.proofs.reader.attrval.limited_decoded.Goals as goal

pub returns-then-is_base64 : goal.returns-then-is_base64
returns-then-is_base64 c =
    let bytes : IsBytes c.args.text.now = λ i. let fits = c.type_inv.text i in omega arith in
    long-yes c.args.text.now bytes (omega arith) (cc)

pub returns-then-text-gt-MAX_ENCODED : goal.returns-then-text-gt-MAX_ENCODED
returns-then-text-gt-MAX_ENCODED c = long-no c.args.text.now (cc)
