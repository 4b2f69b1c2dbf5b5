use Rattle.std.proofs.Common.{rules}
use Rattle.dir_ldif.specs.LineText.{base64_of}
use Rattle.dir_ldif.proofs.writer.encoded.Goals as goal

pub returns : goal.returns
unfolding base64_of
returns c = search rules
