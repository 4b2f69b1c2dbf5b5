use Rattle.std.proofs.Common.{◌∙◌}
use Rattle.dir_ldif.specs.AttrVal.{is_nul_or_cr}
use Rattle.dir_ldif.proofs.AttrValLemmas.{is_some-first}
use Rattle.dir_ldif.proofs.reader.attrval.finds_nul_or_cr.Goals as goal

pub returns : goal.returns
returns c = c.is_some.ensures ∙ is_some-first is_nul_or_cr c.args.text.now c.memchr2.result c.memchr2.ensures
