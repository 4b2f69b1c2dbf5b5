use Rattle.std.proofs.Common.{◌≡◌, drop}
use Rattle.dir_acl.specs.Config.{types_after}
use Rattle.dir_acl.proofs.config.types.types_of_text.Given as goal

abbrev pub invariant-loop-line : goal.invariant-loop-line
invariant-loop-line l = types_after l.schema l.text ≡ types_after l.types (drop l.line-index l.text)
