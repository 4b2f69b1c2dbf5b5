use Rattle.std.proofs.Common.{◌≡◌, take}
use Rattle.std.specs.List.{list_all}
use Rattle.dir_ldif.specs.LineText.{is_safe}
use Rattle.dir_ldif.proofs.writer.each_safe.Given as goal

abbrev pub invariant-loop-b : goal.invariant-loop-b
invariant-loop-b l = l.safe ≡ list_all is_safe (take l.b-index l.text)
