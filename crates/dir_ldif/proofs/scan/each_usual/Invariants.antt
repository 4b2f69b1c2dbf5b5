use Rattle.std.proofs.Common.{◌≡◌, take}
use Rattle.std.specs.List.{list_all}
use Rattle.dir_ldif.specs.Inside.Usual.{is_usual}
use Rattle.dir_ldif.proofs.scan.each_usual.Given as goal

abbrev pub invariant-loop-b : goal.invariant-loop-b
invariant-loop-b l = l.usual ≡ list_all is_usual (take l.b-index l.text)
