use Rattle.std.proofs.Common.{◌≡◌, false, take}
use Rattle.std.specs.List.{list_any}
use Rattle.dir_ldif.specs.RecordGrammar.{is_dash}
use Rattle.dir_ldif.proofs.reader.parser.cut_dash.Given as goal

abbrev pub invariant-loop-i : goal.invariant-loop-i
invariant-loop-i l = list_any is_dash (take l.i l.lines) ≡ false
