use Rattle.std.proofs.Common.{◌≡◌, false, take, drop}
use Rattle.dir_names.specs.Names.Reading.{pieces}
use Rattle.dir_names.proofs.PieceLemmas.{onto}
use Rattle.dir_names.proofs.name.reading.split_once_unescaped.Given as goal

abbrev pub invariant-loop-i : goal.invariant-loop-i
invariant-loop-i l = pieces l.separator false l.text ≡ onto (take l.i l.text) (pieces l.separator l.is_escaped (drop l.i l.text))
