use Rattle.std.proofs.Common.{◌≡◌, ◌++◌, take}
use Rattle.std.specs.List.{flat_map}
use Rattle.dir_ldif.specs.RecordText.{value_text}
use Rattle.dir_ldif.specs.SoundRecords.{ValuesAreBytes}
use Rattle.dir_ldif.proofs.writer.push_values.Given as goal

abbrev pub invariant-loop-line : goal.invariant-loop-line
invariant-loop-line l = record { text : l.out.items ≡ l.fn.out.items ++ flat_map value_text (take l.line-index l.lines); bytes : ValuesAreBytes (take l.line-index l.lines) }
