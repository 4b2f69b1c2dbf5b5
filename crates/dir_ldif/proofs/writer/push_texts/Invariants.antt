use Rattle.std.proofs.Common.{◌≡◌, ◌++◌, take}
use Rattle.std.specs.List.{flat_map}
use Rattle.dir_ldif.specs.LineText.{written_line}
use Rattle.dir_ldif.specs.SoundRecords.{AreBytes}
use Rattle.dir_ldif.proofs.writer.push_texts.Given as goal

abbrev pub invariant-loop-value : goal.invariant-loop-value
invariant-loop-value l = record { text : l.out.items ≡ l.fn.out.items ++ flat_map (λ value. written_line l.spelling value) (take l.value-index l.values); bytes : AreBytes (take l.value-index l.values) }
