use Rattle.std.proofs.Common.{◌≡◌, ◌++◌, take}
use Rattle.std.specs.List.{flat_map}
use Rattle.dir_names.specs.Inside.SortTexts.{marked_byte}
use Rattle.dir_names.proofs.key.sorting.put_marked.Given as goal

abbrev pub invariant-loop-b : goal.invariant-loop-b
invariant-loop-b l = l.out.items ≡ l.initial.out.items ++ flat_map marked_byte (take l.b-index l.text)
