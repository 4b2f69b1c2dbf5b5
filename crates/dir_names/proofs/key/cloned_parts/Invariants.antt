use Rattle.std.proofs.Common.{◌≡◌, take}
use Rattle.dir_names.proofs.key.cloned_parts.Given as goal

abbrev pub invariant-loop-part : goal.invariant-loop-part
invariant-loop-part l = l.copy.items ≡ take l.part-index l.parts
