use Rattle.std.proofs.Common.{◌≡◌, take}
use Rattle.dir_names.proofs.list.Texts.try_clone.Given as goal

abbrev pub invariant-loop-text : goal.invariant-loop-text
invariant-loop-text l = l.items.items ≡ take l.text-index l.text-items
