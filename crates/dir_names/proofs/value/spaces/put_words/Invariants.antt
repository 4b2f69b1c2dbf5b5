use Rattle.std.proofs.Common.{◌≡◌, ◌++◌, false, length}
use Rattle.dir_names.specs.ValueKeys.Spaces.{begins_with_space, without_extra_spaces}
use Rattle.dir_names.proofs.value.spaces.put_words.Given as goal

abbrev pub invariant-loop-rest : goal.invariant-loop-rest
invariant-loop-rest l = (begins_with_space l.rest ≡ false) × (l.initial.out.items ++ without_extra_spaces l.text ≡ l.out.items ++ without_extra_spaces l.rest)

abbrev pub decreases-loop-rest : goal.decreases-loop-rest
decreases-loop-rest l = length l.rest
