use Rattle.std.proofs.Common.{◌≡◌, ◌+◌, length}
use Rattle.std.specs.Option.{option_copied, option_map_or}
use Rattle.dir_names.specs.Inside.Few.{few_items}
use Rattle.dir_names.specs.Names.Reading.{pair_of}
use Rattle.dir_names.specs.Inside.Left.{pieces_left}
use Rattle.dir_names.specs.Results.{option_collect}
use Rattle.dir_names.proofs.AllLemmas.{prefixed}
use Rattle.dir_names.proofs.name.reading.read_pairs.Given as goal

abbrev pub invariant-loop-rest : goal.invariant-loop-rest
invariant-loop-rest l = option_collect pair_of (pieces_left 43 (option_copied l.initial.rest)) ≡ prefixed (few_items l.pairs) (option_collect pair_of (pieces_left 43 (option_copied l.rest)))

abbrev pub decreases-loop-rest : goal.decreases-loop-rest
decreases-loop-rest l = option_map_or (λ text. length text + 1) (option_copied l.rest) 0
