use Rattle.std.proofs.Common.{◌≡◌, ◌++◌}
use Rattle.std.specs.Prelude.{option_map}
use Rattle.dir_conf_text.specs.Arguments.{all_whole}
use Rattle.dir_conf_text.proofs.arguments.all_whole.Given as goal

-- the words so far and those to come are all words
abbrev pub invariant-loop-word : goal.invariant-loop-word
invariant-loop-word l = all_whole l.fn.words.items ≡ option_map (λ rest. l.found.items ++ rest) (all_whole l.word-iterator.rest.items)
