use Rattle.std.proofs.Common.{◌≡◌, ◌+◌, drop, map}
use Rattle.dir_tools.specs.AccessReport.{words_from, words_of}
use Rattle.dir_tools.specs.Inside.Asking.{word_in}
use Rattle.dir_tools.proofs.AccessParts.{after_words}
use Rattle.dir_tools.proofs.acl.parts.read_words.Given as goal

abbrev pub invariant-loop-i : goal.invariant-loop-i
invariant-loop-i l = words_of l.schema l.texts ≡ after_words (map word_in l.words.items) (words_from l.schema (l.i + 1) (drop l.i l.texts))
