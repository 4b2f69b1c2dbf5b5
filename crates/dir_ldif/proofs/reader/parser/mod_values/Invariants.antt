use Rattle.std.proofs.Common.{◌≡◌, drop}
use Rattle.dir_ldif.specs.RecordGrammar.{mod_value, try_map}
use Rattle.dir_ldif.specs.SoundRecords.{AreBytes}
use Rattle.dir_ldif.proofs.GrammarLemmas.{after_prefix}
use Rattle.dir_ldif.proofs.reader.parser.mod_values.Given as goal

abbrev pub invariant-loop-line : goal.invariant-loop-line
invariant-loop-line l =
    (try_map (mod_value l.schema l.of) l.lines ≡ after_prefix l.values.items (try_map (mod_value l.schema l.of) (drop l.line-index l.lines)))
    × AreBytes l.values.items
