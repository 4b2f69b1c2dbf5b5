use Rattle.std.proofs.Common.{◌≡◌, drop}
use Rattle.dir_ldif.specs.RecordGrammar.{try_map, value_line, value_lines}
use Rattle.dir_ldif.specs.SoundRecords.{ValuesAreBytes}
use Rattle.dir_ldif.proofs.GrammarLemmas.{after_prefix}
use Rattle.dir_ldif.proofs.reader.parser.value_lines.Given as goal

abbrev pub invariant-loop-line : goal.invariant-loop-line
invariant-loop-line l =
    (value_lines l.schema l.lines ≡ after_prefix l.items.items (try_map (value_line l.schema) (drop l.line-index l.lines)))
    × ValuesAreBytes l.items.items
