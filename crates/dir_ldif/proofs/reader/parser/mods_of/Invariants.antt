use Rattle.std.proofs.Common.{◌≡◌, length}
use Rattle.dir_ldif.specs.RecordGrammar.{is_dash, mod_of, mods_of, try_map}
use Rattle.dir_ldif.specs.LogicalLines.{cut}
use Rattle.dir_ldif.specs.SoundRecords.{ModsAreBytes}
use Rattle.dir_ldif.proofs.GrammarLemmas.{after_prefix}
use Rattle.dir_ldif.proofs.reader.parser.mods_of.Given as goal

abbrev pub invariant-loop-rest : goal.invariant-loop-rest
invariant-loop-rest l =
    (mods_of l.schema l.lines ≡ after_prefix l.mods.items (try_map (mod_of l.schema) (cut is_dash l.rest)))
    × ModsAreBytes l.mods.items

abbrev pub decreases-loop-rest : goal.decreases-loop-rest
decreases-loop-rest l = length l.rest
