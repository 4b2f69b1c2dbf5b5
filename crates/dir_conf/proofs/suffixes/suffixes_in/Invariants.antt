use Rattle.std.proofs.Common.{◌≡◌, drop, map}
use Rattle.dir_conf.specs.CnConfig.Records.{gather}
use Rattle.dir_conf.specs.Suffixes.{suffixes_in_entry}
use Rattle.dir_conf.proofs.Turns.{after}
use Rattle.dir_conf.proofs.suffixes.suffixes_in.Given as goal

abbrev pub invariant-loop-entry : goal.invariant-loop-entry
invariant-loop-entry l = gather suffixes_in_entry (map (λ entry. entry.items) l.entries) ≡ after l.found.items (gather suffixes_in_entry (map (λ entry. entry.items) (drop l.entry-index l.entries)))
