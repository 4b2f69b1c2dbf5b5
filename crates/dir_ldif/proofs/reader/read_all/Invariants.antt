use Rattle.std.proofs.Common.{◌≡◌, ◌+◌, ◌++◌, ◌≤◌, ℕ, All, List, length}
use Rattle.dir_ldif.specs.SoundRecords.{IsLegalFound}
use Rattle.dir_ldif.specs.Marks.{ignored}
use Rattle.dir_ldif.specs.Reader.Unfolding.{blocks_to_come}
use Rattle.dir_ldif.specs.Records.{all_found, answers_on, records_of}
use Rattle.dir_ldif.specs.SoundRecords.{IsSoundFound}
use Rattle.dir_ldif.proofs.reader.read_all.Given as goal

abbrev pub invariant-loop-answers : goal.invariant-loop-answers
invariant-loop-answers l =
    (l.unfolder.number + length l.rest ≤ 1 + length l.text)
    × (length l.text ≤ 9007199254732800)
    × (l.unfolder.marks ≡ ignored)
    × All (IsLegalFound l.schema) l.answers.items
    × All (IsSoundFound l.schema) l.answers.items
    × ((more : List ℕ) → records_of l.schema (l.text ++ more) ≡ all_found l.answers.items ++ answers_on l.schema (blocks_to_come l.unfolder (l.rest ++ more)))

abbrev pub decreases-loop-answers : goal.decreases-loop-answers
decreases-loop-answers l = length l.rest
