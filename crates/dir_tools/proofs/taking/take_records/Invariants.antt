use Rattle.std.proofs.Common.{◌≡◌, ◌+◌, ◌≤◌, List}
use Rattle.dir_ldif.specs.Reader.{IsEnded, IsReading, SpendsTurns, answers_to_come, budget, marks_at_end, schema_of, source_of}
use Rattle.dir_ldif.specs.Reader.Answers.{KeepsMarks}
use Rattle.dir_ldif.specs.Records.{Found}
use Rattle.dir_tools.specs.Inside.Taking.{TakesAll}
use Rattle.dir_tools.proofs.CompleteRecords.{ComesFrom}
use Rattle.dir_tools.proofs.TakingLemmas.{HasGiven}
use Rattle.dir_tools.proofs.taking.take_records.Given as goal

abbrev pub invariant-loop-line : goal.invariant-loop-line
invariant-loop-line g l =
    let first = l.initial.records in
    (IsEnded l.records → ⊥)
    × (schema_of l.records ≡ l.schema)
    × (g.T.Taker.counted l.taker + budget l.records ≤ budget first)
    × (g.S.Source.failures (source_of l.records) ≡ g.S.Source.failures (source_of first))
    × (g.S.Source.is_same (source_of first) (source_of l.records))
    × (IsReading l.records → SpendsTurns g.S.Source.left first l.records)
    × KeepsMarks (marks_at_end g.S.Source.left first) (marks_at_end g.S.Source.left l.records)
    × ((founds : List Found)
    × TakesAll l.schema (g.T.Taker.take_gives l.schema) founds l.initial.taker l.taker
    × HasGiven founds (answers_to_come g.S.Source.left first) (answers_to_come g.S.Source.left l.records)
    × (IsReading l.records → ComesFrom g.S.Source.left first l.records founds))

abbrev pub decreases-loop-line : goal.decreases-loop-line
decreases-loop-line g l = budget l.records
