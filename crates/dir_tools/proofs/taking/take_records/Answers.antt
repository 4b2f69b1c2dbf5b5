use Rattle.std.proofs.Common.{rules, refl, subst, true, Ok, [], ◌∷◌, ◌++◌, arith}
use Rattle.std.proofs.lemmas.Grind.{common_steps}
use Rattle.dir_ldif.specs.Reader.Answers.{GivesFirst}
use Rattle.dir_ldif.specs.Reader.{IsReading, UsesUp, answers_to_come, marks_at_end, schema_of}
use Rattle.dir_ldif.specs.Records.{Found}
use Rattle.dir_ldif.specs.SoundRecords.{IsSoundFound}
use Rattle.dir_tools.proofs.CompleteRecords.{comes_begun, comes_further}
use Rattle.dir_tools.proofs.ReadCalls.{fault_none, reads_on, some_none, spends_more, spends_none}
use Rattle.dir_tools.proofs.TakingLemmas.{breaks, given_more, given_none, keeps_on, keeps_refl, takes_more}
use Rattle.dir_tools.proofs.taking.take_records.Goals as goal

pub loop-line-init : goal.loop-line-init
loop-line-init g c = (
  (λ ended. cc),
  c.requires.schema,
  search rules,
  refl,
  g.met.S.Source.same_refl _,
  (λ _. spends_none g.S.Source.left c.args.records.now),
  keeps_refl (marks_at_end g.S.Source.left c.args.records.now),
  ([], refl, given_none (answers_to_come g.S.Source.left c.args.records.now), λ _. comes_begun g.S.Source.left c.args.records.now),
)

pub loop-line-preserved : goal.loop-line-preserved
loop-line-preserved g c =
    let inv = c.loop-line.invariant in
    let found : Found = (c.in-Ok-Some.line, c.in-Ok-Some.found) in
    let given : IsSoundFound (schema_of c.loop-line.records) found = search rules in
    let sound : IsSoundFound c.args.schema.now found = subst (λ rows. IsSoundFound rows found) inv.1 given in
    let takes : g.T.Taker.take_gives c.args.schema.now found c.loop-line.taker (Ok true) c.take.new.self =
    subst (λ more. g.T.Taker.take_gives c.args.schema.now found c.loop-line.taker (Ok more) c.take.new.self) c.in-Ok-true.field-0-test c.in-Ok-true.ensures.gives in
    let gives : GivesFirst (Ok found) (answers_to_come g.S.Source.left c.loop-line.records) (answers_to_come g.S.Source.left c.next.new.self) = search rules in
    let uses : IsReading c.next.new.self → UsesUp g.S.Source.left found c.loop-line.records c.next.new.self = search rules in
    let was_reading : IsReading c.loop-line.records = reads_on c.loop-line.records inv.0 (λ at_end. some_none c.next.result c.in-Ok-Some.field-0 found c.in-Ok-Some.is c.in-Ok-Some.field-0-is (c.next.ensures.at_end at_end)) in (
      search rules,
      search rules,
      search rules,
      search rules,
      g.met.S.Source.same_trans _ _ _ inv.4 c.next.ensures.same,
      (λ reading. spends_more g.S.Source.left c.args.records.now c.loop-line.records c.next.new.self (inv.5 was_reading) (c.in-Ok-Some.ensures.turns reading)),
      keeps_on (marks_at_end g.S.Source.left c.args.records.now) (marks_at_end g.S.Source.left c.loop-line.records) (marks_at_end g.S.Source.left c.next.new.self) inv.6 c.in-Ok-Some.ensures.marks,
      (
        inv.7.0 ++ found ∷ [],
        takes_more c.args.schema.now (g.T.Taker.take_gives c.args.schema.now) inv.7.0 found c.args.taker.now c.loop-line.taker c.take.new.self sound takes inv.7.1,
        given_more inv.7.0 found (answers_to_come g.S.Source.left c.args.records.now) (answers_to_come g.S.Source.left c.loop-line.records) (answers_to_come g.S.Source.left c.next.new.self) gives inv.7.2,
        λ reading. comes_further g.S.Source.left c.args.records.now c.loop-line.records c.next.new.self inv.7.0 found c.next.ensures.schema (uses reading) (inv.7.3 was_reading),
      ),
    )

pub returns-in-Err-clause-ends : goal.returns-in-Err-clause-ends
returns-in-Err-clause-ends g c =
    let inv = c.loop-line.invariant in
    let was_reading : IsReading c.loop-line.records = reads_on c.loop-line.records inv.0 (λ at_end. fault_none c.next.result c.in-Err.fault c.in-Err.is (c.next.ensures.at_end at_end)) in (
      inv.7.0,
      inv.7.1,
      breaks c.args.schema.now (g.T.Taker.take_gives c.args.schema.now) g.S.Source.left g.S.Source.failures inv.7.0 c.in-Err.fault c.args.taker.now c.loop-line.taker c.args.records.now c.loop-line.records c.next.new.self
          inv.0 inv.3 c.in-Err.ensures.err.0 inv.7.1 inv.7.2 (inv.5 was_reading) (inv.7.3 was_reading),
    )

pub take-requires : goal.take-requires
take-requires g c = grind (arith, common_steps)
