use Rattle.std.proofs.Common.{◌≡◌, ℕ, Some, Result, Ok, Err, IfErr, OnOk, ap, sym, rules, ◌∙◌, arith}
use Rattle.std.proofs.lemmas.Grind.{common_steps}
use Rattle.std.specs.Option.{option_and_then, option_map}
use Rattle.dir_ldif.specs.Reader.{marks_at_end}
use Rattle.dir_tools.specs.CompleteRecords.{CompleteRecordsAreAccepted}
use Rattle.dir_tools.specs.RunOf.{marks_at, records_at}
use Rattle.dir_tools.proofs.CompleteRecords.{accepted_so, from_start}
use Rattle.dir_tools.proofs.RunLemmas.{blamed_as, runs_over_as}
use Rattle.dir_tools.proofs.run.Run.take_all.Goals as goal

on_ok : {A E : Type 0} {P Q : Type 0} (r : Result A E) → OnOk r P → (P → Q) → OnOk r Q
on_ok (Ok x) p f = f p
on_ok (Err e) p f = tt

if_err : {A E : Type 0} {P Q : E → Type 0} (r : Result A E) → IfErr r P → ((e : E) → P e → Q e) → IfErr r Q
if_err (Ok x) p f = tt
if_err (Err e) p f = f e p

pub returns-clause-ok : goal.returns-clause-ok
returns-clause-ok g c =
    let left = g.R.Source.left c.args.changes.now in
    let last = c.args.self.now.options.last in
    let marked : (wanted : ℕ) → last ≡ Some wanted → marks_at_end (λ s. g.R.Source.left s.now) c.in-Ok.records ≡ option_and_then (marks_at last) left =
    (λ wanted is. c.in-Ok.ensures.marks wanted is ∙ ap (λ o. option_and_then (marks_at o) left) (sym is)) in
    on_ok c.take_records-answer.result c.take_records-answer.ensures.ok
    (runs_over_as g.D.Directory.state c.args.schema.now _ (option_map (records_at c.args.schema.now last) left) _ (option_and_then (marks_at last) left) c.args.self.now c.in-Ok.ensures.answers marked c.take_records-answer.new.self)

pub returns-clause-blamed : goal.returns-clause-blamed
returns-clause-blamed g c =
    let left = g.R.Source.left c.args.changes.now in
    let last = c.args.self.now.options.last in
    let marked : (wanted : ℕ) → last ≡ Some wanted → marks_at_end (λ s. g.R.Source.left s.now) c.in-Ok.records ≡ option_and_then (marks_at last) left =
    (λ wanted is. c.in-Ok.ensures.marks wanted is ∙ ap (λ o. option_and_then (marks_at o) left) (sym is)) in
    if_err c.take_records-answer.result (search rules)
    (blamed_as g.D.Directory.state c.args.schema.now _ (option_map (records_at c.args.schema.now last) left) _ (option_and_then (marks_at last) left) c.args.self.now c.in-Ok.ensures.answers marked _ _)

pub returns-clause-settled : goal.returns-clause-settled
returns-clause-settled g c =
    let d = g.D.Directory.state c.args.self.now.directory in
    if_err c.take_records-answer.result c.take_records-answer.ensures.settled
    (λ fault settled is off.
    from_start (records_at c.args.schema.now c.args.self.now.options.last) (λ s. g.R.Source.left s.now) (CompleteRecordsAreAccepted c.args.schema.now d) (accepted_so c.args.schema.now d) c.in-Ok.records c.take_records-answer.new.records _ _
    c.in-Ok.ensures.ahead.0 c.in-Ok.ensures.ahead.1 (ap (λ s. g.R.Source.left s.now) c.in-Ok.ensures.source.0) (search rules)
    (settled is off))

pub returns-clause-long : goal.returns-clause-long
returns-clause-long g c = grind (arith, common_steps)
