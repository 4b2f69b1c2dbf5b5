use Rattle.std.proofs.Common.{◌≡◌, ◌<◌, true, Result, Ok, Err, Some, None, IfErr, OnOk, ap, subst, sym, ◌∙◌}
use Rattle.dir_ldif.specs.Reader.{answers_to_come, marks_at_end, source_of}
use Rattle.dir_tools.specs.CompleteRecords.{IsReaderFault}
use Rattle.dir_tools.specs.declared.fault.ToolFault.{ToolFault}
use Rattle.dir_tools.specs.declared.fault.ToolFault.TheVariants as tool
use Rattle.dir_tools.specs.declared.run.ModifyOptions.{ModifyOptions}
use Rattle.dir_tools.specs.Inside.Running.{IsChangesFaultCause, TakesRecord}
use Rattle.dir_tools.specs.Inside.Taking.{EndsIn}
use Rattle.dir_tools.specs.RunOf.{too_few_groups}
use Rattle.dir_tools.proofs.RunLemmas.{options_stay, run_stopped, run_to_end_of_text, run_too_short, runs_blamed, runs_settled}
use Rattle.dir_tools.proofs.run.Run.take_records.Goals as goal

on_ok : {A E : Type 0} {P Q : Type 0} (r : Result A E) → OnOk r P → (P → Q) → OnOk r Q
on_ok (Ok x) p f = f p
on_ok (Err e) p f = tt

if_err : {A E : Type 0} {P Q : E → Type 0} (r : Result A E) → IfErr r P → ((e : E) → P e → Q e) → IfErr r Q
if_err (Ok x) p f = tt
if_err (Err e) p f = f e p

pub returns-in-AtEnd-clause-ok : goal.returns-in-AtEnd-clause-ok
returns-in-AtEnd-clause-ok g c =
    let ends = subst (λ e. EndsIn c.args.schema.now (TakesRecord g.D.Directory.state c.args.schema.now) g.S.Source.left g.S.Source.failures e c.args.self.now c.take_records.new.taker c.args.records.now c.take_records.new.records) c.in-AtEnd.is c.take_records.ensures.ends in
    let same = options_stay g.D.Directory.state c.args.schema.now g.S.Source.left g.S.Source.failures c.take_records.result c.args.self.now c.take_records.new.taker c.args.records.now c.take_records.new.records c.take_records.ensures.ends in
    on_ok c.has_groups.result c.has_groups.ensures.ok
    (λ enough. run_to_end_of_text g.D.Directory.state c.args.schema.now g.S.Source.left g.S.Source.failures c.args.self.now c.take_records.new.taker c.args.records.now c.take_records.new.records ends
    (subst (λ n. too_few_groups c.args.self.now.options.last (Some n) true ≡ None) c.marks.ensures (subst (λ (o : ModifyOptions). too_few_groups o.last (Some c.marks.result) true ≡ None) same enough)))

pub returns-in-AtEnd-clause-blamed : goal.returns-in-AtEnd-clause-blamed
returns-in-AtEnd-clause-blamed g c =
    let ends = subst (λ e. EndsIn c.args.schema.now (TakesRecord g.D.Directory.state c.args.schema.now) g.S.Source.left g.S.Source.failures e c.args.self.now c.take_records.new.taker c.args.records.now c.take_records.new.records) c.in-AtEnd.is c.take_records.ensures.ends in
    let same = options_stay g.D.Directory.state c.args.schema.now g.S.Source.left g.S.Source.failures c.take_records.result c.args.self.now c.take_records.new.taker c.args.records.now c.take_records.new.records c.take_records.ensures.ends in
    let blames : ToolFault → Type 0 = IsChangesFaultCause g.D.Directory.state c.args.schema.now (answers_to_come g.S.Source.left c.args.records.now) (marks_at_end g.S.Source.left c.args.records.now) (g.S.Source.failures (source_of c.args.records.now)) (g.S.Source.failures (source_of c.take_records.new.records)) c.args.self.now in
    if_err c.has_groups.result c.has_groups.ensures.err
    (λ fault few. subst blames (sym (few.3 ∙ ap tool.TooFewGroups c.marks.ensures))
    (run_too_short g.D.Directory.state c.args.schema.now g.S.Source.left g.S.Source.failures c.args.self.now c.take_records.new.taker c.args.records.now c.take_records.new.records ends few.0
    (ap (λ (o : ModifyOptions). o.last) (sym same) ∙ few.1) (subst (λ n. n < few.0) c.marks.ensures few.2)))

pub returns-in-AtEnd-clause-settled : goal.returns-in-AtEnd-clause-settled
returns-in-AtEnd-clause-settled g c = if_err c.has_groups.result c.has_groups.ensures.err (λ fault few is. absurd (subst IsReaderFault few.3 is))

pub returns-in-AtEnd-clause-options : goal.returns-in-AtEnd-clause-options
returns-in-AtEnd-clause-options g c =
    options_stay g.D.Directory.state c.args.schema.now g.S.Source.left g.S.Source.failures c.take_records.result c.args.self.now c.take_records.new.taker c.args.records.now c.take_records.new.records c.take_records.ensures.ends

pub returns-in-Enough-clause-ok : goal.returns-in-Enough-clause-ok
returns-in-Enough-clause-ok g c =
    let ends = subst (λ e. EndsIn c.args.schema.now (TakesRecord g.D.Directory.state c.args.schema.now) g.S.Source.left g.S.Source.failures e c.args.self.now c.take_records.new.taker c.args.records.now c.take_records.new.records) c.in-Enough.is c.take_records.ensures.ends in
    run_stopped g.D.Directory.state c.args.schema.now g.S.Source.left g.S.Source.failures c.args.self.now c.take_records.new.taker c.args.records.now c.take_records.new.records ends

pub returns-in-Enough-clause-options : goal.returns-in-Enough-clause-options
returns-in-Enough-clause-options g c =
    options_stay g.D.Directory.state c.args.schema.now g.S.Source.left g.S.Source.failures c.take_records.result c.args.self.now c.take_records.new.taker c.args.records.now c.take_records.new.records c.take_records.ensures.ends

pub returns-in-TextFault-clause-options : goal.returns-in-TextFault-clause-options
returns-in-TextFault-clause-options g c =
    options_stay g.D.Directory.state c.args.schema.now g.S.Source.left g.S.Source.failures c.take_records.result c.args.self.now c.take_records.new.taker c.args.records.now c.take_records.new.records c.take_records.ensures.ends

pub returns-in-TakeFault-clause-options : goal.returns-in-TakeFault-clause-options
returns-in-TakeFault-clause-options g c =
    options_stay g.D.Directory.state c.args.schema.now g.S.Source.left g.S.Source.failures c.take_records.result c.args.self.now c.take_records.new.taker c.args.records.now c.take_records.new.records c.take_records.ensures.ends

pub returns-in-TextFault-clause-blamed : goal.returns-in-TextFault-clause-blamed
returns-in-TextFault-clause-blamed g c =
    let ends = c.in-TextFault.ensures.ends in
    subst (IsChangesFaultCause g.D.Directory.state c.args.schema.now (answers_to_come g.S.Source.left c.args.records.now) (marks_at_end g.S.Source.left c.args.records.now) (g.S.Source.failures (source_of c.args.records.now)) (g.S.Source.failures (source_of c.take_records.new.records)) c.args.self.now)
    (sym c.ended.ensures)
    (runs_blamed g.D.Directory.state c.args.schema.now g.S.Source.left g.S.Source.failures ends.0 c.args.self.now c.take_records.new.taker c.args.records.now c.take_records.new.records c.in-TextFault.fault ends.1 ends.2)

pub returns-in-TextFault-clause-settled : goal.returns-in-TextFault-clause-settled
returns-in-TextFault-clause-settled g c is =
    let ends = c.in-TextFault.ensures.ends in
    runs_settled g.D.Directory.state c.args.schema.now g.S.Source.left g.S.Source.failures ends.0 c.args.self.now c.take_records.new.taker c.args.records.now c.take_records.new.records c.in-TextFault.fault ends.2
    (subst IsReaderFault c.ended.ensures is)
