use Rattle.std.proofs.Common.{[], Err, refl}
use Rattle.dir_tools.specs.declared.run.Summary.{Summary}
use Rattle.dir_tools.specs.Headline.{RunTerms, RunOutput, terms}
use Rattle.dir_tools.specs.RunAnswers.{Sources, sources}
use Rattle.dir_tools.specs.Writing.{TakenBytes}
use Rattle.dir_tools.proofs.TextLemmas.{answers_write, dry_of, fault_whole, unwritten, write_whole, written_so}
use Rattle.dir_tools.proofs.modify.run_modify_holding.Goals as goal

pub returns-in-Err-clause-headline : goal.returns-in-Err-clause-headline
returns-in-Err-clause-headline g c =
    let q : RunTerms = terms c.args.schema.now c.args.suffix.now c.args.options in
    let known : Sources = sources (g.R.Source.left c.args.copy.now) (g.R2.Source.left c.args.changes.now) in
    let none : RunOutput = record { texts = record { undo = []; out = []; report = [] }; summary = record { accepted = 0; refused = 0 } } in
    let u : TakenBytes = (g.W.Sink.taken c.args.undo.now, g.W.Sink.taken c.args.undo.now) in
    let o : TakenBytes = (g.W2.Sink.taken c.args.out.now, g.W2.Sink.taken c.args.out.now) in
    let w : TakenBytes = (g.W3.Sink.taken c.args.report.now, g.W3.Sink.taken c.args.report.now) in
    let both = unwritten Summary q known none c.in-Err.fault u o w c.in-Err.ensures.blamed refl refl refl in
    (none, both.0, both.1, fault_whole q known none c.in-Err.fault c.in-Err.ensures.blamed)

pub returns-clause-headline : goal.returns-clause-headline
returns-clause-headline g c =
    let q : RunTerms = terms c.args.schema.now c.args.suffix.now c.args.options in
    let known : Sources = sources (g.R.Source.left c.args.copy.now) (g.R2.Source.left c.args.changes.now) in
    let made = c.in-Ok.ensures.ok in
    let u : TakenBytes = (g.W.Sink.taken c.args.undo.now, g.W.Sink.taken c.write_texts.new.undo) in
    let o : TakenBytes = (g.W2.Sink.taken c.args.out.now, g.W2.Sink.taken c.write_texts.new.out) in
    let w : TakenBytes = (g.W3.Sink.taken c.args.report.now, g.W3.Sink.taken c.write_texts.new.report) in (
      made.0,
      written_so {A = Summary} made.0.texts c.in-Ok.texts u o w c.args.options.dry (Err c.in-Err-write_texts.fault) made.1 (dry_of c.args.options.dry made.0.texts c.in-Ok.texts made.1) c.in-Err-write_texts.ensures.texts,
      answers_write q known made.0 c.in-Err-write_texts.fault c.in-Err-write_texts.ensures.fault made.3,
      write_whole q known made.0 c.in-Err-write_texts.fault c.in-Err-write_texts.ensures.fault made.3,
    )
