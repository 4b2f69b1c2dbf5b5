use Rattle.std.proofs.Common.{◌≡◌, Err, Result, ap, refl, rules, subst, sym, ◌∙◌}
use Rattle.dir_names.specs.Table.Builtin.{builtin_rows}
use Rattle.dir_tools.specs.declared.acl.Question.{Question}
use Rattle.dir_tools.specs.declared.fault.ToolFault.TheVariants as tool
use Rattle.dir_tools.specs.AccessAnswers.{access_sources}
use Rattle.dir_tools.specs.AccessReport.{AccessTerms, access_terms}
use Rattle.dir_tools.specs.WordNotes.{notes_on_words}
use Rattle.dir_files.specs.AccessRuns.{Asks, access_terms_of, asked_for}
use Rattle.dir_files.specs.declared.fault.Fault.{Fault}
use Rattle.dir_files.specs.Notes.{AreNotesOf, AreOnWords, TellsFor}
use Rattle.dir_files.specs.Runs.{Made}
use Rattle.dir_files.proofs.AccessCalls.{answered, unread}
use Rattle.dir_files.proofs.NoteLemmas as note_lemmas
use Rattle.dir_files.proofs.NoteLemmas.{after_config, all_told, are_notes, ended}
use Rattle.dir_files.proofs.slapacl.answer_under.Goals as goal

pub returns-in-Err-clause-calls : goal.returns-in-Err-clause-calls
returns-in-Err-clause-calls g c known is =
    unread Unit c.args.words.now known (g.R.Source.left c.args.copy.now) tool.Memory c.run_fault.result (g.F.FileSystem.disk c.args.files.now) tt c.run_fault.ensures

pub returns-clause-calls : goal.returns-clause-calls
returns-clause-calls g c known is =
    let words = c.args.words.now in
    let sources = access_sources known (g.R.Source.left c.args.copy.now) in
    let a = g.F.FileSystem.disk c.args.files.now in
    let b = g.F.FileSystem.disk c.report.new.files in
    let terms : access_terms builtin_rows c.in-Ok.asked.0 ≡ access_terms_of words = ap (λ (question : Question). access_terms builtin_rows question) c.in-Ok.ensures.question in
    answered words sources c.report.result a b
    (subst (λ (t : AccessTerms). Made a b (λ d. Asks t sources c.report.result)) terms (c.report.ensures.calls builtin_rows known is))

pub returns-in-Err-clause-notes : goal.returns-in-Err-clause-notes
returns-in-Err-clause-notes g c known is read =
    note_lemmas.none_told Unit (AreOnWords (asked_for c.args.words.now).words) c.args.words.now.strict known tool.Memory c.run_fault.result (g.T.NoteTeller.given c.args.teller.now) tt c.run_fault.ensures

pub returns-clause-notes : goal.returns-clause-notes
returns-clause-notes g c known is read =
    let words = c.args.words.now in
    let notes = c.as_slice.result.now in
    let asked = AreOnWords (asked_for words).words in
    let are : AreNotesOf asked known notes = are_notes asked known builtin_rows c.args.noted (notes_on_words c.args.noted.types (asked_for words).words) notes refl is read refl (c.as_slice.ensures.value ∙ c.in-Ok.ensures.notes) in
    (notes, c.in_ok-tell.ensures.given, all_told asked words.strict known notes c.report.result (after_config c.report.result c.report.ensures.faults) are c.in_ok-tell.ensures.ok)

pub returns-in_err-tell-clause-notes : goal.returns-in_err-tell-clause-notes
returns-in_err-tell-clause-notes g c known is read =
    let words = c.args.words.now in
    let notes = c.as_slice.result.now in
    let fault = c.in_err-tell.field-0.0 in
    let asked = AreOnWords (asked_for words).words in
    let are : AreNotesOf asked known notes = are_notes asked known builtin_rows c.args.noted (notes_on_words c.args.noted.types (asked_for words).words) notes refl is read refl (c.as_slice.ensures.value ∙ c.in-Ok.ensures.notes) in
    let result : c.from_residual.result ≡ Err fault = search rules in
    subst (λ (r : Result Unit Fault). TellsFor asked words.strict known r (g.T.NoteTeller.given c.args.teller.now) (g.T.NoteTeller.given c.tell.new.teller)) (sym result)
    (notes, c.in_err-tell.ensures.given, ended Unit asked words.strict known notes fault c.in_err-tell.ensures.err are c.in_err-tell.ensures.some)
