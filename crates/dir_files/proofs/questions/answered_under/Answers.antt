use Rattle.std.proofs.Common.{List, Vec, Global, inl, map, subst, sym}
use Rattle.dir_ldif.specs.declared.reader.unfolder.Line.{Line}
use Rattle.dir_names.specs.Table.Builtin.{builtin_rows}
use Rattle.dir_questions.specs.Runs.{HasLines}
use Rattle.dir_questions.proofs.RunLemmas.{of_no_lines}
use Rattle.dir_tools.specs.Inside.Asking.{configured_of}
use Rattle.dir_files.specs.Notes.{AreOnQuestions}
use Rattle.dir_files.proofs.FailureLemmas.{by_lines}
use Rattle.dir_files.proofs.QuestionCalls.{at_fault, lines_before, untold}
use Rattle.dir_files.proofs.questions.answered_under.Goals as goal

-- no blocks of lines

pub returns-in-Err-clause-answer : goal.returns-in-Err-clause-answer
returns-in-Err-clause-answer g c known is =
    let questions = g.R.Source.left c.args.questions.now in
    let copy = g.R2.Source.left c.args.copy.now in
    at_fault c.args.words.now known questions copy c.in-Err.fault c.questions_fault.result _ _
    (of_no_lines builtin_rows known questions copy copy (configured_of c.args.noted) is _ _ c.in-Err.fault c.in-Err.ensures.err).0 c.questions_fault.ensures

pub returns-in-Err-clause-notes : goal.returns-in-Err-clause-notes
returns-in-Err-clause-notes g c known is read =
    let questions = g.R.Source.left c.args.questions.now in
    untold (AreOnQuestions questions) c.args.words.now.strict known c.questions_fault.result (g.T.NoteTeller.given c.args.teller.now) c.in-Err.fault (lines_before questions _ _ c.in-Err.fault c.in-Err.ensures.err) c.questions_fault.ensures

pub returns-in-Err-clause-failed : goal.returns-in-Err-clause-failed
returns-in-Err-clause-failed g c tells =
    by_lines _ (g.R.Source.left c.args.questions.now) _ _ c.in-Err.fault c.questions_fault.result c.questions_fault.ensures c.in-Err.ensures.err tells (λ failed. inl (inl failed))

-- the lines are read

pub returns-clause-answer : goal.returns-clause-answer
returns-clause-answer g c known is =
    c.answered_lines.ensures.answer known (g.R.Source.left c.args.questions.now) is
    (subst (λ (lines : List (Vec Line Global)). HasLines (g.R.Source.left c.args.questions.now) (map (λ block. block.items) lines)) (sym c.as_slice.ensures.value) c.in-Ok.ensures.ok)

pub returns-clause-notes : goal.returns-clause-notes
returns-clause-notes g c known is read =
    c.answered_lines.ensures.notes known (g.R.Source.left c.args.questions.now) is read
    (subst (λ (lines : List (Vec Line Global)). HasLines (g.R.Source.left c.args.questions.now) (map (λ block. block.items) lines)) (sym c.as_slice.ensures.value) c.in-Ok.ensures.ok)
