use Rattle.std.proofs.Common.{◌++◌, Ok, Result, codes, append_assoc, refl, sym}
use Rattle.std.specs.declared.fmt.Error.{Error}
use Rattle.std.specs.Fmt.{decimal}
use Rattle.dir_tools.proofs.Shown.{two_shown}
use Rattle.dir_questions.specs.FaultText.{question_cause_text, questions_fault_text}
use Rattle.dir_questions.proofs.fault.QuestionsFaultDisplay.fmt.Goals as goal

pub returns-in_ok-show_after-in-Block-clause-styled : goal.returns-in_ok-show_after-in-Block-clause-styled
returns-in_ok-show_after-in-Block-clause-styled g c =
    let ok : Result (Unit {0}) Error = Ok tt in
    let line = c.in-Block.line in
    let why = c.in-Block.cause in
    two_shown g.W.Write.write_str_gives c.args.f.now c.show_after-in-Block.new.f c.show_after-in-Block-2.new.f ok c.show_after-in-Block-2.result
    (codes "questions, line " ++ decimal line) (codes ": " ++ question_cause_text why) (questions_fault_text c.args.self.now) c.in_ok-show_after-in-Block.ensures.styled refl c.show_after-in-Block-2.ensures.styled
    (rw c.in-Block.is (sym (append_assoc (codes "questions, line " ++ decimal line) (codes ": ") (question_cause_text why))))
