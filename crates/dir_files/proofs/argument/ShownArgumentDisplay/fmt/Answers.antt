use Rattle.std.proofs.Common.{◌++◌, ℕ, List, Ok, Result, ap, codes, refl}
use Rattle.std.specs.declared.fmt.Error.{Error}
use Rattle.dir_tools.proofs.Shown.{two_shown}
use Rattle.dir_files.specs.NoteText.{argument_text, line_text, shown_bytes}
use Rattle.dir_files.proofs.NoteLemmas.{two_written}
use Rattle.dir_files.proofs.argument.ShownArgumentDisplay.fmt.Goals as goal

pub returns-in-Some-clause-writes : goal.returns-in-Some-clause-writes
returns-in-Some-clause-writes g c =
    let ok : Result (Unit {0}) Error = Ok tt in
    let line = c.args.self.now.0.now.line in
    two_written g.W.Write.write_str_gives c.args.f.now c.show_line.new.f c.show_between.new.f ok c.show_between.result
    (line_text line) (codes "\"" ++ shown_bytes c.as_slice.result.now ++ codes "\"") (argument_text c.args.self.now.0.now) c.in_ok-show_line.ensures.writes refl c.show_between.ensures.writes
    (rw c.in-Some.is (ap (λ (t : List ℕ). line_text line ++ (codes "\"" ++ shown_bytes t ++ codes "\"")) c.as_slice.ensures))

pub returns-in-Some-clause-styled : goal.returns-in-Some-clause-styled
returns-in-Some-clause-styled g c =
    let ok : Result (Unit {0}) Error = Ok tt in
    let line = c.args.self.now.0.now.line in
    two_shown g.W.Write.write_str_gives c.args.f.now c.show_line.new.f c.show_between.new.f ok c.show_between.result
    (line_text line) (codes "\"" ++ shown_bytes c.as_slice.result.now ++ codes "\"") (argument_text c.args.self.now.0.now) c.in_ok-show_line.ensures.styled refl c.show_between.ensures.styled
    (rw c.in-Some.is (ap (λ (t : List ℕ). line_text line ++ (codes "\"" ++ shown_bytes t ++ codes "\"")) c.as_slice.ensures))

pub returns-in-None-clause-styled : goal.returns-in-None-clause-styled
returns-in-None-clause-styled g c =
    let ok : Result (Unit {0}) Error = Ok tt in
    two_shown g.W.Write.write_str_gives c.args.f.now c.show_line.new.f c.write_str.new.self ok c.write_str.result
    (line_text c.args.self.now.0.now.line) (codes "an open quote or a final backslash") (argument_text c.args.self.now.0.now) c.in_ok-show_line.ensures.styled refl c.write_str.ensures.styled (rw c.in-None.is refl)
