use Rattle.std.proofs.Common.{Ok, Result, codes, refl}
use Rattle.std.specs.declared.fmt.Error.{Error}
use Rattle.std.specs.Fmt.{decimal}
use Rattle.dir_files.specs.NoteText.{at_line}
use Rattle.dir_files.proofs.EscapeLemmas.{three_shown}
use Rattle.dir_files.proofs.note.show_line.Goals as goal

pub returns-clause-styled : goal.returns-clause-styled
returns-clause-styled g c =
    let ok : Result (Unit {0}) Error = Ok tt in
    three_shown g.W.Write.write_str_gives c.args.f.now c.write_str.new.self c.fmt.new.f c.write_str-2.new.self ok ok c.write_str-2.result
    c.args.before.now (decimal c.args.line) (codes ": ") (at_line c.args.before.now c.args.line) refl
    c.in_ok-write_str.ensures.styled refl c.in_ok-fmt.ensures.styled refl c.write_str-2.ensures.styled
