use Rattle.std.proofs.Common.{◌++◌, Ok, Result, refl}
use Rattle.std.specs.declared.fmt.Error.{Error}
use Rattle.dir_files.specs.NoteText.{shown_bytes}
use Rattle.dir_files.proofs.EscapeLemmas.{three_shown}
use Rattle.dir_files.proofs.note.show_between.Goals as goal

pub returns-clause-styled : goal.returns-clause-styled
returns-clause-styled g c =
    let ok : Result (Unit {0}) Error = Ok tt in
    three_shown g.W.Write.write_str_gives c.args.f.now c.write_str.new.self c.show_bytes.new.f c.write_str-2.new.self ok ok c.write_str-2.result
    c.args.before.now (shown_bytes c.args.text.now) c.args.after.now (c.args.before.now ++ shown_bytes c.args.text.now ++ c.args.after.now) refl
    c.in_ok-write_str.ensures.styled refl c.in_ok-show_bytes.ensures.styled refl c.write_str-2.ensures.styled
