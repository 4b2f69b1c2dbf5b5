use Rattle.std.proofs.Common.{ap, sym, ◌∙◌}
use Rattle.std.proofs.Output.{has_written_of_eq, has_written_styled_of_eq}
use Rattle.std.specs.Prelude.{codes}
use Rattle.dir_files.specs.Escape.{escaped}
use Rattle.dir_files.specs.NoteText.{shown_bytes}
use Rattle.dir_files.proofs.NoteLemmas.{shown_none, shown_text}
use Rattle.dir_files.proofs.note.show_bytes.Goals as goal

pub returns-in-Ok-clause-writes : goal.returns-in-Ok-clause-writes
returns-in-Ok-clause-writes g c plain ok =
    has_written_of_eq g.W.Write.write_str_gives c.args.f.now (escaped c.in-Ok.text.now) (shown_bytes c.args.bytes.now) c.show_escaped.new.f
    (ap escaped c.in-Ok.ensures.cases.0 ∙ sym (shown_text c.args.bytes.now c.in-Ok.ensures.cases.1)) (c.show_escaped.ensures.writes plain ok)

pub returns-in-Ok-clause-styled : goal.returns-in-Ok-clause-styled
returns-in-Ok-clause-styled g c flush ok =
    has_written_styled_of_eq g.W.Write.write_str_gives c.args.f.now (escaped c.in-Ok.text.now) (shown_bytes c.args.bytes.now) c.show_escaped.new.f
    (ap escaped c.in-Ok.ensures.cases.0 ∙ sym (shown_text c.args.bytes.now c.in-Ok.ensures.cases.1)) (c.show_escaped.ensures.styled flush ok)

pub returns-in-Err-clause-writes : goal.returns-in-Err-clause-writes
returns-in-Err-clause-writes g c plain ok =
    has_written_of_eq g.W.Write.write_str_gives c.args.f.now (codes "(not UTF-8)") (shown_bytes c.args.bytes.now) c.write_str.new.self
    (sym (shown_none c.args.bytes.now c.in-Err.ensures.cases.0)) (c.write_str.ensures.writes plain ok)

pub returns-in-Err-clause-styled : goal.returns-in-Err-clause-styled
returns-in-Err-clause-styled g c flush ok =
    has_written_styled_of_eq g.W.Write.write_str_gives c.args.f.now (codes "(not UTF-8)") (shown_bytes c.args.bytes.now) c.write_str.new.self
    (sym (shown_none c.args.bytes.now c.in-Err.ensures.cases.0)) (c.write_str.ensures.styled flush ok)
