use Rattle.std.proofs.Common.{◌++◌, Ok, Result, codes, refl}
use Rattle.std.specs.declared.fmt.Error.{Error}
use Rattle.dir_tools.proofs.Shown.{two_shown}
use Rattle.dir_files.specs.NoteText.{shown_bytes, word_place, word_text}
use Rattle.dir_files.proofs.NoteLemmas.{two_written}
use Rattle.dir_files.proofs.note.show_word.Goals as goal

pub returns-clause-writes : goal.returns-clause-writes
returns-clause-writes g c =
    let ok : Result (Unit {0}) Error = Ok tt in
    two_written g.W.Write.write_str_gives c.args.f.now c.show_word_place.new.f c.show_between.new.f ok c.show_between.result
    (word_place c.args.line) (codes "word \"" ++ shown_bytes c.args.word.now ++ codes "\": ") (word_text c.args.line c.args.word.now) c.in_ok-show_word_place.ensures.writes refl c.show_between.ensures.writes refl

pub returns-clause-styled : goal.returns-clause-styled
returns-clause-styled g c =
    let ok : Result (Unit {0}) Error = Ok tt in
    two_shown g.W.Write.write_str_gives c.args.f.now c.show_word_place.new.f c.show_between.new.f ok c.show_between.result
    (word_place c.args.line) (codes "word \"" ++ shown_bytes c.args.word.now ++ codes "\": ") (word_text c.args.line c.args.word.now) c.in_ok-show_word_place.ensures.styled refl c.show_between.ensures.styled refl
