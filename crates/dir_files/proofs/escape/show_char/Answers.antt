use Rattle.std.proofs.Common.{Ok, Result, codes, refl, rules}
use Rattle.std.specs.declared.fmt.Error.{Error}
use Rattle.std.specs.Char.{encode_utf8}
use Rattle.dir_files.specs.Escape.{shown_char}
use Rattle.dir_files.proofs.EscapeLemmas.{control_text, three_shown, three_written}
use Rattle.dir_files.proofs.escape.show_char.Goals as goal

pub returns-clause-writes : goal.returns-clause-writes
returns-clause-writes g c =
    let ok : Result (Unit {0}) Error = Ok tt in
    three_written g.W.Write.write_str_gives c.args.f.now c.write_str.new.self c.write_char-2.new.self c.write_char-3.new.self ok ok c.write_char-3.result
    (codes "\\x") (encode_utf8 c.hex_digit.result) (encode_utf8 c.hex_digit-2.result) (shown_char c.args.c)
    (control_text c.args.c c.hex_digit.result c.hex_digit-2.result (search rules) c.hex_digit.ensures.value c.hex_digit-2.ensures.value c.hex_digit.ensures.ascii c.hex_digit-2.ensures.ascii)
    c.in_ok-write_str.ensures.writes refl c.in_ok-write_char.ensures.writes refl c.write_char-3.ensures.writes

pub returns-clause-styled : goal.returns-clause-styled
returns-clause-styled g c =
    let ok : Result (Unit {0}) Error = Ok tt in
    three_shown g.W.Write.write_str_gives c.args.f.now c.write_str.new.self c.write_char-2.new.self c.write_char-3.new.self ok ok c.write_char-3.result
    (codes "\\x") (encode_utf8 c.hex_digit.result) (encode_utf8 c.hex_digit-2.result) (shown_char c.args.c)
    (control_text c.args.c c.hex_digit.result c.hex_digit-2.result (search rules) c.hex_digit.ensures.value c.hex_digit-2.ensures.value c.hex_digit.ensures.ascii c.hex_digit-2.ensures.ascii)
    c.in_ok-write_str.ensures.styled refl c.in_ok-write_char.ensures.styled refl c.write_char-3.ensures.styled
