use Rattle.std.proofs.Common.{◌≡◌, ◌++◌}
use Rattle.std.specs.Fmt.{HasWritten, HasWrittenStyled, IsFlush, IsPlainFormatter}
use Rattle.std.specs.Str.{chars}
use Rattle.dir_files.specs.Escape.{shown_chars}
use Rattle.dir_files.proofs.escape.show_escaped.Given as goal

abbrev pub invariant-loop-c : goal.invariant-loop-c
invariant-loop-c g l = (chars l.text ≡ l.yielded ++ chars l.c-iterator.rest.now)
    × (IsPlainFormatter l.initial.f → HasWritten g.W.Write.write_str_gives l.initial.f (shown_chars l.yielded) l.f)
    × (IsFlush l.initial.f → HasWrittenStyled g.W.Write.write_str_gives l.initial.f (shown_chars l.yielded) l.f)
