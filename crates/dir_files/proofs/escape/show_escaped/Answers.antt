use Rattle.std.proofs.Common.{[], ◌∷◌, ◌++◌, ap, append_assoc, refl, rules, sym, true, ◌∙◌}
use Rattle.std.specs.Str.{chars}
use Rattle.std.proofs.Output.{has_written_of_eq, has_written_styled_of_eq}
use Rattle.dir_files.specs.Escape.{escaped, shown_chars}
use Rattle.dir_files.proofs.EscapeLemmas.{chars_after_one, one_more_shown, one_more_written, whole_text}
use Rattle.dir_files.proofs.escape.show_escaped.Goals as goal

pub loop-c-preserved : goal.loop-c-preserved
loop-c-preserved g c = (
  c.loop-c.invariant.0
      ∙ ap (λ l. c.loop-c.yielded ++ l) (ap chars c.in-Some.ensures.steps.0 ∙ chars_after_one c.in-Some.c c.next.new.self.rest.now (search rules))
      ∙ sym (append_assoc c.loop-c.yielded (c.in-Some.c ∷ []) (chars c.next.new.self.rest.now)),
  λ plain. let before = c.loop-c.invariant.1 plain in
      one_more_written g.W.Write.write_str_gives c.args.f.now c.loop-c.f c.show_char.new.f c.loop-c.yielded c.in-Some.c before (c.in_ok-show_char.ensures.writes before.plain (refl {a = true})),
  λ flush. let before = c.loop-c.invariant.2 flush in
      one_more_shown g.W.Write.write_str_gives c.args.f.now c.loop-c.f c.show_char.new.f c.loop-c.yielded c.in-Some.c before (c.in_ok-show_char.ensures.styled before.flush (refl {a = true})),
)

pub returns-clause-writes : goal.returns-clause-writes
returns-clause-writes g c plain ok = has_written_of_eq g.W.Write.write_str_gives c.args.f.now (shown_chars c.loop-c.yielded) (escaped c.args.text.now) c.loop-c.f
    (whole_text c.args.text.now c.loop-c.yielded c.loop-c.c-iterator.rest.now c.loop-c.invariant.0 c.in-None.ensures.steps.0.0) (c.loop-c.invariant.1 plain)

pub returns-clause-styled : goal.returns-clause-styled
returns-clause-styled g c flush ok = has_written_styled_of_eq g.W.Write.write_str_gives c.args.f.now (shown_chars c.loop-c.yielded) (escaped c.args.text.now) c.loop-c.f
    (whole_text c.args.text.now c.loop-c.yielded c.loop-c.c-iterator.rest.now c.loop-c.invariant.0 c.in-None.ensures.steps.0.0) (c.loop-c.invariant.2 flush)
