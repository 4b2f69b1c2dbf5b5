use Rattle.std.proofs.Common.{Ok, Result, refl}
use Rattle.std.specs.declared.fmt.Error.{Error}
use Rattle.std.specs.Fmt.{formatter_spec}
use Rattle.dir_tools.proofs.Shown.{shown_after}
use Rattle.dir_questions.proofs.fault.show_after.Goals as goal

pub returns-clause-styled : goal.returns-clause-styled
returns-clause-styled g c =
    let ok : Result (Unit {0}) Error = Ok tt in
    shown_after g.W.Write.write_str_gives c.args.f.now c.write_str.new.self c.fmt.new.f ok c.fmt.result formatter_spec c.args.words.now (g.D.Display.styled_output c.args.value.now) (λ w. w.spec) c.in_ok-write_str.ensures.styled refl c.fmt.ensures.styled
