use Rattle.std.proofs.Common.{◌++◌, Ok, Result, refl}
use Rattle.std.specs.declared.fmt.Error.{Error}
use Rattle.dir_tools.proofs.Shown.{two_shown}
use Rattle.dir_files.specs.Escape.{escaped}
use Rattle.dir_files.proofs.fault.show_path.Goals as goal

pub returns-clause-styled : goal.returns-clause-styled
returns-clause-styled g c =
    let ok : Result (Unit {0}) Error = Ok tt in
    two_shown g.W.Write.write_str_gives c.args.f.now c.write_str.new.self c.show_escaped.new.f ok c.show_escaped.result c.args.words.now (escaped c.args.path.now) (c.args.words.now ++ escaped c.args.path.now)
    c.in_ok-write_str.ensures.styled refl c.show_escaped.ensures.styled refl
