use Rattle.std.proofs.Common.{◌++◌, Ok, Result, decimal, refl}
use Rattle.std.specs.declared.fmt.Error.{Error}
use Rattle.dir_tools.proofs.Shown.{two_shown}
use Rattle.dir_files.proofs.fault.show_number.Goals as goal

pub returns-clause-styled : goal.returns-clause-styled
returns-clause-styled g c =
    let ok : Result (Unit {0}) Error = Ok tt in
    two_shown g.W.Write.write_str_gives c.args.f.now c.write_str.new.self c.fmt.new.f ok c.fmt.result c.args.words.now (decimal c.args.number) (c.args.words.now ++ decimal c.args.number)
    c.in_ok-write_str.ensures.styled refl c.fmt.ensures.styled refl
