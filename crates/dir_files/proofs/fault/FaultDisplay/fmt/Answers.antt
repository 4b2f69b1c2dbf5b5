use Rattle.std.proofs.Common.{◌++◌, Ok, Result, codes, decimal, refl, sym, ap, append_assoc}
use Rattle.std.specs.declared.fmt.Error.{Error}
use Rattle.dir_tools.proofs.Shown.{two_shown}
use Rattle.dir_files.proofs.fault.FaultDisplay.fmt.Goals as goal

pub returns-in_ok-show_number-in-TooFewGroups-2-clause-styled : goal.returns-in_ok-show_number-in-TooFewGroups-2-clause-styled
returns-in_ok-show_number-in-TooFewGroups-2-clause-styled g c =
    let ok : Result (Unit {0}) Error = Ok tt in
    let wanted = codes "cannot go back " ++ decimal c.in-TooFewGroups.wanted in
    let groups = codes ", only " ++ decimal c.in-TooFewGroups.groups in
    rw (c.in-TooFewGroups.is)
    (two_shown g.W.Write.write_str_gives c.args.f.now c.show_number-in-TooFewGroups.new.f c.write_str-in-TooFewGroups.new.self ok c.write_str-in-TooFewGroups.result
    (wanted ++ groups) (codes " groups") (wanted ++ codes ", only " ++ decimal c.in-TooFewGroups.groups ++ codes " groups")
    (two_shown g.W.Write.write_str_gives c.args.f.now c.show_number.new.f c.show_number-in-TooFewGroups.new.f ok ok wanted groups (wanted ++ groups)
    c.in_ok-show_number-in-TooFewGroups.ensures.styled refl c.in_ok-show_number-in-TooFewGroups-2.ensures.styled refl)
    refl c.write_str-in-TooFewGroups.ensures.styled
    (ap (λ t. t ++ codes " groups") (sym (append_assoc wanted (codes ", only ") (decimal c.in-TooFewGroups.groups)))))
