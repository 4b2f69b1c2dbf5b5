use Rattle.std.proofs.Common.{◌++◌, Ok, Result, codes, append_assoc, refl, sym}
use Rattle.std.specs.declared.fmt.Error.{Error}
use Rattle.std.specs.Fmt.{decimal}
use Rattle.dir_acl.specs.FaultText.{config_cause_text}
use Rattle.dir_tools.specs.FaultText.{tool_fault_text}
use Rattle.dir_tools.specs.Report.{cause_text}
use Rattle.dir_tools.proofs.Shown.{two_shown}
use Rattle.dir_tools.proofs.fault.ToolFaultDisplay.fmt.Goals as goal

pub returns-in_ok-show_after-in-BadCopy-clause-styled : goal.returns-in_ok-show_after-in-BadCopy-clause-styled
returns-in_ok-show_after-in-BadCopy-clause-styled g c =
    let ok : Result (Unit {0}) Error = Ok tt in
    let line = c.in-BadCopy.line in
    let why = c.in-BadCopy.cause in
    two_shown g.W.Write.write_str_gives c.args.f.now c.show_after.new.f c.show_after-in-BadCopy.new.f ok c.show_after-in-BadCopy.result
    (codes "copy, line " ++ decimal line) (codes ": " ++ cause_text why) (tool_fault_text c.args.self.now) c.in_ok-show_after-in-BadCopy.ensures.styled refl c.show_after-in-BadCopy.ensures.styled
    (rw c.in-BadCopy.is (sym (append_assoc (codes "copy, line " ++ decimal line) (codes ": ") (cause_text why))))

pub returns-in_ok-show_after-in-Config-clause-styled : goal.returns-in_ok-show_after-in-Config-clause-styled
returns-in_ok-show_after-in-Config-clause-styled g c =
    let ok : Result (Unit {0}) Error = Ok tt in
    let line = c.in-Config.fault.line in
    let why = c.in-Config.fault.cause in
    two_shown g.W.Write.write_str_gives c.args.f.now c.show_after-in-Config.new.f c.show_after-in-Config-2.new.f ok c.show_after-in-Config-2.result
    (codes "config, line " ++ decimal line) (codes ": " ++ config_cause_text why) (tool_fault_text c.args.self.now) c.in_ok-show_after-in-Config.ensures.styled refl c.show_after-in-Config-2.ensures.styled
    (rw c.in-Config.is (sym (append_assoc (codes "config, line " ++ decimal line) (codes ": ") (config_cause_text why))))

pub returns-in_ok-show_after-in-TooFewGroups-clause-styled : goal.returns-in_ok-show_after-in-TooFewGroups-clause-styled
returns-in_ok-show_after-in-TooFewGroups-clause-styled g c =
    let ok : Result (Unit {0}) Error = Ok tt in
    let groups = c.in-TooFewGroups.groups in
    two_shown g.W.Write.write_str_gives c.args.f.now c.show_after-in-TooFewGroups.new.f c.write_str-in-TooFewGroups.new.self ok c.write_str-in-TooFewGroups.result
    (codes "cannot go back, only " ++ decimal groups) (codes " groups") (tool_fault_text c.args.self.now) c.in_ok-show_after-in-TooFewGroups.ensures.styled refl c.write_str-in-TooFewGroups.ensures.styled
    (rw c.in-TooFewGroups.is (sym (append_assoc (codes "cannot go back, only ") (decimal groups) (codes " groups"))))
