use Rattle.std.proofs.Common.{Ok, Result, refl}
use Rattle.std.specs.declared.fmt.Error.{Error}
use Rattle.dir_conf.specs.FaultText.{conf_fault_text, line_of}
use Rattle.dir_files.specs.FaultText.{conf_file_text, conf_line_text, conf_text}
use Rattle.dir_files.proofs.EscapeLemmas.{three_shown}
use Rattle.dir_files.proofs.fault.show_conf_fault.Goals as goal

pub returns-clause-styled : goal.returns-clause-styled
returns-clause-styled g c =
    let ok : Result (Unit {0}) Error = Ok tt in
    let fault = c.args.fault.now in
    three_shown g.W.Write.write_str_gives c.args.f.now c.show_conf_file.new.f c.show_conf_line.new.f c.fmt.new.f ok ok c.fmt.result
    (conf_file_text fault.file) (conf_line_text (line_of fault.fault)) (conf_fault_text fault.fault) (conf_text fault) refl
    c.in_ok-show_conf_file.ensures.styled refl c.in_ok-show_conf_line.ensures.styled refl c.fmt.ensures.styled
