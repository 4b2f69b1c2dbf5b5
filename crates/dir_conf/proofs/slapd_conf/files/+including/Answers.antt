use Rattle.std.proofs.Common.{map, sym, subst, Result, rules}
use Rattle.dir_conf.specs.declared.fault.ConfFault.{ConfFault}
use Rattle.dir_conf.specs.Outcome.{GivesConf}
use Rattle.dir_conf.specs.SlapdConf.Files.{Found, file_of, found_by}
use Rattle.dir_conf_text.specs.Lines.{line_by}
use Rattle.dir_conf.proofs.Included.{followed, not_followed}
use Rattle.dir_conf.proofs.slapd_conf.files.+including.Goals as goal

pub after_line-returns-in-Some : goal.after_line-returns-in-Some
after_line-returns-in-Some t c =
    subst (λ (wanted : Result Found ConfFault). GivesConf found_by c.after_file.result wanted)
    (sym (followed (map file_of c.args.files.now) c.args.below c.args.file (line_by c.args.line) (found_by c.args.found) c.in-Some.place c.in-Some.text.now (search rules)))
    c.after_file.ensures

pub after_line-returns-in-None : goal.after_line-returns-in-None
after_line-returns-in-None t c =
    subst (λ (wanted : Result Found ConfFault). GivesConf found_by c.with_line.result wanted)
    (sym (not_followed (map file_of c.args.files.now) c.args.below c.args.file (line_by c.args.line) (found_by c.args.found) (search rules)))
    c.with_line.ensures
