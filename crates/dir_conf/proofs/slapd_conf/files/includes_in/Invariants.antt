use Rattle.std.proofs.Common.{◌≡◌, ◌++◌, drop, map}
use Rattle.std.specs.List.{flat_map}
use Rattle.dir_conf.specs.SlapdConf.Files.{included_path, includes_in, one_or_none}
use Rattle.dir_conf_text.specs.Lines.{line_by}
use Rattle.dir_conf.proofs.slapd_conf.files.includes_in.Given as goal

abbrev pub invariant-loop-line : goal.invariant-loop-line
invariant-loop-line l =
    includes_in l.text
    ≡ l.paths.items ++ flat_map (λ line. one_or_none (included_path line.1)) (map line_by (drop l.line-index l.line-items))
