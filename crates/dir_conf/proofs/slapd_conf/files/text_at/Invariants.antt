use Rattle.std.proofs.Common.{◌≡◌, drop, map}
use Rattle.dir_conf.specs.SlapdConf.Files.{file_of, text_at}
use Rattle.dir_conf.proofs.slapd_conf.files.text_at.Given as goal

abbrev pub invariant-loop-place : goal.invariant-loop-place
invariant-loop-place l = text_at 0 (map file_of l.files) l.path ≡ text_at l.place (map file_of (drop l.place l.files)) l.path
