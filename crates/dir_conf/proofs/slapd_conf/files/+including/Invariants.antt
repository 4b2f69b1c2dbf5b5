use Rattle.std.proofs.Common.{◌≡◌, ◌+◌, ◌*◌, map}
use Rattle.dir_conf.specs.SlapdConf.Files.{after_each, after_line, file_of, found_by}
use Rattle.dir_conf_text.specs.Lines.{line_by}
use Rattle.dir_conf.proofs.slapd_conf.files.+including.Given as goal

abbrev pub decreases-after_file : goal.decreases-after_file
decreases-after_file l = 2 * l.below + 1

abbrev pub decreases-after_line : goal.decreases-after_line
decreases-after_line l = 2 * l.below

abbrev pub invariant-after_file-loop-line : goal.invariant-after_file-loop-line
invariant-after_file-loop-line l =
    after_each (after_line (map file_of l.fn.files) l.fn.below l.fn.file) (map line_by l.initial.line-iterator.rest.items) (found_by l.initial.found)
    ≡ after_each (after_line (map file_of l.fn.files) l.fn.below l.fn.file) (map line_by l.line-iterator.rest.items) (found_by l.found)
