use Rattle.std.proofs.Common.{◌≡◌, drop}
use Rattle.dir_acl.specs.Config.{no_settings}
use Rattle.dir_acl.specs.Config.Opening.{after_open_lines}
use Rattle.dir_acl.specs.Inside.NotedTypes.{noted_by}
use Rattle.dir_acl.specs.Inside.ReadingConfig.{settings_of}
use Rattle.dir_acl.proofs.config.opening.read_open_lines.Given as goal

-- the settings so far and the lines to come are those of all lines
abbrev pub invariant-loop-line : goal.invariant-loop-line
invariant-loop-line l = after_open_lines (noted_by l.types) no_settings l.lines ≡ after_open_lines (noted_by l.types) (settings_of l.settings) (drop l.line-index l.lines)
