use Rattle.std.proofs.Common.{◌≡◌, drop}
use Rattle.dir_acl.specs.Config.{after_lines, no_settings}
use Rattle.dir_acl.specs.Inside.ReadingConfig.{settings_of}
use Rattle.dir_acl.proofs.config.directives.read_lines.Given as goal

-- the settings so far and the lines to come are those of all lines
abbrev pub invariant-loop-line : goal.invariant-loop-line
invariant-loop-line l = after_lines l.schema no_settings l.lines ≡ after_lines l.schema (settings_of l.settings) (drop l.line-index l.lines)
