use Rattle.std.proofs.Common.{◌≡◌, ◌++◌, false}
use Rattle.dir_acl.specs.Config.{after_lines, no_settings}
use Rattle.dir_acl.specs.Inside.Noting.{has_rules}
use Rattle.dir_acl.specs.Inside.NotedTypes.{noted_by}
use Rattle.dir_acl.specs.Inside.ReadingConfig.{settings_of}
use Rattle.dir_acl.specs.Notes.{lines_notes}
use Rattle.dir_acl.proofs.note.lines.read_noted_lines.Given as goal

-- the settings and the notes so far, and those of the lines to come, are those of all lines
abbrev pub invariant-loop-line : goal.invariant-loop-line
invariant-loop-line l = record {
  read : after_lines l.types.schema.now no_settings l.fn.lines.items ≡ after_lines l.types.schema.now (settings_of l.noted.settings) l.line-iterator.rest.items;
  notes : lines_notes (noted_by l.types) false false l.fn.lines.items
      ≡ l.noted.notes.items ++ lines_notes (noted_by l.types) l.noted.settings.is_passed_over (has_rules (settings_of l.noted.settings).rules) l.line-iterator.rest.items;
}
