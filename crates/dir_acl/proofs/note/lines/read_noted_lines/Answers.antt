use Rattle.std.proofs.Common.{◌≡◌, ◌∷◌, subst}
use Rattle.dir_acl.specs.Inside.NotedTypes.{noted_by}
use Rattle.dir_acl.specs.Inside.ReadingConfig.{settings_of}
use Rattle.dir_acl.proofs.NotedLines.{Goes, goes_on}
use Rattle.dir_acl.proofs.note.lines.read_noted_lines.Goals as goal

pub loop-line-preserved-in_ok-noted : goal.loop-line-preserved-in_ok-noted
loop-line-preserved-in_ok-noted c =
    let rest : c.loop-line.line-iterator.rest.items ≡ c.in-Some.line ∷ c.next.new.self.rest.items = c.in-Some.ensures.steps.0 in
    let so : Goes (noted_by c.args.types.now) c.args.lines.items (settings_of c.loop-line.noted.settings) c.loop-line.noted.notes.items (c.in-Some.line ∷ c.next.new.self.rest.items) =
    subst (Goes (noted_by c.args.types.now) c.args.lines.items (settings_of c.loop-line.noted.settings) c.loop-line.noted.notes.items) rest
    (record { settings_left = c.loop-line.invariant.read; notes_left = c.loop-line.invariant.notes }) in
    let goes : Goes (noted_by c.args.types.now) c.args.lines.items (settings_of c.in_ok-noted.noted.settings) c.in_ok-noted.noted.notes.items c.next.new.self.rest.items =
    goes_on (noted_by c.args.types.now) c.args.lines.items (settings_of c.loop-line.noted.settings) c.loop-line.noted.notes.items c.in-Some.line c.next.new.self.rest.items
    (settings_of c.in_ok-noted.noted.settings) c.in_ok-noted.noted.notes.items so c.in_ok-noted.ensures.read c.in_ok-noted.ensures.notes in
    record { read = goes.settings_left; notes = goes.notes_left }
