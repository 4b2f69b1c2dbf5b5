use Rattle.std.proofs.Common.{◌≡◌, ◌⊎◌, ◌<◌, ◌≤◌, ℕ, List, map, length, rules, subst, sym, Vec, Global}
use Rattle.std.specs.Io.KnownBytes.{Consumes, IsAtEnd}
use Rattle.dir_ldif.specs.Blocks.{BlocksEndIn, all_blocks, blocks_of}
use Rattle.dir_ldif.specs.declared.reader.unfolder.Line.{Line}
use Rattle.dir_questions.specs.Runs.{HasNoLines}
use Rattle.dir_questions.proofs.Sources.{has_lines, no_lines}
use Rattle.dir_questions.proofs.reading.read_lines.Goals as goal

pub returns-in-Ok-clause-ok : goal.returns-in-Ok-clause-ok
returns-in-Ok-clause-ok g c =
    let text = c.in-Some.text.items in
    let consumed : Consumes (g.R.Source.left c.args.questions.now) (g.R.Source.left c.read_bounded.new.source) text = search rules in
    let ended : (16777216 < length text) ⊎ IsAtEnd (g.R.Source.left c.read_bounded.new.source) = search rules in
    let short : length text ≤ 16777216 = search rules in
    let lines : blocks_of text ≡ all_blocks (map {A = Vec Line Global} {B = List (ℕ × List ℕ)} (λ block. block.items) c.in-Ok.blocks.items) = search rules in
    has_lines (g.R.Source.left c.args.questions.now) (g.R.Source.left c.read_bounded.new.source) text _ consumed ended short lines

pub returns-clause-err : goal.returns-clause-err
returns-clause-err g c =
    let text = c.in-Some.text.items in
    let consumed : Consumes (g.R.Source.left c.args.questions.now) (g.R.Source.left c.read_bounded.new.source) text = search rules in
    let ended : (16777216 < length text) ⊎ IsAtEnd (g.R.Source.left c.read_bounded.new.source) = search rules in
    let short : length text ≤ 16777216 = search rules in
    let ends : BlocksEndIn c.in-Err.fault text = search rules in
    subst (HasNoLines (g.R.Source.left c.args.questions.now) _ _) (sym c.lines_fault.ensures) (no_lines _ _ _ _ text c.in-Err.fault consumed ended short ends)
