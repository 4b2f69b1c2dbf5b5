use Rattle.std.proofs.Common.{◌≡◌, ◌∷◌, ◌++◌, true, sym, ap, ◌∙◌}
use Rattle.dir_ldif.specs.Bytes.{begins_with}
use Rattle.dir_ldif.specs.LogicalLines.{Line, logical_lines}
use Rattle.dir_ldif.specs.Remainder.{remainder_from}
use Rattle.dir_ldif.proofs.BytesLemmas.{begins_with-append}
use Rattle.dir_ldif.proofs.LogicalLineLemmas.{logical_lines-continued, TakesLine-same, some_of_begins, some_of_kept_line}
use Rattle.dir_ldif.proofs.reader.unfolder.Unfolder.continue_line.Goals as goal

pub returns-clause-takes : goal.returns-clause-takes
returns-clause-takes c =
    let j = c.args.self.now in
    let last = c.args.last in
    let front = c.args.front.now in
    let text = front ++ c.args.back.now in
    let space : begins_with 32 text ≡ true = begins_with-append 32 front c.args.back.now (some_of_begins 32 front c.requires.space) ∙ c.requires.space in
    λ n. TakesLine-same _ _ c.set_last.result c.set_last.new.self (λ more. ap (remainder_from j.marks j.begun j.block.items) (logical_lines-continued last n text more (some_of_kept_line last c.requires.continuable) space ∙ ap (λ (l : Line). logical_lines (l ∷ more)) (sym c.in_ok-with_continuation.ensures.ok))) c.set_last.ensures.takes
