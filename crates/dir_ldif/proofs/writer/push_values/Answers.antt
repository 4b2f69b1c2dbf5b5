use Rattle.std.proofs.Common.{◌≡◌, ◌+◌, [], ◌∷◌, ◌++◌, take, sym, ap, subst, ◌∙◌, arith}
use Rattle.std.proofs.lemmas.Grind.{common_steps}
use Rattle.std.proofs.lemmas.List.{take_more}
use Rattle.std.proofs.Transfers.{starts_with_of_append, starts_with_trans}
use Rattle.dir_ldif.specs.SoundRecords.{ValuesAreBytes, IsBytes}
use Rattle.dir_ldif.proofs.ReadIsSound.{lines_more}
use Rattle.dir_ldif.proofs.writer.push_values.Goals as goal

pub returns-in_err-push_line-clause-kept : goal.returns-in_err-push_line-clause-kept
returns-in_err-push_line-clause-kept c =
    starts_with_trans c.push_line.new.out.items c.loop-line.out.items c.args.out.now.items c.push_line.ensures.kept (starts_with_of_append _ _ _ c.loop-line.invariant.text)

pub loop-line-preserved : goal.loop-line-preserved
loop-line-preserved c =
    let done = take c.loop-line.line-index c.args.lines.now in
    let taken : take (c.loop-line.line-index + 1) c.args.lines.now ≡ done ++ c.line-item.result ∷ [] =
    take_more c.args.lines.now c.loop-line.line-index c.line-item.result (omega arith) ∙ ap (λ x. done ++ x ∷ []) (sym c.line-item.is) in
    record { text = grind (arith, common_steps); bytes = subst ValuesAreBytes (sym taken) (lines_more done c.line-item.result c.loop-line.invariant.bytes (subst IsBytes c.as_slice.ensures c.in_ok-push_line.ensures.bytes)) }

pub returns-clause-text : goal.returns-clause-text
returns-clause-text c = grind (arith, common_steps)

pub returns-clause-bytes : goal.returns-clause-bytes
returns-clause-bytes c = grind (arith, common_steps)

pub returns-clause-kept : goal.returns-clause-kept
returns-clause-kept c = grind (arith, common_steps)
