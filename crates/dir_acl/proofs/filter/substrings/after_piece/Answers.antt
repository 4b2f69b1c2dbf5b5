use Rattle.std.proofs.Common.{sym, ap, subst, ◌∙◌, Some}
use Rattle.std.specs.Option.{option_copied}
use Rattle.memchr.specs.Find.{FindsNeedle}
use Rattle.dir_acl.proofs.Cuts.{after_first, after_none}
use Rattle.dir_acl.proofs.filter.substrings.after_piece.Goals as goal

pub returns-in_err-at : goal.returns-in_err-at
returns-in_err-at c =
    let nowhere = subst (FindsNeedle c.args.text.now c.args.piece.now 0) c.in_err-at.was c.find.ensures in
    ap option_copied c.from_residual.ensures ∙ sym (after_none c.args.piece.now c.args.text.now nowhere)

pub returns : goal.returns
returns c =
    let first = subst (FindsNeedle c.args.text.now c.args.piece.now 0) c.in_ok-at.was c.find.ensures in
    ap Some c.split_at.ensures.back ∙ sym (after_first c.args.piece.now c.args.text.now c.in_ok-at.at first.0.before first.1)
