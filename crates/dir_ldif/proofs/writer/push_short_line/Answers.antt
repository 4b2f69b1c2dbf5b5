use Rattle.std.proofs.Common.{◌≡◌, [], ◌∷◌, ◌++◌, ap, ◌∙◌, append_assoc, rules}
use Rattle.std.proofs.lemmas.Result.{on_ok_weaker}
use Rattle.std.proofs.Transfers.{starts_with_of_append, starts_with_trans}
use Rattle.dir_ldif.proofs.FoldLemmas.{written_line-short}
use Rattle.dir_ldif.proofs.writer.push_short_line.Goals as goal

pub returns-clause-text : goal.returns-clause-text
returns-clause-text c =
    let whole : c.extend_from_slice-3.new.self.items ≡ ((c.args.out.now.items ++ c.args.name.now) ++ 58 ∷ 32 ∷ []) ++ c.args.value.now = search rules in
    on_ok_weaker c.push_end.result
    (λ e. e ∙ ap (λ t. t ++ 10 ∷ []) whole ∙ written_line-short c.args.out.now.items c.args.name.now c.args.value.now c.requires.plain c.requires.fits)
    c.push_end.ensures.text

pub returns-clause-kept : goal.returns-clause-kept
returns-clause-kept c =
    let before = c.args.out.now.items in
    let name = c.args.name.now in
    let value = c.args.value.now in
    let whole : c.extend_from_slice-3.new.self.items ≡ ((before ++ name) ++ 58 ∷ 32 ∷ []) ++ value = search rules in
    let flat = append_assoc (before ++ name) (58 ∷ 32 ∷ []) value ∙ append_assoc before name (58 ∷ 32 ∷ value) in
    starts_with_trans c.push_end.new.out.items c.extend_from_slice-3.new.self.items before c.push_end.ensures.kept (starts_with_of_append _ before (name ++ 58 ∷ 32 ∷ value) (whole ∙ flat))
