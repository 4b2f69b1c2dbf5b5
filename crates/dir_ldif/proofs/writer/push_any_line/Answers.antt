use Rattle.std.proofs.Common.{◌∙◌}
use Rattle.std.proofs.lemmas.Result.{on_ok_weaker}
use Rattle.dir_ldif.proofs.FoldLemmas.{folded_whole}
use Rattle.dir_ldif.specs.LineText.{value_spec}
use Rattle.dir_ldif.proofs.writer.push_any_line.Goals as goal

pub returns-clause-text : goal.returns-clause-text
returns-clause-text c =
    on_ok_weaker c.push_end.result
    (λ e. e ∙ folded_whole c.args.out.now.items c.push_folded.new.out.items c.push_value.new.out.items c.args.name.now (value_spec c.args.value.now) _ _ c.in_ok-room.ensures.text c.in_ok-push_value.ensures.text)
    c.push_end.ensures.text
