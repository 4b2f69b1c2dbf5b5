use Rattle.std.proofs.Common.{ap, ◌∙◌}
use Rattle.std.specs.List.{insert}
use Rattle.std.specs.Result.{OnOk}
use Rattle.std.proofs.Common.{Ok, Err, Result}
use Rattle.std.proofs.lemmas.List.Edits.{insert_end}
use Rattle.dir_tree.proofs.attributes.list.AttributeList.push.Goals as goal

on_ok : {A E P Q : Type 0} → (r : Result A E) → (P → Q) → OnOk r P → OnOk r Q
on_ok (Ok x) f p = f p
on_ok (Err e) f p = p

pub returns-clause-ok : goal.returns-clause-ok
returns-clause-ok c = on_ok c.insert.result (λ put. put ∙ ap (λ n. insert c.args.self.now n c.args.attribute) c.len-end.ensures ∙ insert_end c.args.self.now c.args.attribute) c.insert.ensures.ok
