use Rattle.std.proofs.Common.{ap, ◌∙◌}
use Rattle.std.proofs.lemmas.Result.{on_ok_weaker}
use Rattle.dir_tree.specs.Dir.{put_entry}
use Rattle.dir_change.proofs.modify.settle.Goals as goal

pub returns-clause-ok : goal.returns-clause-ok
returns-clause-ok g c =
    let d = g.D.Directory.state c.args.directory.now in
    let k = c.args.key.now in
    let done = c.exchanged_entry-entry in
    on_ok_weaker done.result.1 (λ exchanged. (done.result.0.attributes, exchanged, c.replace.ensures.new ∙ ap (put_entry d k) done.ensures.rest)) done.ensures.ok
