use Rattle.std.proofs.Common.{◌≡◌, ap, subst, sym, ◌∙◌}
use Rattle.dir_names.specs.Keys.{DnKeys}
use Rattle.dir_tree.specs.Dir.{Dir}
use Rattle.dir_tools.specs.CompleteRecords.{CompleteRecordsLoad, GaveBytes, answers_after}
use Rattle.dir_tools.specs.CopyFaults.{HasNoEntries, HasRdn}
use Rattle.dir_tools.specs.CopyOf.{empty_copy}
use Rattle.dir_tools.proofs.CopyLemmas.{if_err, if_ok}
use Rattle.dir_tools.proofs.acl.read_copy_under.Goals as goal

pub returns-in-Ok-clause-settled : goal.returns-in-Ok-clause-settled
returns-in-Ok-clause-settled g c =
    let rows = c.args.schema.now in
    let cloned : c.suffix.result.now ≡ c.in-Ok.suffix = cc c.in-Ok.ensures in
    let same : c.new.result.suffix ≡ c.args.config.now.suffix = ap (λ (d : Dir). d.suffix) c.new.ensures ∙ sym (sym c.suffix.ensures ∙ cloned) in
    let bare : HasNoEntries c.new.result = ap (λ (d : Dir). d.entries) c.new.ensures in
    if_err c.read_copy.result (λ e h is.
    subst (λ (k : DnKeys). GaveBytes (g.R.Source.left c.args.copy.now) (g.R.Source.left c.read_copy.new.copy) (λ bytes. CompleteRecordsLoad rows (empty_copy k) (answers_after rows bytes))) same (h is bare)) c.read_copy.ensures.settled

pub returns-in-Ok-clause-sound : goal.returns-in-Ok-clause-sound
returns-in-Ok-clause-sound g c =
    let cloned : c.suffix.result.now ≡ c.in-Ok.suffix = cc c.in-Ok.ensures in
    let same : c.new.result.suffix ≡ c.args.config.now.suffix = ap (λ (d : Dir). d.suffix) c.new.ensures ∙ sym (sym c.suffix.ensures ∙ cloned) in
    let bare : HasNoEntries c.new.result = ap (λ (d : Dir). d.entries) c.new.ensures in
    if_ok c.read_copy.result (λ d h has. h bare (subst HasRdn (sym same) has)) c.read_copy.ensures.sound
