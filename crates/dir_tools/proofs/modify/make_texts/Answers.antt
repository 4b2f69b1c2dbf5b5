use Rattle.std.proofs.Common.{◌≡◌, false, sym, ap, subst, ◌∙◌, Ok, Err, Some, IfOk, IfSome, Result}
use Rattle.dir_tree.specs.Dir.{Dir}
use Rattle.dir_tree.specs.WellFormed.{IsWellFormed, IsWithinLimits}
use Rattle.dir_tools.specs.declared.fault.ToolFault.{ToolFault}
use Rattle.dir_tools.specs.declared.run.ModifyOptions.{ModifyOptions}
use Rattle.dir_tools.specs.declared.run.RunTexts.{RunTexts}
use Rattle.dir_tools.specs.CompleteRecords.{CompleteRecordsAreAccepted, GaveBytes, changes_after}
use Rattle.dir_tools.specs.CopyOf.{copy_of}
use Rattle.dir_tools.specs.Headline.{terms}
use Rattle.dir_tools.specs.Suffix.{suffix_of}
use Rattle.dir_tools.specs.CopyFaults.{HasNoEntries, HasRdn}
use Rattle.dir_tools.proofs.SuffixLemmas.{named_suffix}
use Rattle.dir_tools.proofs.TextLemmas.{blamed_so, changes_first, copy_blamed_so, copy_first, read_so, told}
use Rattle.dir_tools.proofs.modify.make_texts.Goals as goal

pub returns-in-Err-read_copy-clause-blamed : goal.returns-in-Err-read_copy-clause-blamed
returns-in-Err-read_copy-clause-blamed g c =
    let key : suffix_of c.args.schema.now c.args.suffix.now ≡ Some c.new.result.suffix = c.in-Ok.ensures.ok ∙ ap Some (sym (ap (λ (d : Dir). d.suffix) c.new.ensures)) in
    let bare : HasNoEntries c.new.result = ap (λ (d : Dir). d.entries) c.new.ensures in
    copy_blamed_so (terms c.args.schema.now c.args.suffix.now c.args.options) (g.R.Source.left c.args.copy.now) (g.R2.Source.left c.args.changes.now) c.new.result _ _ c.in-Err-read_copy.fault key bare c.in-Err-read_copy.ensures.blamed

pub returns-in-Err-take_all-clause-blamed : goal.returns-in-Err-take_all-clause-blamed
returns-in-Err-take_all-clause-blamed g c =
    let read : c.in-Ok-read_copy.directory.suffix ≡ c.new.result.suffix = c.in-Ok-read_copy.ensures.suffix in
    let fresh : c.new.result.suffix ≡ c.in-Ok.key = ap (λ (d : Dir). d.suffix) c.new.ensures in
    let begun : c.new-run.result.directory ≡ c.in-Ok-read_copy.directory = c.new-run.ensures.0 in
    let key : suffix_of c.args.schema.now c.args.suffix.now ≡ Some c.new-run.result.directory.suffix = c.in-Ok.ensures.ok ∙ ap Some (sym (ap (λ (d : Dir). d.suffix) begun ∙ read ∙ fresh)) in
    let bare : HasNoEntries c.new.result = ap (λ (d : Dir). d.entries) c.new.ensures in
    let copy = g.R.Source.left c.args.copy.now in
    let reads : IfSome copy (λ text. copy_of c.args.schema.now c.new-run.result.directory.suffix text ≡ Ok c.new-run.result.directory) = read_so c.args.schema.now copy c.new.result.suffix c.in-Ok-read_copy.directory c.new-run.result.directory read begun (c.in-Ok-read_copy.ensures.reads bare) in
    blamed_so (λ d. d) (terms c.args.schema.now c.args.suffix.now c.args.options) copy (g.R2.Source.left c.args.changes.now) c.new-run.result reads c.marks_are_known.ensures _ _ c.in-Err-take_all.fault c.new-run.ensures.6 key (λ is. c.take_all.ensures.long (c.in-Err-take_all.is ∙ ap Err is)) c.in-Err-take_all.ensures.blamed

pub returns-in-Err-read_copy-clause-first : goal.returns-in-Err-read_copy-clause-first
returns-in-Err-read_copy-clause-first g c =
    let key : suffix_of c.args.schema.now c.args.suffix.now ≡ Some c.new.result.suffix = c.in-Ok.ensures.ok ∙ ap Some (sym (ap (λ (d : Dir). d.suffix) c.new.ensures)) in
    let bare : HasNoEntries c.new.result = ap (λ (d : Dir). d.entries) c.new.ensures in
    copy_first (terms c.args.schema.now c.args.suffix.now c.args.options) _ _ _ c.new.result _ _ c.in-Err-read_copy.fault key c.in-Err-read_copy.ensures.blamed (λ is. c.in-Err-read_copy.ensures.settled is bare)

pub returns-in-Err-take_all-clause-first : goal.returns-in-Err-take_all-clause-first
returns-in-Err-take_all-clause-first g c =
    let read : c.in-Ok-read_copy.directory.suffix ≡ c.new.result.suffix = c.in-Ok-read_copy.ensures.suffix in
    let fresh : c.new.result.suffix ≡ c.in-Ok.key = ap (λ (d : Dir). d.suffix) c.new.ensures in
    let begun : c.new-run.result.directory ≡ c.in-Ok-read_copy.directory = c.new-run.ensures.0 in
    let key : suffix_of c.args.schema.now c.args.suffix.now ≡ Some c.new-run.result.directory.suffix = c.in-Ok.ensures.ok ∙ ap Some (sym (ap (λ (d : Dir). d.suffix) begun ∙ read ∙ fresh)) in
    let bare : HasNoEntries c.new.result = ap (λ (d : Dir). d.entries) c.new.ensures in
    let copy = g.R.Source.left c.args.copy.now in
    let reads : IfSome copy (λ text. copy_of c.args.schema.now c.new-run.result.directory.suffix text ≡ Ok c.new-run.result.directory) = read_so c.args.schema.now copy c.new.result.suffix c.in-Ok-read_copy.directory c.new-run.result.directory read begun (c.in-Ok-read_copy.ensures.reads bare) in
    let off : c.args.options.go_on ≡ false → c.new-run.result.options.go_on ≡ false = (λ is. ap (λ (o : ModifyOptions). o.go_on) c.new-run.ensures.6 ∙ is) in
    changes_first (λ d. d) (terms c.args.schema.now c.args.suffix.now c.args.options) copy (g.R2.Source.left c.args.changes.now) c.new-run.result reads _ _ _ _ c.in-Err-take_all.fault key
    c.in-Err-take_all.ensures.blamed (λ is stops. subst (λ (o : ModifyOptions). GaveBytes (g.R2.Source.left c.args.changes.now) (g.R2.Source.left c.take_all.new.changes)
    (λ bytes. CompleteRecordsAreAccepted c.args.schema.now c.new-run.result.directory (changes_after c.args.schema.now o.last bytes))) c.new-run.ensures.6 (c.in-Err-take_all.ensures.settled is (off stops)))

pub returns-clause-ok : goal.returns-clause-ok
returns-clause-ok g c =
    let read : c.in-Ok-read_copy.directory.suffix ≡ c.new.result.suffix = c.in-Ok-read_copy.ensures.suffix in
    let fresh : c.new.result.suffix ≡ c.in-Ok.key = ap (λ (d : Dir). d.suffix) c.new.ensures in
    let begun : c.new-run.result.directory ≡ c.in-Ok-read_copy.directory = c.new-run.ensures.0 in
    let key : suffix_of c.args.schema.now c.args.suffix.now ≡ Some c.new-run.result.directory.suffix = c.in-Ok.ensures.ok ∙ ap Some (sym (ap (λ (d : Dir). d.suffix) begun ∙ read ∙ fresh)) in
    let bare : HasNoEntries c.new.result = ap (λ (d : Dir). d.entries) c.new.ensures in
    let copy = g.R.Source.left c.args.copy.now in
    let reads : IfSome copy (λ text. copy_of c.args.schema.now c.new-run.result.directory.suffix text ≡ Ok c.new-run.result.directory) = read_so c.args.schema.now copy c.new.result.suffix c.in-Ok-read_copy.directory c.new-run.result.directory read begun (c.in-Ok-read_copy.ensures.reads bare) in
    let named : HasRdn c.new.result.suffix = named_suffix c.args.schema.now c.args.suffix.now c.new.result.suffix (c.in-Ok.ensures.ok ∙ ap Some (sym fresh)) in
    let sound = c.in-Ok-read_copy.ensures.sound bare named in
    by c.finish.result c.finish.ensures.texts (λ texts made.
    told (λ d. d) (terms c.args.schema.now c.args.suffix.now c.args.options) copy (g.R2.Source.left c.args.changes.now) c.new-run.result reads c.in-Ok-read_copy.directory c.take_all.new.self c.new-run.ensures c.in_default.ensures.ok texts
    c.written_runs_are_taken_back.ensures c.written_runs_go_back.ensures c.groups_are_undos.ensures key c.in_default.ensures.options made
    (subst (IsWellFormed c.args.schema.now) (sym begun) sound.0) (subst IsWithinLimits (sym begun) sound.1))
  where
    by : {P Q : RunTexts → Type 0} (r : Result RunTexts ToolFault) → IfOk r P → ((texts : RunTexts) → P texts → Q texts) → IfOk r Q
    by (Ok texts) p f = f texts p
    by (Err fault) p f = tt
