use Rattle.std.proofs.Common.{◌≡◌, Ok, ap, subst, sym, ◌∙◌}
use Rattle.dir_ldif.specs.declared.records.Record.TheVariants as form
use Rattle.dir_tools.specs.CopyOf.{LoadedCopy, with_record}
use Rattle.dir_tools.specs.Inside.Loading.{IsCopyFault, IsLoaded, LoadsTo}
use Rattle.dir_tools.proofs.copy.loading.LoadingTaker.take.Goals as goal

pub returns-in-Ok-clause-gives : goal.returns-in-Ok-clause-gives
returns-in-Ok-clause-gives g c =
    let found : c.args.found ≡ Ok (form.Content c.in-Ok-Content.dn c.in-Ok-Content.lines) = c.in-Ok-Content.is ∙ ap Ok c.in-Ok-Content.field-0-is in (
      c.in-Ok.ensures.suffix,
      subst (λ f. (m : LoadedCopy) → IsLoaded g.D.Directory.state m c.args.self.now → LoadsTo g.D.Directory.state (with_record c.args.schema.now m c.args.line f) c.take_entry.new.self) (sym found) c.in-Ok.ensures.reads,
    )

pub returns-in-Ok-Content-clause-gives : goal.returns-in-Ok-Content-clause-gives
returns-in-Ok-Content-clause-gives g c =
    let found : c.args.found ≡ Ok (form.Content c.in-Ok-Content.dn c.in-Ok-Content.lines) = c.in-Ok-Content.is ∙ ap Ok c.in-Ok-Content.field-0-is in (
      c.in-Err-take_entry.ensures.fault,
      subst (λ f. (m : LoadedCopy) → IsLoaded g.D.Directory.state m c.args.self.now → IsCopyFault (with_record c.args.schema.now m c.args.line f) c.in-Err-take_entry.fault) (sym found) c.in-Err-take_entry.ensures.cause,
    )
