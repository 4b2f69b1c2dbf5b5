use Rattle.std.proofs.Common.{sym, subst}
use Rattle.std.proofs.lemmas.Result.{on_ok_weaker}
use Rattle.dir_ldif.specs.declared.records.Record.TheVariants as form
use Rattle.dir_ldif.specs.RecordText.{record_text_of}
use Rattle.dir_ldif.specs.RoundTrip.{ReadsBackAs}
use Rattle.dir_ldif.proofs.RoundTrip.{record-read}
use Rattle.dir_ldif.proofs.writer.push_record.Goals as goal

pub returns-in-Content-clause-back : goal.returns-in-Content-clause-back
returns-in-Content-clause-back c =
    on_ok_weaker c.push_content.result (λ sound. subst (λ r. ReadsBackAs (record_text_of r) r) (sym c.in-Content.is) (record-read (form.Content c.in-Content.dn c.in-Content.lines) sound)) c.push_content.ensures.sound
