use Rattle.std.proofs.Common.{Ok, sym, ap, subst, ◌∙◌}
use Rattle.dir_ldif.specs.declared.records.Record.TheVariants as form
use Rattle.dir_ldif.specs.RecordGrammar.{change_of}
use Rattle.dir_names.specs.Results.{Meets, and_then}
use Rattle.dir_ldif.specs.Inside.Refusals.{Refuses}
use Rattle.dir_ldif.specs.AttrVal.{attrval_of}
use Rattle.dir_ldif.specs.Inside.Values.{bytes_of}
use Rattle.dir_ldif.proofs.GrammarLemmas.{body_of-change}
use Rattle.dir_ldif.proofs.reader.parser.body_of.Goals as goal

pub returns-then-is_keyword-2-clause-read : goal.returns-then-is_keyword-2-clause-read
returns-then-is_keyword-2-clause-read c =
    let rows = c.args.schema.now in
    let further = c.in-Some.further.now in
    let part = ap attrval_of (sym c.text.ensures) ∙ c.in_ok-name.ensures in
    let same = body_of-change rows c.args.dn c.args.lines.now c.in-Some.second.now further (c.in_ok-name.name.now, bytes_of c.in_ok-name.value) c.in-Some.ensures.cases.0 part (cc) (cc) in
    subst (Meets Refuses (λ r. r) c.change_record.result) (sym same)
    (subst (λ w. Meets Refuses (λ r. r) c.change_record.result (and_then (change_of rows w further) (λ kind. Ok (form.Change (record { dn = c.args.dn; kind = kind }))))) c.as_slice.ensures c.change_record.ensures.read)
