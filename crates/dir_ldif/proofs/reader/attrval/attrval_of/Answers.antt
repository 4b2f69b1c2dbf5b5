use Rattle.std.proofs.lemmas.Result.{err_from_is_err_and}
use Rattle.std.proofs.Common.{sym, subst, ◌∙◌}
use Rattle.dir_ldif.specs.Inside.Refusals.{Refuses}
use Rattle.dir_ldif.proofs.AttrValLemmas.{attrval_of-none, attrval_of-cut, attrval_from-nameless, attrval_from-value, attrval_from-refuses}
use Rattle.dir_ldif.specs.Inside.Values.{bytes_of}
use Rattle.dir_ldif.proofs.reader.attrval.attrval_of.Goals as goal

pub returns-in_default : goal.returns-in_default
returns-in_default c = attrval_of-none c.args.line.now c.in_default.ensures

pub returns-then-is_empty : goal.returns-then-is_empty
returns-then-is_empty c = attrval_of-cut c.args.line.now c.in-Some.name.now c.in-Some.rest.now c.in-Some.ensures ∙ attrval_from-nameless c.in-Some.name.now c.in-Some.rest.now (cc)

pub returns : goal.returns
returns c =
    attrval_of-cut c.args.line.now c.in-Some.name.now c.in-Some.rest.now c.in-Some.ensures ∙ attrval_from-value c.in-Some.name.now c.in-Some.rest.now (bytes_of c.in_ok-limited_value.field-0) (cc) c.in_ok-limited_value.ensures

pub returns-in_err-limited_value : goal.returns-in_err-limited_value
returns-in_err-limited_value c =
    let e = err_from_is_err_and c.from_residual.result c.from_residual.ensures.1 in
    rw (e.1, e.2) (
    subst (Refuses c.in_err-limited_value.field-0.0) (sym (attrval_of-cut c.args.line.now c.in-Some.name.now c.in-Some.rest.now c.in-Some.ensures))
    (attrval_from-refuses c.in-Some.name.now c.in-Some.rest.now c.in_err-limited_value.field-0.0 (cc) c.in_err-limited_value.ensures)
    )
