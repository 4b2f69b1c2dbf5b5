use Rattle.std.proofs.Common.{◌≡◌, ℕ, List, Ok, Result, ap, sym, subst, ◌∙◌, rules}
use Rattle.dir_names.specs.declared.fault.NameFault.{NameFault}
use Rattle.dir_names.specs.NameKeys.{attr_of}
use Rattle.dir_names.specs.Outcome.{IsNameFaultOf}
use Rattle.dir_names.specs.Table.{rule_of}
use Rattle.dir_names.specs.ValueKeys.{text_key_of}
use Rattle.dir_names.proofs.KeyLemmas.{pair_is, pair_fails}
use Rattle.dir_names.proofs.name.type_and_value_key.Goals as goal

pub returns-in-Ok : goal.returns-in-Ok
returns-in-Ok c =
    let rows = c.args.schema.now in
    let attr : c.in_ok-attr.attr ≡ attr_of rows c.args.attr_type.now = search rules in
    let rule = c.rule.ensures ∙ ap (rule_of rows) attr in
    let key = (λ i. text_key_of (sym rule i) c.args.value.now) ∙ c.in-Ok.ensures in
    pair_is rows (c.args.attr_type.now, c.args.value.now) c.in-Ok.value key ∙ ap (λ a. Ok (a, c.in-Ok.value)) (sym attr)

pub returns-in-Err : goal.returns-in-Err
returns-in-Err c =
    let rows = c.args.schema.now in
    let attr : c.in_ok-attr.attr ≡ attr_of rows c.args.attr_type.now = search rules in
    let rule = c.rule.ensures ∙ ap (rule_of rows) attr in
    let key : text_key_of c.rule.result c.args.value.now ≡ text_key_of (rule_of rows (attr_of rows c.args.attr_type.now)) c.args.value.now = λ i. text_key_of (rule i) c.args.value.now in
    rw c.as_bad_dn.ensures (pair_fails rows (c.args.attr_type.now, c.args.value.now) c.in-Err.fault (subst (λ (w : Result (List ℕ) NameFault). IsNameFaultOf c.in-Err.fault w) key c.in-Err.ensures))
