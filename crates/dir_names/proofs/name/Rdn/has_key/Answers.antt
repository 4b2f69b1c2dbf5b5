use Rattle.std.proofs.Common.{◌≡◌, [], ◌∷◌, Ok, Result, is_some, sym, ap, ◌∙◌, arith, rules}
use Rattle.std.proofs.lemmas.Grind.{common_steps}
use Rattle.std.specs.Result.{result_ok}
use Rattle.dir_names.specs.declared.fault.NameFault.{NameFault}
use Rattle.dir_names.specs.declared.schema.Rule.{Rule}
use Rattle.dir_names.specs.NameKeys.{attr_of, rdn_key}
use Rattle.dir_names.specs.Table.{rule_of}
use Rattle.dir_names.specs.ValueKeys.{text_key_of}
use Rattle.dir_names.proofs.HasKeys.{one_pair}
use Rattle.dir_names.proofs.name.Rdn.has_key.Goals as goal

ok_rule : {a b : Rule} → ◌≡◌ {A = Result Rule NameFault} (Ok a) (Ok b) → a ≡ b
ok_rule e = cc

pub returns-in_ok-rule-in-Some : goal.returns-in_ok-rule-in-Some
returns-in_ok-rule-in-Some c =
    let rows = c.args.schema.now in
    let pair = c.in-Some.pair.now in
    let rest : c.in-Some.rest.now ≡ [] = grind (arith, common_steps) in
    let whole : c.args.self.now ≡ pair ∷ c.in-Some.rest.now = search rules in
    let rule : c.in_ok-rule-in-Some.rule ≡ rule_of rows (attr_of rows pair.0) = sym (ok_rule c.in_ok-rule-in-Some.ensures) ∙ ap (λ k. rule_of rows (attr_of rows k)) c.as_slice-in-Some.ensures in
    let value : c.as_slice-in-Some-2.result.now ≡ pair.1 = search rules in
    ap Ok (ap (λ r. is_some (rdn_key rows r)) (whole ∙ ap (λ xs. pair ∷ xs) rest) ∙ one_pair rows pair ∙ (λ i. is_some (result_ok (text_key_of (sym rule i) (sym value i)))) ∙ sym c.has_text_key.ensures)
