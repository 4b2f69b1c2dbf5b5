use Rattle.std.proofs.lemmas.Grind.{common_steps}
use Rattle.std.proofs.Common.{◌≡◌, false, take, is_some, Ok, sym, ap, ◌∙◌, arith, rules}
use Rattle.std.specs.List.{list_all}
use Rattle.std.proofs.lemmas.List.{take_all}
use Rattle.dir_names.specs.NameKeys.{rdn_key}
use Rattle.dir_names.specs.Names.{SpelledRdn}
use Rattle.dir_names.proofs.HasKeys.{has_each, lacks_at}
use Rattle.dir_names.proofs.name.Dn.rdns_have_keys.Goals as goal

pub returns-then-not-branch : goal.returns-then-not-branch
returns-then-not-branch c =
    let rows = c.args.schema.now in
    let lacks : is_some (rdn_key rows c.rdn-item.result) ≡ false = search rules in
    let items : c.args.self.now ≡ c.as_slice-rdn-items.result.now = search rules in
    ap Ok (has_each rows c.args.self.now ∙ ap (list_all (λ (r : SpelledRdn). is_some (rdn_key rows r))) items ∙ lacks_at (λ (r : SpelledRdn). is_some (rdn_key rows r)) c.as_slice-rdn-items.result.now c.loop-rdn.rdn-index c.rdn-item.result (omega arith) c.rdn-item.is lacks)

pub returns : goal.returns
returns c =
    let rows = c.args.schema.now in
    let items : c.args.self.now ≡ c.as_slice-rdn-items.result.now = search rules in
    let whole : take c.loop-rdn.rdn-index c.args.self.now ≡ c.args.self.now = take_all c.loop-rdn.rdn-index c.args.self.now (rw items c.loop-rdn-test.false) in
    ap Ok (has_each rows c.args.self.now ∙ ap (list_all (λ (r : SpelledRdn). is_some (rdn_key rows r))) (sym whole) ∙ c.loop-rdn.invariant)

pub loop-rdn-preserved : goal.loop-rdn-preserved
loop-rdn-preserved c = grind (arith, common_steps)
