use Rattle.std.proofs.Common.{◌≡◌, ◌∷◌, ◌++◌, Ok, ap, sym, ◌∙◌, arith, rules}
use Rattle.std.proofs.lemmas.Grind.{common_steps}
use Rattle.std.specs.List.{flat_map, list_all}
use Rattle.dir_names.specs.Cut.{parts_at}
use Rattle.dir_names.specs.Inside.Left.{lacks_nul}
use Rattle.dir_names.proofs.JoinedTexts.{parts-joined}
use Rattle.dir_names.proofs.attribute.options.OptionSet.of.Goals as goal

pub returns : goal.returns
returns c =
    let first = c.in-Some.first.now in
    let rest = c.in-Some.rest.now in
    let is : c.args.options.now ≡ first ∷ rest = search rules in
    let whole : c.loop-option.joined.items ≡ first ++ flat_map (λ text. 0 ∷ text) rest = grind (arith, common_steps) in
    let text : c.new.result ≡ first ++ flat_map (λ text. 0 ∷ text) rest = search rules in
    ap Ok (sym (ap (parts_at 0) text ∙ parts-joined first rest (ap (list_all lacks_nul) (sym is) ∙ c.requires) ∙ sym is))

pub returns-in_default : goal.returns-in_default
returns-in_default c = grind (arith, common_steps)

pub loop-option-preserved : goal.loop-option-preserved
loop-option-preserved c = grind (arith, common_steps)
