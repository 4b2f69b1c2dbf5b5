use Rattle.std.proofs.Common.{◌≡◌, ◌∷◌, ◌++◌, Ok, ap, ◌∙◌, rules, arith}
use Rattle.std.proofs.lemmas.Grind.{common_steps}
use Rattle.std.specs.List.{flat_map}
use Rattle.std.proofs.lemmas.List.{take_all}
use Rattle.dir_names.specs.Names.Printing.{printed_pair, printed_rdn}
use Rattle.dir_names.proofs.PrintLemmas.{written}
use Rattle.dir_names.proofs.name.printing.print_pairs.Goals as goal

pub returns : goal.returns
returns c =
    let old = c.args.out.now.items in
    let parted : c.args.pairs.now ≡ c.in-Some.first.now ∷ c.in-Some.rest.now = search rules in
    let first : c.print_pair.new.out.items ≡ old ++ printed_pair c.in-Some.first.now = search rules in
    let rest = c.loop-pair.invariant ∙ ap (λ l. c.print_pair.new.out.items ++ flat_map (λ x. 43 ∷ printed_pair x) l) (take_all c.loop-pair.pair-index c.in-Some.rest.now c.loop-pair-test.false) in
    ap Ok (ap (λ l. old ++ printed_rdn l) parted ∙ written printed_pair 43 c.in-Some.first.now c.in-Some.rest.now old _ _ first rest)

pub returns-in_default : goal.returns-in_default
returns-in_default c = grind (arith, common_steps)

pub loop-pair-preserved : goal.loop-pair-preserved
loop-pair-preserved c = grind (arith, common_steps)
