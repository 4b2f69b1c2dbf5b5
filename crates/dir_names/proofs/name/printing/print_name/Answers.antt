use Rattle.std.proofs.Common.{◌≡◌, ◌∷◌, ◌++◌, Ok, ap, ◌∙◌, rules, arith}
use Rattle.std.proofs.lemmas.Grind.{common_steps}
use Rattle.std.specs.List.{flat_map}
use Rattle.std.proofs.lemmas.List.{take_all}
use Rattle.dir_names.specs.Names.Printing.{printed_name, printed_rdn}
use Rattle.dir_names.proofs.PrintLemmas.{written}
use Rattle.dir_names.proofs.name.printing.print_name.Goals as goal

pub returns : goal.returns
returns c =
    let old = c.args.out.now.items in
    let parted : c.args.rdns.now ≡ c.in-Some.first.now ∷ c.in-Some.rest.now = search rules in
    let first : c.print_rdn.new.out.items ≡ old ++ printed_rdn c.in-Some.first.now = search rules in
    let rest = c.loop-rdn.invariant ∙ ap (λ l. c.print_rdn.new.out.items ++ flat_map (λ x. 44 ∷ printed_rdn x) l) (take_all c.loop-rdn.rdn-index c.in-Some.rest.now c.loop-rdn-test.false) in
    ap Ok (ap (λ l. old ++ printed_name l) parted ∙ written printed_rdn 44 c.in-Some.first.now c.in-Some.rest.now old _ _ first rest)

pub returns-in_default : goal.returns-in_default
returns-in_default c = grind (arith, common_steps)

pub loop-rdn-preserved : goal.loop-rdn-preserved
loop-rdn-preserved c = grind (arith, common_steps)
