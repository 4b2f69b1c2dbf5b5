use Rattle.std.proofs.Common.{◌≡◌, [], Ok, drop, ap, ◌∙◌, subst, arith}
use Rattle.std.specs.Option.{option_map}
use Rattle.std.proofs.lemmas.Grind.{common_steps}
use Rattle.dir_names.specs.Definitions.Tokens.{tokens_of}
use Rattle.dir_names.specs.Inside.TokensSoFar.{all_tokens}
use Rattle.dir_names.specs.Outcome.{Gives}
use Rattle.dir_names.proofs.DefinitionSteps.{none_before}
use Rattle.dir_names.proofs.schema.definition.tokens.read_tokens.Goals as goal

pub loop-b-init : goal.loop-b-init
loop-b-init c = rw (c.new.ensures.items, c.new-2.ensures.items) (none_before (tokens_of c.args.text.now))

pub returns : goal.returns
returns c =
    let reader = c.loop-b.reader in
    let at_end : [] ≡ drop c.loop-b.b-index c.args.text.now = grind (arith, common_steps) in
    let whole = ap (λ rest. all_tokens reader.tokens.items reader.spot reader.item.items rest) at_end ∙ c.loop-b.invariant in
    subst (λ tokens. Gives (option_map (λ v. v.items)) c.finish.result (Ok tokens)) whole c.finish.ensures

pub loop-b-preserved : goal.loop-b-preserved
loop-b-preserved c = grind (arith, common_steps)
