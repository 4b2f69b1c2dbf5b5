use Rattle.std.proofs.Common.{[]}
use Rattle.dir_names.specs.declared.schema.definition.tokens.Spot.TheVariants.{Between}
use Rattle.dir_names.specs.declared.schema.definition.tokens.Token.TheVariants as token
use Rattle.dir_names.specs.Definitions.Tokens.{tokens_from}
use Rattle.dir_names.proofs.DefinitionSteps.{one_more}
use Rattle.dir_names.proofs.schema.definition.tokens.TokenReader.push_between.Goals as goal

pub returns-in_ok-push-in-40-clause-ok : goal.returns-in_ok-push-in-40-clause-ok
returns-in_ok-push-in-40-clause-ok c = λ rest.
    rw (c.in-40.is, c.in_ok-push-in-40.ensures.items, c.new.ensures.items) (one_more c.args.self.now.tokens.items token.Open (tokens_from Between [] rest))

pub returns-in_ok-push-in-41-clause-ok : goal.returns-in_ok-push-in-41-clause-ok
returns-in_ok-push-in-41-clause-ok c = λ rest.
    rw (c.in-41.is, c.in_ok-push-in-41.ensures.items, c.new.ensures.items) (one_more c.args.self.now.tokens.items token.Close (tokens_from Between [] rest))
