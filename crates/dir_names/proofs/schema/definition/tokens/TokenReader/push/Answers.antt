use Rattle.std.proofs.Common.{◌≡◌, true, [], ◌∷◌, ◌++◌, ap, ◌∙◌, rules}
use Rattle.dir_names.specs.declared.schema.definition.tokens.Spot.TheVariants.{Between}
use Rattle.dir_names.specs.declared.schema.definition.tokens.Token.TheVariants as token
use Rattle.dir_names.specs.Definitions.Tokens.{ends_word, tokens_from}
use Rattle.dir_names.specs.Inside.TokensSoFar.{all_tokens}
use Rattle.dir_names.proofs.DefinitionSteps.{one_more}
use Rattle.dir_names.proofs.schema.definition.tokens.TokenReader.push.Goals as goal

pub returns-in_ok-push_between-in-InWord-clause-ok : goal.returns-in_ok-push_between-in-InWord-clause-ok
returns-in_ok-push_between-in-InWord-clause-ok c = λ rest.
    let done = c.args.self.now.tokens.items in
    let item = c.args.self.now.item.items in
    let ends : ends_word c.args.b ≡ true = search rules in
    let longer : done ++ token.Word item ∷ [] ≡ c.push.new.self.items = search rules in
    rw (c.in-InWord.is, ends)
    (one_more done (token.Word item) (tokens_from Between [] (c.args.b ∷ rest)) ∙ (ap (λ tokens. all_tokens tokens Between [] (c.args.b ∷ rest)) longer ∙ c.in_ok-push_between-in-InWord.ensures.ok rest))

pub returns-in_ok-push-in-InQuotes-clause-ok : goal.returns-in_ok-push-in-InQuotes-clause-ok
returns-in_ok-push-in-InQuotes-clause-ok c = λ rest.
    let done = c.args.self.now.tokens.items in
    let item = c.args.self.now.item.items in
    let longer : done ++ token.Quoted item ∷ [] ≡ c.push-in-InQuotes.new.self.items = search rules in
    rw (c.in-InQuotes.is, c.if-b-eq39.true, c.take_item-text.ensures.empty)
    (one_more done (token.Quoted item) (tokens_from Between [] rest) ∙ ap (λ tokens. all_tokens tokens Between [] rest) longer)
