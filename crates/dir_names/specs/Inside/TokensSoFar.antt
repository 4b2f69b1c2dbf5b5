-- What the reader of tokens has read: some tokens, and the begin of the next one.
use Rattle.std.specs.Prelude.{ℕ, List, ◌++◌, Option, option_map}
use Rattle.dir_names.specs.declared.schema.definition.tokens.Spot.{Spot}
use Rattle.dir_names.specs.declared.schema.definition.tokens.Token.{Token}
use Rattle.dir_names.specs.Definitions.Tokens.{tokens_from}

-- all tokens, where these were read and this rest comes
abbrev pub all_tokens : List Token → Spot → List ℕ → List ℕ → Option (List Token)
all_tokens done spot item rest = option_map (λ more. done ++ more) (tokens_from spot item rest)
