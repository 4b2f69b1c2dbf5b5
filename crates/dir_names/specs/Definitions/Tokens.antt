-- The tokens of a definition (RFC 4512, section 4.1): parentheses, texts between quotes, and words. White space, which is space and tab, separates words.
use Rattle.std.specs.Prelude.{ℕ, Bool, cond, ◌||◌, ◌==◌, List, [], ◌∷◌, ◌++◌, Option, Some, None, option_map}
use Rattle.dir_names.specs.declared.schema.definition.tokens.Spot.{Spot}
use Rattle.dir_names.specs.declared.schema.definition.tokens.Spot.TheVariants.{Between, InWord, InQuotes}
use Rattle.dir_names.specs.declared.schema.definition.tokens.Token.{Token}
use Rattle.dir_names.specs.declared.schema.definition.tokens.Token.TheVariants as token
use Rattle.dir_names.specs.Ascii.{quote, left_parenthesis, right_parenthesis}
use Rattle.dir_names.specs.Trimming.{is_blank}

-- what a word can't have in it
abbrev pub ends_word : ℕ → Bool
ends_word b = ((is_blank b || b == left_parenthesis) || b == right_parenthesis) || b == quote

abbrev pub with_token : Token → Option (List Token) → Option (List Token)
with_token t tokens = option_map (λ more. t ∷ more) tokens

-- a byte between tokens: white space, a token of its own, or the begin of one; `rest` has the tokens from a spot and the begin of a word on
abbrev pub tokens_at : ℕ → (Spot → List ℕ → Option (List Token)) → Option (List Token)
tokens_at b rest =
    cond (is_blank b) (rest Between [])
    (cond (b == left_parenthesis) (with_token token.Open (rest Between []))
    (cond (b == right_parenthesis) (with_token token.Close (rest Between []))
    (cond (b == quote) (rest InQuotes []) (rest InWord (b ∷ [])))))

-- the tokens of the rest of a text, where `item` is what was read of the token at the spot
abbrev pub tokens_from : Spot → List ℕ → List ℕ → Option (List Token)
tokens_from Between item [] = Some []
tokens_from InWord item [] = Some (token.Word item ∷ [])
tokens_from InQuotes item [] = None
tokens_from Between item (b ∷ bs) = tokens_at b (λ spot begun. tokens_from spot begun bs)
tokens_from InWord item (b ∷ bs) = cond (ends_word b) (with_token (token.Word item) (tokens_at b (λ spot begun. tokens_from spot begun bs))) (tokens_from InWord (item ++ b ∷ []) bs)
tokens_from InQuotes item (b ∷ bs) = cond (b == quote) (with_token (token.Quoted item) (tokens_from Between [] bs)) (tokens_from InQuotes (item ++ b ∷ []) bs)

-- the tokens of a text; none where a quote is left open
abbrev pub tokens_of : List ℕ → Option (List Token)
tokens_of text = tokens_from Between [] text
