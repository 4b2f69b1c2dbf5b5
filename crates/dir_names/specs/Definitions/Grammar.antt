-- Which definition a text is, as the grammar (RFC 4512, section 4.1.2). Beyond it the parts come in any order, white space is left out where no two words meet, what
-- comes after `SUP` and the like is one word or a text between quotes, and a text between quotes may have anything in it but a quote.
use Rattle.std.specs.Prelude.{◌≡◌, ℕ, true, false, List, [], ◌∷◌, ◌++◌, map, not, ◌==◌, Some}
use Rattle.std.specs.List.{list_all}
use Rattle.dir_names.specs.declared.schema.definition.TypeDefinition.{TypeDefinition}
use Rattle.dir_names.specs.declared.schema.definition.parts.Keyword.{Keyword}
use Rattle.dir_names.specs.declared.schema.definition.parts.Part.{Part}
use Rattle.dir_names.specs.declared.schema.definition.tokens.Token.{Token}
use Rattle.dir_names.specs.declared.schema.definition.tokens.Token.TheVariants as token
use Rattle.dir_names.specs.Ascii.{quote, left_parenthesis, right_parenthesis}
use Rattle.dir_names.specs.Definitions.{definition_from}
use Rattle.dir_names.specs.Definitions.Parts.{is_each_once, is_flag, keyword_of, takes_list, takes_word}
use Rattle.dir_names.specs.Definitions.Tokens.{ends_word}
use Rattle.dir_names.specs.Trimming.{is_blank}
use Rattle.dir_names.specs.Descriptions.{is_numericoid}

-- the end of a text, or a byte that no word has
pub data EndsWord : List ℕ → Type 0 where
  end : EndsWord []
  byte : (b : ℕ) (more : List ℕ) → ends_word b ≡ true → EndsWord (b ∷ more)

-- tokens one after the other, with white space before each and after the last
pub data SpellsTokens : List ℕ → List Token → Type 0 where
  nothing : SpellsTokens [] []
  white : (b : ℕ) (text : List ℕ) (tokens : List Token) → is_blank b ≡ true → SpellsTokens text tokens → SpellsTokens (b ∷ text) tokens
  open_parenthesis : (text : List ℕ) (tokens : List Token) → SpellsTokens text tokens → SpellsTokens (left_parenthesis ∷ text) (token.Open ∷ tokens)
  close_parenthesis : (text : List ℕ) (tokens : List Token) → SpellsTokens text tokens → SpellsTokens (right_parenthesis ∷ text) (token.Close ∷ tokens)
  quoted : (inside text : List ℕ) (tokens : List Token) → list_all (λ b. not (b == quote)) inside ≡ true → SpellsTokens text tokens
      → SpellsTokens (quote ∷ (inside ++ quote ∷ text)) (token.Quoted inside ∷ tokens)
  word : (b : ℕ) (bs text : List ℕ) (tokens : List Token) → list_all (λ c. not (ends_word c)) (b ∷ bs) ≡ true → EndsWord text → SpellsTokens text tokens
      → SpellsTokens (b ∷ (bs ++ text)) (token.Word (b ∷ bs) ∷ tokens)

-- a part: a keyword, and what belongs to it
pub data SpellsPart : List Token → Part → Type 0 where
  flag : (word : List ℕ) (k : Keyword) → keyword_of word ≡ Some k → is_flag k ≡ true → SpellsPart (token.Word word ∷ []) (record { keyword = k; texts = [] })
  with_text : (word : List ℕ) (k : Keyword) (text : List ℕ) → keyword_of word ≡ Some k → is_flag k ≡ false
      → SpellsPart (token.Word word ∷ token.Quoted text ∷ []) (record { keyword = k; texts = text ∷ [] })
  with_word : (word : List ℕ) (k : Keyword) (text : List ℕ) → keyword_of word ≡ Some k → takes_word k ≡ true
      → SpellsPart (token.Word word ∷ token.Word text ∷ []) (record { keyword = k; texts = text ∷ [] })
  with_list : (word : List ℕ) (k : Keyword) (texts : List (List ℕ)) → keyword_of word ≡ Some k → takes_list k ≡ true
      → SpellsPart (token.Word word ∷ token.Open ∷ (map token.Quoted texts ++ token.Close ∷ [])) (record { keyword = k; texts = texts })

-- parts one after the other
pub data SpellsParts : List Token → List Part → Type 0 where
  none : SpellsParts [] []
  part : (first rest : List Token) (p : Part) (ps : List Part) → SpellsPart first p → SpellsParts rest ps → SpellsParts (first ++ rest) (p ∷ ps)

-- a definition: a number and parts between parentheses, each keyword at most once but for extensions
pub record Defines (text : List ℕ) (d : TypeDefinition) : Type 0 where
  pub tokens : List Token
  pub parts : List Part
  pub spells : SpellsTokens text (token.Open ∷ token.Word d.number ∷ (tokens ++ token.Close ∷ []))
  pub number : is_numericoid d.number ≡ true
  pub all_parts : SpellsParts tokens parts
  pub each_once : is_each_once parts ≡ true
  pub says : d ≡ definition_from d.number parts
