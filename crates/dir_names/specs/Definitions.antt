-- Definitions of attribute types (RFC 4512, section 4.1.2), as a computation: the text is cut into tokens, these into parts. `Grammar` has the grammar itself,
-- and a law says that the two agree.
pub mod Grammar
pub mod Parts
pub mod Tokens
use Rattle.std.specs.Prelude.{ℕ, Bool, cond, List, [], ◌∷◌, Option, Some, None, option_and_then}
use Rattle.dir_names.specs.declared.schema.definition.TypeDefinition.{TypeDefinition}
use Rattle.dir_names.specs.declared.schema.definition.parts.Keyword.TheVariants as keyword
use Rattle.dir_names.specs.declared.schema.definition.parts.Part.{Part}
use Rattle.dir_names.specs.declared.schema.definition.tokens.Token.{Token}
use Rattle.dir_names.specs.declared.schema.definition.tokens.Token.TheVariants as token
use Rattle.dir_names.specs.Definitions.Parts.{first_text, has_part, is_each_once, parts_of, texts_of}
use Rattle.dir_names.specs.Definitions.Tokens.{tokens_of}
use Rattle.dir_names.specs.Descriptions.{is_numericoid}

-- what a number and parts say
abbrev pub definition_from : List ℕ → List Part → TypeDefinition
definition_from number parts =
    record { number = number; names = texts_of keyword.Name parts; sup = first_text keyword.Sup parts; equality = first_text keyword.Equality parts; single = has_part keyword.SingleValue parts }

-- each keyword comes at most once, but for extensions
abbrev pub definition_by : List ℕ → List Part → Option TypeDefinition
definition_by number parts = cond (is_each_once parts) (Some (definition_from number parts)) None

-- a parenthesis, the type's number, the parts and the other parenthesis
abbrev pub definition_in : List Token → Option TypeDefinition
definition_in (token.Open ∷ token.Word number ∷ tokens) = cond (is_numericoid number) (option_and_then (definition_by number) (parts_of tokens)) None
definition_in _ = None

abbrev pub definition_of : List ℕ → Option TypeDefinition
definition_of text = option_and_then definition_in (tokens_of text)
