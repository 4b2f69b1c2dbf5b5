-- The parts of a definition (RFC 4512, section 4.1.2): each is a keyword with what belongs to it, and they come in any order.
use Rattle.std.specs.Prelude.{ℕ, Bool, true, false, cond, not, ◌&&◌, ◌||◌, ◌==◌, List, [], ◌∷◌, ◌++◌, codes, find, Option, Some, None, option_map, option_and_then}
use Rattle.std.specs.List.{list_any, slice_get}
use Rattle.std.specs.Option.{option_or}
use Rattle.std.specs.Str.{str_eq_ignore_ascii_case}
use Rattle.dir_names.specs.declared.schema.definition.parts.Keyword.{Keyword}
use Rattle.dir_names.specs.declared.schema.definition.parts.Keyword.TheVariants as keyword
use Rattle.dir_names.specs.declared.schema.definition.parts.Part.{Part}
use Rattle.dir_names.specs.declared.schema.definition.parts.Place.{Place}
use Rattle.dir_names.specs.declared.schema.definition.parts.Place.TheVariants as place
use Rattle.dir_names.specs.declared.schema.definition.parts.Step.{Step}
use Rattle.dir_names.specs.declared.schema.definition.tokens.Token.{Token}
use Rattle.dir_names.specs.declared.schema.definition.tokens.Token.TheVariants as token
use Rattle.dir_names.specs.Ascii.{hyphen}

-- ---- keywords, in any ASCII case

-- `X-`, with which the names of extensions begin (RFC 4512, section 4.1, xstring)
abbrev pub is_extension : List ℕ → Bool
is_extension (x ∷ h ∷ more) = (x == 88 || x == 120) && h == hyphen
is_extension _ = false

abbrev pub flag_of : List ℕ → Option Keyword
flag_of word =
    cond (str_eq_ignore_ascii_case word (codes "OBSOLETE")) (Some keyword.Obsolete)
    (cond (str_eq_ignore_ascii_case word (codes "SINGLE-VALUE")) (Some keyword.SingleValue)
    (cond (str_eq_ignore_ascii_case word (codes "COLLECTIVE")) (Some keyword.Collective)
    (cond (str_eq_ignore_ascii_case word (codes "NO-USER-MODIFICATION")) (Some keyword.NoUserModification) None)))

abbrev pub keyword_before_word : List ℕ → Option Keyword
keyword_before_word word =
    cond (str_eq_ignore_ascii_case word (codes "SUP")) (Some keyword.Sup)
    (cond (str_eq_ignore_ascii_case word (codes "EQUALITY")) (Some keyword.Equality)
    (cond (str_eq_ignore_ascii_case word (codes "ORDERING")) (Some keyword.Ordering)
    (cond (str_eq_ignore_ascii_case word (codes "SUBSTR")) (Some keyword.Substr)
    (cond (str_eq_ignore_ascii_case word (codes "SYNTAX")) (Some keyword.Syntax)
    (cond (str_eq_ignore_ascii_case word (codes "USAGE")) (Some keyword.Usage) None)))))

abbrev pub keyword_of : List ℕ → Option Keyword
keyword_of word =
    cond (str_eq_ignore_ascii_case word (codes "NAME")) (Some keyword.Name)
    (cond (str_eq_ignore_ascii_case word (codes "DESC")) (Some keyword.Desc)
    (cond (is_extension word) (Some keyword.Extension) (option_or (flag_of word) (keyword_before_word word))))

-- keywords that stand alone
abbrev pub is_flag : Keyword → Bool
is_flag keyword.Obsolete = true
is_flag keyword.SingleValue = true
is_flag keyword.Collective = true
is_flag keyword.NoUserModification = true
is_flag _ = false

-- after these comes a text between quotes, or a list of them in parentheses
abbrev pub takes_list : Keyword → Bool
takes_list keyword.Name = true
takes_list keyword.Extension = true
takes_list _ = false

-- and after these a word, or a text between quotes; after `DESC` alone such a text only
abbrev pub takes_word : Keyword → Bool
takes_word keyword.Sup = true
takes_word keyword.Equality = true
takes_word keyword.Ordering = true
takes_word keyword.Substr = true
takes_word keyword.Syntax = true
takes_word keyword.Usage = true
takes_word _ = false

-- ---- one token after the other

abbrev pub next_part : Keyword → List (List ℕ) → Option Step
next_part word texts = Some (record { place = place.Between; part = Some (record { keyword = word; texts = texts }) })

abbrev pub on_to : Place → Option Step
on_to place = Some (record { place = place; part = None })

abbrev pub begun_by : Keyword → Option Step
begun_by word = cond (is_flag word) (next_part word []) (on_to (place.After word))

-- what a token does at a place, if it may come there
abbrev pub step_at : Place → Token → Option Step
step_at place.Between (token.Word word) = option_and_then begun_by (keyword_of word)
step_at place.Between token.Close = on_to place.End
step_at (place.After word) (token.Quoted text) = next_part word (text ∷ [])
step_at (place.After word) (token.Word text) = cond (takes_word word) (next_part word (text ∷ [])) None
step_at (place.After word) token.Open = cond (takes_list word) (on_to (place.InList word [])) None
step_at (place.InList word texts) (token.Quoted text) = on_to (place.InList word (texts ++ text ∷ []))
step_at (place.InList word texts) token.Close = next_part word texts
step_at _ _ = None

abbrev pub with_part : Option Part → Option (List Part) → Option (List Part)
with_part None parts = parts
with_part (Some part) parts = option_map (λ more. part ∷ more) parts

abbrev pub after_step : Option Step → (Place → Option (List Part)) → Option (List Part)
after_step None rest = None
after_step (Some step) rest = with_part step.part (rest step.place)

abbrev pub parts_at_end : Place → Option (List Part)
parts_at_end place.End = Some []
parts_at_end _ = None

abbrev pub parts_from : Place → List Token → Option (List Part)
parts_from place [] = parts_at_end place
parts_from place (t ∷ tokens) = after_step (step_at place t) (λ next. parts_from next tokens)

-- the parts of a list of tokens, which a closing parenthesis ends
abbrev pub parts_of : List Token → Option (List Part)
parts_of tokens = parts_from place.Between tokens

-- ---- what parts say

abbrev pub keyword_number : Keyword → ℕ
keyword_number keyword.Name = 0
keyword_number keyword.Desc = 1
keyword_number keyword.Obsolete = 2
keyword_number keyword.Sup = 3
keyword_number keyword.Equality = 4
keyword_number keyword.Ordering = 5
keyword_number keyword.Substr = 6
keyword_number keyword.Syntax = 7
keyword_number keyword.SingleValue = 8
keyword_number keyword.Collective = 9
keyword_number keyword.NoUserModification = 10
keyword_number keyword.Usage = 11
keyword_number keyword.Extension = 12

abbrev pub is_part_of : Keyword → Part → Bool
is_part_of word part = keyword_number part.keyword == keyword_number word

abbrev pub has_part : Keyword → List Part → Bool
has_part word parts = list_any (is_part_of word) parts

-- each keyword comes at most once, but for extensions
abbrev pub is_each_once : List Part → Bool
is_each_once [] = true
is_each_once (part ∷ parts) = (is_part_of keyword.Extension part || not (has_part part.keyword parts)) && is_each_once parts

abbrev pub texts_in : Option Part → List (List ℕ)
texts_in None = []
texts_in (Some part) = part.texts

-- what belongs to a keyword: nothing where it is missing
abbrev pub texts_of : Keyword → List Part → List (List ℕ)
texts_of word parts = texts_in (find (is_part_of word) parts)

abbrev pub first_text : Keyword → List Part → Option (List ℕ)
first_text word parts = slice_get (texts_of word parts) 0
