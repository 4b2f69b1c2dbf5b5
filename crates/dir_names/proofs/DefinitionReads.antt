-- What the grammar of definitions relates is read so.
use Rattle.std.proofs.Common.{◌≡◌, ℕ, Bool, true, false, cond, not, List, [], ◌∷◌, ◌++◌, Option, Some, None, map, refl, ap, sym, ◌∙◌, append_assoc}
use Rattle.std.specs.Prelude.{◌==◌, ◌||◌, option_and_then}
use Rattle.std.specs.List.{list_all}
use Rattle.std.proofs.lemmas.List.{append-nil}
use Rattle.std.proofs.lemmas.Bool.{and_parts, not-true}
use Rattle.dir_names.specs.declared.schema.definition.TypeDefinition.{TypeDefinition}
use Rattle.dir_names.specs.declared.schema.definition.parts.Keyword.{Keyword}
use Rattle.dir_names.specs.declared.schema.definition.parts.Keyword.TheVariants as keyword
use Rattle.dir_names.specs.declared.schema.definition.parts.Part.{Part}
use Rattle.dir_names.specs.declared.schema.definition.parts.Place.TheVariants as place
use Rattle.dir_names.specs.declared.schema.definition.tokens.Spot.{Spot}
use Rattle.dir_names.specs.declared.schema.definition.tokens.Spot.TheVariants.{Between, InWord, InQuotes}
use Rattle.dir_names.specs.declared.schema.definition.tokens.Token.{Token}
use Rattle.dir_names.specs.declared.schema.definition.tokens.Token.TheVariants as token
use Rattle.dir_names.specs.Definitions.{definition_by, definition_from, definition_in, definition_of}
use Rattle.dir_names.specs.Definitions.Grammar.{Defines, EndsWord, SpellsPart, SpellsParts, SpellsTokens}
use Rattle.dir_names.specs.Definitions.Grammar.{byte, close_parenthesis, end, flag, none, nothing, open_parenthesis, part, quoted, white, with_list, with_text, with_word, word}
use Rattle.dir_names.specs.Definitions.Parts.{after_step, begun_by, is_flag, keyword_of, parts_from, parts_of, takes_list, takes_word, with_part}
use Rattle.dir_names.specs.Definitions.Tokens.{ends_word, tokens_at, tokens_from, tokens_of, with_token}
use Rattle.dir_names.specs.Trimming.{is_blank}

-- ---- tokens

-- a byte that a word may have begins one
module _ {A : Type 0} (nothing_more opened closed quotes begins : A) where
  begins_word : (w l r q : Bool) → (((w || l) || r) || q) ≡ false → cond w nothing_more (cond l opened (cond r closed (cond q quotes begins))) ≡ begins
  begins_word true l r q e = absurd (cc)
  begins_word false true r q e = absurd (cc)
  begins_word false false true q e = absurd (cc)
  begins_word false false false true e = absurd (cc)
  begins_word false false false false e = refl

word_begins : (b : ℕ) (rest : Spot → List ℕ → Option (List Token)) → ends_word b ≡ false → tokens_at b rest ≡ rest InWord (b ∷ [])
word_begins b rest e =
    begins_word (rest Between []) (with_token token.Open (rest Between [])) (with_token token.Close (rest Between [])) (rest InQuotes []) (rest InWord (b ∷ []))
    (is_blank b) (b == 40) (b == 41) (b == 39) e

in_word : (item bs text : List ℕ) → list_all (λ c. not (ends_word c)) bs ≡ true → tokens_from InWord item (bs ++ text) ≡ tokens_from InWord (item ++ bs) text
in_word item [] text e = ap (λ i. tokens_from InWord i text) (sym (append-nil item))
in_word item (b ∷ bs) text e =
    let both = and_parts (not (ends_word b)) (list_all (λ c. not (ends_word c)) bs) e in
    ap (λ x. cond x (with_token (token.Word item) (tokens_at b (λ spot begun. tokens_from spot begun (bs ++ text)))) (tokens_from InWord (item ++ b ∷ []) (bs ++ text))) (not-true (ends_word b) both.0)
    ∙ in_word (item ++ b ∷ []) bs text both.1 ∙ ap (λ i. tokens_from InWord i text) (append_assoc item (b ∷ []) bs)

in_quotes : (item inside text : List ℕ) → list_all (λ b. not (b == 39)) inside ≡ true → tokens_from InQuotes item (inside ++ 39 ∷ text) ≡ with_token (token.Quoted (item ++ inside)) (tokens_from Between [] text)
in_quotes item [] text e = ap (λ i. with_token (token.Quoted i) (tokens_from Between [] text)) (sym (append-nil item))
in_quotes item (b ∷ bs) text e =
    let both = and_parts (not (b == 39)) (list_all (λ c. not (c == 39)) bs) e in
    ap (λ x. cond x (with_token (token.Quoted item) (tokens_from Between [] (bs ++ 39 ∷ text))) (tokens_from InQuotes (item ++ b ∷ []) (bs ++ 39 ∷ text))) (not-true (b == 39) both.0)
    ∙ in_quotes (item ++ b ∷ []) bs text both.1 ∙ ap (λ i. with_token (token.Quoted i) (tokens_from Between [] text)) (append_assoc item (b ∷ []) bs)

after_word : (item text : List ℕ) (tokens : List Token) → EndsWord text → tokens_from Between [] text ≡ Some tokens → tokens_from InWord item text ≡ Some (token.Word item ∷ tokens)
after_word item text tokens end read = ap (with_token (token.Word item)) read
after_word item text tokens (byte b more e) read =
    ap (λ x. cond x (with_token (token.Word item) (tokens_at b (λ spot begun. tokens_from spot begun more))) (tokens_from InWord (item ++ b ∷ []) more)) e ∙ ap (with_token (token.Word item)) read

pub tokens_read : (text : List ℕ) (tokens : List Token) → SpellsTokens text tokens → tokens_of text ≡ Some tokens
tokens_read text tokens nothing = refl
tokens_read text tokens (white b more rest e s) =
    ap (λ x. cond x (tokens_from Between [] more) (cond (b == 40) (with_token token.Open (tokens_from Between [] more)) (cond (b == 41) (with_token token.Close (tokens_from Between [] more))
    (cond (b == 39) (tokens_from InQuotes [] more) (tokens_from InWord (b ∷ []) more))))) e
    ∙ tokens_read more rest s
tokens_read text tokens (open_parenthesis more rest s) = ap (with_token token.Open) (tokens_read more rest s)
tokens_read text tokens (close_parenthesis more rest s) = ap (with_token token.Close) (tokens_read more rest s)
tokens_read text tokens (quoted inside more rest e s) = in_quotes [] inside more e ∙ ap (with_token (token.Quoted inside)) (tokens_read more rest s)
tokens_read text tokens (word b bs more rest e ends s) =
    let both = and_parts (not (ends_word b)) (list_all (λ c. not (ends_word c)) bs) e in
    word_begins b (λ spot begun. tokens_from spot begun (bs ++ more)) (not-true (ends_word b) both.0)
    ∙ in_word (b ∷ []) bs more both.1 ∙ after_word (b ∷ bs) more rest ends (tokens_read more rest s)

-- ---- parts

word_no_flag : (k : Keyword) → takes_word k ≡ true → is_flag k ≡ false
word_no_flag keyword.Name e = refl
word_no_flag keyword.Desc e = refl
word_no_flag keyword.Obsolete e = absurd (cc)
word_no_flag keyword.Sup e = refl
word_no_flag keyword.Equality e = refl
word_no_flag keyword.Ordering e = refl
word_no_flag keyword.Substr e = refl
word_no_flag keyword.Syntax e = refl
word_no_flag keyword.SingleValue e = absurd (cc)
word_no_flag keyword.Collective e = absurd (cc)
word_no_flag keyword.NoUserModification e = absurd (cc)
word_no_flag keyword.Usage e = refl
word_no_flag keyword.Extension e = refl

list_no_flag : (k : Keyword) → takes_list k ≡ true → is_flag k ≡ false
list_no_flag keyword.Name e = refl
list_no_flag keyword.Desc e = refl
list_no_flag keyword.Obsolete e = absurd (cc)
list_no_flag keyword.Sup e = refl
list_no_flag keyword.Equality e = refl
list_no_flag keyword.Ordering e = refl
list_no_flag keyword.Substr e = refl
list_no_flag keyword.Syntax e = refl
list_no_flag keyword.SingleValue e = absurd (cc)
list_no_flag keyword.Collective e = absurd (cc)
list_no_flag keyword.NoUserModification e = absurd (cc)
list_no_flag keyword.Usage e = refl
list_no_flag keyword.Extension e = refl

-- after a keyword that something belongs to
begun : (w : List ℕ) (k : Keyword) (rest : List Token) → keyword_of w ≡ Some k → is_flag k ≡ false → parts_from place.Between (token.Word w ∷ rest) ≡ parts_from (place.After k) rest
begun w k rest e f =
    ap (λ o. after_step (option_and_then begun_by o) (λ next. parts_from next rest)) e
    ∙ ap (λ x. after_step (cond x (Some (record { place = place.Between; part = Some (record { keyword = k; texts = [] }) })) (Some (record { place = place.After k; part = None }))) (λ next. parts_from next rest)) f

in_list : (k : Keyword) (texts more : List (List ℕ)) (rest : List Token)
    → parts_from (place.InList k texts) (map token.Quoted more ++ token.Close ∷ rest) ≡ with_part (Some (record { keyword = k; texts = texts ++ more })) (parts_from place.Between rest)
in_list k texts [] rest = ap (λ ts. with_part (Some (record { keyword = k; texts = ts })) (parts_from place.Between rest)) (sym (append-nil texts))
in_list k texts (text ∷ more) rest = in_list k (texts ++ text ∷ []) more rest ∙ ap (λ ts. with_part (Some (record { keyword = k; texts = ts })) (parts_from place.Between rest)) (append_assoc texts (text ∷ []) more)

part_read : (first : List Token) (p : Part) (rest : List Token) → SpellsPart first p → parts_from place.Between (first ++ rest) ≡ with_part (Some p) (parts_from place.Between rest)
part_read first p rest (flag w k e f) =
    ap (λ o. after_step (option_and_then begun_by o) (λ next. parts_from next rest)) e
    ∙ ap (λ x. after_step (cond x (Some (record { place = place.Between; part = Some (record { keyword = k; texts = [] }) })) (Some (record { place = place.After k; part = None }))) (λ next. parts_from next rest)) f
part_read first p rest (with_text w k text e f) = begun w k (token.Quoted text ∷ rest) e f
part_read first p rest (with_word w k text e takes) =
    begun w k (token.Word text ∷ rest) e (word_no_flag k takes)
    ∙ ap (λ x. after_step (cond x (Some (record { place = place.Between; part = Some (record { keyword = k; texts = text ∷ [] }) })) None) (λ next. parts_from next rest)) takes
part_read first p rest (with_list w k texts e takes) =
    begun w k (token.Open ∷ ((map token.Quoted texts ++ token.Close ∷ []) ++ rest)) e (list_no_flag k takes)
    ∙ ap (λ x. after_step (cond x (Some (record { place = place.InList k []; part = None })) None) (λ next. parts_from next ((map token.Quoted texts ++ token.Close ∷ []) ++ rest))) takes
    ∙ ap (parts_from (place.InList k [])) (append_assoc (map token.Quoted texts) (token.Close ∷ []) rest)
    ∙ in_list k [] texts rest

parts_read : (tokens : List Token) (parts : List Part) → SpellsParts tokens parts → parts_of (tokens ++ token.Close ∷ []) ≡ Some parts
parts_read tokens parts none = refl
parts_read tokens parts (part first rest p ps s more) =
    ap (parts_from place.Between) (append_assoc first rest (token.Close ∷ [])) ∙ part_read first p (rest ++ token.Close ∷ []) s ∙ ap (with_part (Some p)) (parts_read rest ps more)

-- ---- definitions

pub definition_read : (text : List ℕ) (d : TypeDefinition) → Defines text d → definition_of text ≡ Some d
definition_read text d it =
    ap (option_and_then definition_in) (tokens_read text _ it.spells)
    ∙ ap (λ x. cond x (option_and_then (definition_by d.number) (parts_of (it.tokens ++ token.Close ∷ []))) None) it.number
    ∙ ap (option_and_then (definition_by d.number)) (parts_read it.tokens it.parts it.all_parts)
    ∙ ap (λ x. cond x (Some (definition_from d.number it.parts)) None) it.each_once
    ∙ ap Some (sym it.says)
