-- What is read as a definition is one by the grammar.
use Rattle.std.proofs.Common.{◌≡◌, ℕ, Bool, true, false, cond, not, List, [], ◌∷◌, ◌++◌, Option, Some, None, map, refl, ap, sym, ◌∙◌, subst, append_assoc}
use Rattle.std.specs.Prelude.{◌==◌, option_and_then, Result, Ok, Err, IfNone, IfOk, IfSome}
use Rattle.std.specs.List.{list_all}
use Rattle.std.specs.Option.{option_map}
use Rattle.std.proofs.lemmas.List.{map-append}
use Rattle.std.proofs.lemmas.List.Folds.{list_all-append}
use Rattle.std.proofs.lemmas.Bool.{and_from, eqb-true}
use Rattle.dir_names.specs.declared.fault.NameFault.{NameFault}
use Rattle.dir_names.specs.declared.schema.definition.TypeDefinition.{TypeDefinition}
use Rattle.dir_names.specs.declared.schema.definition.parts.Keyword.{Keyword}
use Rattle.dir_names.specs.declared.schema.definition.parts.Part.{Part}
use Rattle.dir_names.specs.declared.schema.definition.parts.Place.{Place}
use Rattle.dir_names.specs.declared.schema.definition.parts.Place.TheVariants as place
use Rattle.dir_names.specs.declared.schema.definition.tokens.Spot.{Spot}
use Rattle.dir_names.specs.declared.schema.definition.tokens.Spot.TheVariants.{Between, InWord, InQuotes}
use Rattle.dir_names.specs.declared.schema.definition.tokens.Token.{Token}
use Rattle.dir_names.specs.declared.schema.definition.tokens.Token.TheVariants as token
use Rattle.dir_names.specs.Definitions.{definition_by, definition_from, definition_in, definition_of}
use Rattle.dir_names.specs.Definitions.Grammar.{Defines, SpellsPart, SpellsParts, SpellsTokens}
use Rattle.dir_names.specs.Definitions.Grammar.{byte, close_parenthesis, end, flag, none, nothing, open_parenthesis, part, quoted, white, with_list, with_text, with_word, word}
use Rattle.dir_names.specs.Definitions.Parts.{after_step, begun_by, is_each_once, is_flag, keyword_of, parts_from, parts_of, takes_list, takes_word, with_part}
use Rattle.dir_names.specs.Definitions.Tokens.{ends_word, tokens_at, tokens_from, tokens_of, with_token}
use Rattle.dir_names.specs.Trimming.{is_blank}
use Rattle.dir_names.specs.Descriptions.{is_numericoid}
use Rattle.dir_names.specs.Outcome.{Gives}
use Rattle.dir_names.proofs.DefinitionReads.{definition_read}

-- a list that begins with an element has the rest after it
with_first : {T : Type 0} (x : T) (o : Option (List T)) (all : List T) → option_map (λ more. x ∷ more) o ≡ Some all → (more : List T) × ((o ≡ Some more) × (x ∷ more ≡ all))
with_first x None all e = absurd (cc)
with_first x (Some more) all e = let same : x ∷ more ≡ all = cc in (more, (refl, same))

-- ---- tokens

-- what tokens that were read from a spot on are
abbrev IsRead : Spot → List ℕ → List ℕ → List Token → Type 0
IsRead Between item text tokens = SpellsTokens text tokens
IsRead InWord [] text tokens = Unit {0}
IsRead InWord (x ∷ xs) text tokens = list_all (λ c. not (ends_word c)) (x ∷ xs) ≡ true → SpellsTokens (x ∷ (xs ++ text)) tokens
IsRead InQuotes item text tokens = list_all (λ c. not (c == 39)) item ≡ true → SpellsTokens (39 ∷ (item ++ text)) tokens

abbrev Reads : List ℕ → Type 0
Reads text = (spot : Spot) (item : List ℕ) (tokens : List Token) → tokens_from spot item text ≡ Some tokens → IsRead spot item text tokens

module _ (b : ℕ) (bs : List ℕ) (later : Reads bs) (tokens : List Token) where
  after_single : (code : ℕ) (t : Token) → (b == code) ≡ true → ((text : List ℕ) (more : List Token) → SpellsTokens text more → SpellsTokens (code ∷ text) (t ∷ more))
      → with_token t (tokens_from Between [] bs) ≡ Some tokens → SpellsTokens (b ∷ bs) tokens
  after_single code t same spell e =
      let split = with_first t (tokens_from Between [] bs) tokens e in
      subst (λ x. SpellsTokens (x ∷ bs) tokens) (sym (eqb-true b code same)) (subst (SpellsTokens (code ∷ bs)) split.1.1 (spell bs split.0 (later Between [] split.0 split.1.0)))

  at_byte_by : (w l r q : Bool) → is_blank b ≡ w → (b == 40) ≡ l → (b == 41) ≡ r → (b == 39) ≡ q
      → cond w (tokens_from Between [] bs) (cond l (with_token token.Open (tokens_from Between [] bs)) (cond r (with_token token.Close (tokens_from Between [] bs)) (cond q (tokens_from InQuotes [] bs) (tokens_from InWord (b ∷ []) bs)))) ≡ Some tokens
      → SpellsTokens (b ∷ bs) tokens
  at_byte_by true l r q w' l' r' q' e = white b bs tokens w' (later Between [] tokens e)
  at_byte_by false true r q w' l' r' q' e = after_single 40 token.Open l' open_parenthesis e
  at_byte_by false false true q w' l' r' q' e = after_single 41 token.Close r' close_parenthesis e
  at_byte_by false false false true w' l' r' q' e = subst (λ x. SpellsTokens (x ∷ bs) tokens) (sym (eqb-true b 39 q')) (later InQuotes [] tokens e refl)
  at_byte_by false false false false w' l' r' q' e = later InWord (b ∷ []) tokens e plain
    where
      plain : list_all (λ c. not (ends_word c)) (b ∷ []) ≡ true
      plain = rw (w', l', r', q') refl

  at_byte : tokens_at b (λ spot begun. tokens_from spot begun bs) ≡ Some tokens → SpellsTokens (b ∷ bs) tokens
  at_byte e = at_byte_by (is_blank b) (b == 40) (b == 41) (b == 39) refl refl refl refl e

module _ (b : ℕ) (bs : List ℕ) (later : Reads bs) where
  in_word_by : (ends : Bool) → ends_word b ≡ ends → (x : ℕ) (xs : List ℕ) (tokens : List Token)
      → cond ends (with_token (token.Word (x ∷ xs)) (tokens_at b (λ spot begun. tokens_from spot begun bs))) (tokens_from InWord ((x ∷ xs) ++ b ∷ []) bs) ≡ Some tokens
      → list_all (λ c. not (ends_word c)) (x ∷ xs) ≡ true → SpellsTokens (x ∷ (xs ++ b ∷ bs)) tokens
  in_word_by true ends x xs tokens e all =
      let split = with_first (token.Word (x ∷ xs)) (tokens_at b (λ spot begun. tokens_from spot begun bs)) tokens e in
      subst (SpellsTokens (x ∷ (xs ++ b ∷ bs))) split.1.1 (word x xs (b ∷ bs) split.0 all (byte b bs ends) (at_byte b bs later split.0 split.1.0))
  in_word_by false ends x xs tokens e all =
      subst (λ more. SpellsTokens (x ∷ more) tokens) (append_assoc xs (b ∷ []) bs) (later InWord (x ∷ (xs ++ b ∷ [])) tokens e longer)
    where
      longer : list_all (λ c. not (ends_word c)) ((x ∷ xs) ++ b ∷ []) ≡ true
      longer = list_all-append (λ c. not (ends_word c)) (x ∷ xs) (b ∷ []) ∙ and_from _ _ all (rw ends refl)

  in_quotes_by : (ends : Bool) → (b == 39) ≡ ends → (item : List ℕ) (tokens : List Token)
      → cond ends (with_token (token.Quoted item) (tokens_from Between [] bs)) (tokens_from InQuotes (item ++ b ∷ []) bs) ≡ Some tokens
      → list_all (λ c. not (c == 39)) item ≡ true → SpellsTokens (39 ∷ (item ++ b ∷ bs)) tokens
  in_quotes_by true ends item tokens e all =
      let split = with_first (token.Quoted item) (tokens_from Between [] bs) tokens e in
      subst (λ x. SpellsTokens (39 ∷ (item ++ x ∷ bs)) tokens) (sym (eqb-true b 39 ends)) (subst (SpellsTokens (39 ∷ (item ++ 39 ∷ bs))) split.1.1 (quoted item bs split.0 all (later Between [] split.0 split.1.0)))
  in_quotes_by false ends item tokens e all =
      subst (λ more. SpellsTokens (39 ∷ more) tokens) (append_assoc item (b ∷ []) bs) (later InQuotes (item ++ b ∷ []) tokens e longer)
    where
      longer : list_all (λ c. not (c == 39)) (item ++ b ∷ []) ≡ true
      longer = list_all-append (λ c. not (c == 39)) item (b ∷ []) ∙ and_from _ _ all (rw ends refl)

all_read : (text : List ℕ) → Reads text
all_read [] Between item tokens e = let same : [] ≡ tokens = cc in subst (SpellsTokens []) same nothing
all_read [] InWord [] tokens e = tt
all_read [] InWord (x ∷ xs) tokens e = let same : token.Word (x ∷ xs) ∷ [] ≡ tokens = cc in λ all. subst (SpellsTokens (x ∷ (xs ++ []))) same (word x xs [] [] all end nothing)
all_read [] InQuotes item tokens e = absurd (cc)
all_read (b ∷ bs) Between item tokens e = at_byte b bs (all_read bs) tokens e
all_read (b ∷ bs) InWord [] tokens e = tt
all_read (b ∷ bs) InWord (x ∷ xs) tokens e = in_word_by b bs (all_read bs) (ends_word b) refl x xs tokens e
all_read (b ∷ bs) InQuotes item tokens e = in_quotes_by b bs (all_read bs) (b == 39) refl item tokens e

pub tokens_spelled : (text : List ℕ) (tokens : List Token) → tokens_of text ≡ Some tokens → SpellsTokens text tokens
tokens_spelled text tokens e = all_read text Between [] tokens e

-- ---- parts

-- these are the tokens of parts, and the parenthesis after them
abbrev Closes : List Token → List Part → Type 0
Closes tokens parts = (inner : List Token) × ((tokens ≡ inner ++ token.Close ∷ []) × SpellsParts inner parts)

one_part : (first : List Token) (p : Part) (rest : List Token) (ps : List Part) → SpellsPart first p → Closes rest ps → Closes (first ++ rest) (p ∷ ps)
one_part first p rest ps s (inner, (same, more)) = (first ++ inner, (ap (λ ts. first ++ ts) same ∙ sym (append_assoc first inner (token.Close ∷ [])), part first inner p ps s more))

-- what parts that were read from a place on are
abbrev IsReadAt : Place → List Token → List Part → Type 0
IsReadAt place.Between tokens parts = Closes tokens parts
IsReadAt (place.After k) tokens parts = (w : List ℕ) → keyword_of w ≡ Some k → is_flag k ≡ false → Closes (token.Word w ∷ tokens) parts
IsReadAt (place.InList k texts) tokens parts = (w : List ℕ) → keyword_of w ≡ Some k → takes_list k ≡ true → Closes (token.Word w ∷ token.Open ∷ (map token.Quoted texts ++ tokens)) parts
IsReadAt place.End tokens parts = (tokens ≡ []) × (parts ≡ [])

abbrev ReadsParts : List Token → Type 0
ReadsParts tokens = (p : Place) (parts : List Part) → parts_from p tokens ≡ Some parts → IsReadAt p tokens parts

module _ (tokens : List Token) (later : ReadsParts tokens) where
  after_part : (first : List Token) (p : Part) (parts : List Part) → SpellsPart first p → with_part (Some p) (parts_from place.Between tokens) ≡ Some parts → Closes (first ++ tokens) parts
  after_part first p parts s e =
      let split = with_first p (parts_from place.Between tokens) parts e in
      subst (Closes (first ++ tokens)) split.1.1 (one_part first p tokens split.0 s (later place.Between split.0 split.1.0))

  begun_by_flag : (flags : Bool) (w : List ℕ) (k : Keyword) (parts : List Part) → keyword_of w ≡ Some k → is_flag k ≡ flags
      → after_step (cond flags (Some (record { place = place.Between; part = Some (record { keyword = k; texts = [] }) })) (Some (record { place = place.After k; part = None }))) (λ next. parts_from next tokens) ≡ Some parts
      → Closes (token.Word w ∷ tokens) parts
  begun_by_flag true w k parts e f read = after_part (token.Word w ∷ []) (record { keyword = k; texts = [] }) parts (flag w k e f) read
  begun_by_flag false w k parts e f read = later (place.After k) parts read w e f

  at_keyword : (o : Option Keyword) (w : List ℕ) (parts : List Part) → keyword_of w ≡ o → after_step (option_and_then begun_by o) (λ next. parts_from next tokens) ≡ Some parts → Closes (token.Word w ∷ tokens) parts
  at_keyword None w parts e read = absurd (cc)
  at_keyword (Some k) w parts e read = begun_by_flag (is_flag k) w k parts e refl read

  at_word : (takes : Bool) (k : Keyword) (text : List ℕ) (parts : List Part) → takes_word k ≡ takes
      → after_step (cond takes (Some (record { place = place.Between; part = Some (record { keyword = k; texts = text ∷ [] }) })) None) (λ next. parts_from next tokens) ≡ Some parts
      → (w : List ℕ) → keyword_of w ≡ Some k → is_flag k ≡ false → Closes (token.Word w ∷ token.Word text ∷ tokens) parts
  at_word true k text parts takes read w e f = after_part (token.Word w ∷ token.Word text ∷ []) (record { keyword = k; texts = text ∷ [] }) parts (with_word w k text e takes) read
  at_word false k text parts takes read w e f = absurd (cc)

  at_open : (takes : Bool) (k : Keyword) (parts : List Part) → takes_list k ≡ takes
      → after_step (cond takes (Some (record { place = place.InList k []; part = None })) None) (λ next. parts_from next tokens) ≡ Some parts
      → (w : List ℕ) → keyword_of w ≡ Some k → is_flag k ≡ false → Closes (token.Word w ∷ token.Open ∷ tokens) parts
  at_open true k parts takes read w e f = later (place.InList k []) parts read w e takes
  at_open false k parts takes read w e f = absurd (cc)

  at_end : (parts : List Part) → parts_from place.End tokens ≡ Some parts → Closes (token.Close ∷ tokens) parts
  at_end parts read =
      let both = later place.End parts read in
      ([], (ap (λ ts. token.Close ∷ ts) both.0, subst (SpellsParts []) (sym both.1) none))

  after_token : (t : Token) → ReadsParts (t ∷ tokens)
  after_token token.Open place.Between parts e = absurd (cc)
  after_token token.Close place.Between parts e = at_end parts e
  after_token (token.Quoted text) place.Between parts e = absurd (cc)
  after_token (token.Word w) place.Between parts e = at_keyword (keyword_of w) w parts refl e
  after_token token.Open (place.After k) parts e = at_open (takes_list k) k parts refl e
  after_token token.Close (place.After k) parts e = absurd (cc)
  after_token (token.Quoted text) (place.After k) parts e = λ w named f. after_part (token.Word w ∷ token.Quoted text ∷ []) (record { keyword = k; texts = text ∷ [] }) parts (with_text w k text named f) e
  after_token (token.Word text) (place.After k) parts e = at_word (takes_word k) k text parts refl e
  after_token token.Open (place.InList k texts) parts e = absurd (cc)
  after_token token.Close (place.InList k texts) parts e = λ w named takes.
      subst (λ ts. Closes (token.Word w ∷ token.Open ∷ ts) parts) (append_assoc (map token.Quoted texts) (token.Close ∷ []) tokens)
      (after_part (token.Word w ∷ token.Open ∷ (map token.Quoted texts ++ token.Close ∷ [])) (record { keyword = k; texts = texts }) parts (with_list w k texts named takes) e)
  after_token (token.Quoted text) (place.InList k texts) parts e = λ w named takes.
      subst (λ ts. Closes (token.Word w ∷ token.Open ∷ ts) parts)
      (ap (λ ts. ts ++ tokens) (map-append token.Quoted texts (text ∷ [])) ∙ append_assoc (map token.Quoted texts) (token.Quoted text ∷ []) tokens)
      (later (place.InList k (texts ++ text ∷ [])) parts e w named takes)
  after_token (token.Word text) (place.InList k texts) parts e = absurd (cc)
  after_token token.Open place.End parts e = absurd (cc)
  after_token token.Close place.End parts e = absurd (cc)
  after_token (token.Quoted text) place.End parts e = absurd (cc)
  after_token (token.Word text) place.End parts e = absurd (cc)

all_parts_read : (tokens : List Token) → ReadsParts tokens
all_parts_read [] place.Between parts e = absurd (cc)
all_parts_read [] (place.After k) parts e = absurd (cc)
all_parts_read [] (place.InList k texts) parts e = absurd (cc)
all_parts_read [] place.End parts e = let same : parts ≡ [] = cc in (refl, same)
all_parts_read (t ∷ tokens) p parts e = after_token tokens (all_parts_read tokens) t p parts e

-- ---- definitions

module _ (text number : List ℕ) (inner : List Token) (parts : List Part) (d : TypeDefinition) where
  defined_once : (once : Bool) → is_each_once parts ≡ once → cond once (Some (definition_from number parts)) None ≡ Some d
      → SpellsTokens text (token.Open ∷ token.Word number ∷ (inner ++ token.Close ∷ [])) → is_numericoid number ≡ true → SpellsParts inner parts → Defines text d
  defined_once true once e spells numbered all =
      let same : definition_from number parts ≡ d = cc in
      subst (Defines text) same (record { tokens = inner; parts = parts; spells = spells; number = numbered; all_parts = all; each_once = once; says = refl })
  defined_once false once e spells numbered all = absurd (cc)

module _ (text number : List ℕ) (rest : List Token) (spells : SpellsTokens text (token.Open ∷ token.Word number ∷ rest)) (d : TypeDefinition) where
  defined_by : (o : Option (List Part)) → parts_of rest ≡ o → option_and_then (definition_by number) o ≡ Some d → is_numericoid number ≡ true → Defines text d
  defined_by None read e numbered = absurd (cc)
  defined_by (Some parts) read e numbered =
      let closed = all_parts_read rest place.Between parts read in
      defined_once text number closed.0 parts d (is_each_once parts) refl e (subst (λ ts. SpellsTokens text (token.Open ∷ token.Word number ∷ ts)) closed.1.0 spells) numbered closed.1.1

  defined_if : (n : Bool) → is_numericoid number ≡ n → cond n (option_and_then (definition_by number) (parts_of rest)) None ≡ Some d → Defines text d
  defined_if true n e = defined_by (parts_of rest) refl e n
  defined_if false n e = absurd (cc)

defined_in : (text : List ℕ) (tokens : List Token) (d : TypeDefinition) → SpellsTokens text tokens → definition_in tokens ≡ Some d → Defines text d
defined_in text (token.Open ∷ token.Word number ∷ rest) d s e = defined_if text number rest s d (is_numericoid number) refl e
defined_in text [] d s e = absurd (cc)
defined_in text (token.Open ∷ []) d s e = absurd (cc)
defined_in text (token.Open ∷ token.Open ∷ rest) d s e = absurd (cc)
defined_in text (token.Open ∷ token.Close ∷ rest) d s e = absurd (cc)
defined_in text (token.Open ∷ token.Quoted t ∷ rest) d s e = absurd (cc)
defined_in text (token.Close ∷ rest) d s e = absurd (cc)
defined_in text (token.Quoted t ∷ rest) d s e = absurd (cc)
defined_in text (token.Word t ∷ rest) d s e = absurd (cc)

defined_of : (text : List ℕ) (o : Option (List Token)) (d : TypeDefinition) → tokens_of text ≡ o → option_and_then definition_in o ≡ Some d → Defines text d
defined_of text None d read e = absurd (cc)
defined_of text (Some tokens) d read e = defined_in text tokens d (tokens_spelled text tokens read) e

pub defined : (text : List ℕ) (d : TypeDefinition) → definition_of text ≡ Some d → Defines text d
defined text d e = defined_of text (tokens_of text) d refl e

-- ---- what the reader answers

module _ (text : List ℕ) (answer : Result (Option TypeDefinition) NameFault) (gives : Gives (λ d. d) answer (Ok (definition_of text))) where
  pub answer_exact : (d : TypeDefinition) → Defines text d → Gives (λ read. read) answer (Ok (Some d))
  answer_exact d it = subst (λ o. Gives (λ read. read) answer (Ok o)) (definition_read text d it) gives

pub answer_defined : (text : List ℕ) (answer : Result (Option TypeDefinition) NameFault) → Gives (λ d. d) answer (Ok (definition_of text)) → IfOk answer (λ o. IfSome o (λ d. Defines text d))
answer_defined text (Err e) gives = tt
answer_defined text (Ok None) gives = tt
answer_defined text (Ok (Some d)) gives = let same : definition_of text ≡ Some d = cc in defined text d same

pub answer_none : (text : List ℕ) (answer : Result (Option TypeDefinition) NameFault) → Gives (λ d. d) answer (Ok (definition_of text)) → IfOk answer (λ o. IfNone o ((d : TypeDefinition) → Defines text d → ⊥))
answer_none text (Err e) gives = tt
answer_none text (Ok None) gives = λ d it. let read = definition_read text d it in absurd (cc)
answer_none text (Ok (Some d)) gives = tt
