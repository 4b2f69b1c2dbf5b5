-- A printed name reads back: a printed part has no separator, so that splitting at separators gives the parts.
use Rattle.std.proofs.Common.{◌≡◌, ℕ, suc, ◌+◌, ◌/◌, ◌%◌, ◌<◌, Bool, true, false, cond, not, List, [], ◌∷◌, ◌++◌, map, length, take, drop, Option, Some, None, Ok, Err, refl, ap, sym, ◌∙◌, arith}
use Rattle.std.specs.Prelude.{◌==◌, ◌&&◌, ◌||◌, nat_lt}
use Rattle.std.specs.List.{list_all, join_with_byte, onto_first, before_first, after_first, position_or_len}
use Rattle.std.specs.Option.{option_map}
use Rattle.std.proofs.lemmas.List.{append-nil, length-append}
use Rattle.std.proofs.lemmas.List.Folds.{list_all-append}
use Rattle.std.proofs.lemmas.Bool.{ltb-true, lt-ltb, eq-eqb, and_parts}
use Rattle.std.proofs.lemmas.Bool.Decides.{nat_tests}
use Rattle.std.proofs.Math.Seq.{take-append_seam}
use Rattle.dir_names.specs.declared.fault.NameFault.TheVariants.{NameLimit}
use Rattle.dir_names.specs.Cut.{after_first_separator, parts_at}
use Rattle.dir_names.specs.Descriptions.{is_descr as is_type_name, is_digit, is_keychar, is_number, is_numericoid, is_type}
use Rattle.dir_names.specs.Names.{SpelledPair, SpelledRdn, SpelledName}
use Rattle.dir_names.specs.Names.Printing.{escape_of, is_special, printed_byte, printed_name, printed_pair, printed_rdn, printed_rest, printed_value, upper_digit}
use Rattle.dir_names.specs.Names.Reading.{name_of, name_within_limits, only_rdn, only_rdn_of, pair_from, pair_of, pieces, rdn_of, rdn_within_limit, value_of}
use Rattle.dir_names.specs.Results.{option_collect, option_cons}
use Rattle.dir_names.specs.Names.Limits.{is_rdn_within_limit, is_within_limits, ok_if_within}
use Rattle.dir_names.specs.Names.Sound.{is_sound_name, is_sound_pair, is_sound_rdn}
use Rattle.dir_names.specs.ValueKeys.Spaces.{without_leading_spaces, without_trailing_spaces}
use Rattle.dir_names.proofs.ByteFacts.{is_type_char, upper_is_plain, upper_is_ascii, plain_is_ascii, type_is_ascii, high_half, low_half, plain_not_escape, plain_not_plus, plain_not_comma, type_not_equals, type_not_space, type_not_plus, type_not_comma, type_not_escape, letter_is_type, keychar_is_type, digit_is_type, dot_is_type}
use Rattle.dir_names.specs.ValueKeys.{is_ascii}
use Rattle.dir_names.proofs.PieceLemmas.{onto}
use Rattle.dir_names.proofs.ReadValues.{value_back}
use Rattle.dir_names.proofs.Tidy.{front_other}

-- ---- a text without separators of its own

-- whether the byte after the text is escaped, if the text has no separator
abbrev pub passes : ℕ → Bool → List ℕ → Option Bool
passes separator e [] = Some e
passes separator e (b ∷ bs) = cond (not e && b == separator) None (passes separator (not e && b == 92) bs)

onto_first-onto : (b : ℕ) (front : List ℕ) (ps : List (List ℕ)) → onto_first b (onto front ps) ≡ onto (b ∷ front) ps
onto_first-onto b front [] = refl
onto_first-onto b front (p ∷ ps) = refl

module _ (separator : ℕ) where
  pub pieces_pass : (e f : Bool) (text more : List ℕ) → passes separator e text ≡ Some f → pieces separator e (text ++ more) ≡ onto text (pieces separator f more)
  pieces_pass e f [] more h = (let same : e ≡ f = cc in ap (λ x. pieces separator x more) same) ∙ first f more
    where
      first : (f : Bool) (more : List ℕ) → pieces separator f more ≡ onto [] (pieces separator f more)
      first f [] = refl
      first f (b ∷ bs) = by (not f && (b == separator)) (pieces separator (not f && (b == 92)) bs)
        where
          by : (t : Bool) (ps : List (List ℕ)) → cond t ([] ∷ pieces separator false bs) (onto_first b ps) ≡ onto [] (cond t ([] ∷ pieces separator false bs) (onto_first b ps))
          by true ps = refl
          by false [] = refl
          by false (p ∷ ps) = refl
  pieces_pass e f (b ∷ bs) more h = by (not e && (b == separator)) h (λ k. pieces_pass (not e && (b == 92)) f bs more k)
    where
      by : (t : Bool) → cond t None (passes separator (not e && (b == 92)) bs) ≡ Some f → (passes separator (not e && (b == 92)) bs ≡ Some f → pieces separator (not e && (b == 92)) (bs ++ more) ≡ onto bs (pieces separator f more)) → cond t ([] ∷ pieces separator false (bs ++ more)) (onto_first b (pieces separator (not e && (b == 92)) (bs ++ more))) ≡ onto (b ∷ bs) (pieces separator f more)
      by true k rec = absurd (cc)
      by false k rec = ap (onto_first b) (rec k) ∙ onto_first-onto b bs (pieces separator f more)

  pub passes-append : (e f : Bool) (x y : List ℕ) → passes separator e x ≡ Some f → passes separator e (x ++ y) ≡ passes separator f y
  passes-append e f [] y h = let same : e ≡ f = cc in ap (λ t. passes separator t y) same
  passes-append e f (b ∷ bs) y h = by (not e && (b == separator)) h (λ k. passes-append (not e && (b == 92)) f bs y k)
    where
      by : (t : Bool) → cond t None (passes separator (not e && (b == 92)) bs) ≡ Some f → (passes separator (not e && (b == 92)) bs ≡ Some f → passes separator (not e && (b == 92)) (bs ++ y) ≡ passes separator f y) → cond t None (passes separator (not e && (b == 92)) (bs ++ y)) ≡ passes separator f y
      by true k rec = absurd (cc)
      by false k rec = rec k

  -- bytes that are neither the separator nor a `\`
  pub passes_plain : (b : ℕ) (bs : List ℕ) → (b == separator) ≡ false → (b == 92) ≡ false → passes separator false (b ∷ bs) ≡ passes separator false bs
  passes_plain b bs e f = ap (λ t. cond t None (passes separator (b == 92) bs)) e ∙ ap (λ t. passes separator t bs) f

  -- a `\` and two bytes, the second of which is neither
  pub passes_escape : (c d : ℕ) (bs : List ℕ) → (92 == separator) ≡ false → (d == separator) ≡ false → (d == 92) ≡ false → passes separator false (92 ∷ c ∷ d ∷ bs) ≡ passes separator false bs
  passes_escape c d bs s e f = ap (λ t. cond t None (passes separator false (d ∷ bs))) s ∙ passes_plain d bs e f

  -- no text has a separator, nor escapes the byte after it
  abbrev pub AllPassing : List (List ℕ) → Type 0
  AllPassing [] = Unit {0}
  AllPassing (x ∷ xs) = (passes separator false x ≡ Some false) × AllPassing xs

  pub join_pieces : (x : List ℕ) (xs : List (List ℕ)) → AllPassing (x ∷ xs) → pieces separator false (join_with_byte separator (x ∷ xs)) ≡ x ∷ xs
  join_pieces x [] p =
      ap (pieces separator false) (sym (append-nil x)) ∙ pieces_pass false false x [] p.0 ∙ ap (λ y. y ∷ []) (append-nil x)
  join_pieces x (y ∷ ys) p =
      pieces_pass false false x (separator ∷ join_with_byte separator (y ∷ ys)) p.0
      ∙ ap (λ t. onto x (cond t ([] ∷ pieces separator false (join_with_byte separator (y ∷ ys))) (onto_first separator (pieces separator (separator == 92) (join_with_byte separator (y ∷ ys)))))) (eq-eqb separator separator refl)
      ∙ (λ i. append-nil x i ∷ join_pieces y ys p.1 i)

  -- so does their join by another sign
  pub join_passes : (c : ℕ) → (c == separator) ≡ false → (c == 92) ≡ false → (x : List ℕ) (xs : List (List ℕ)) → AllPassing (x ∷ xs) → passes separator false (join_with_byte c (x ∷ xs)) ≡ Some false
  join_passes c e f x [] p = p.0
  join_passes c e f x (y ∷ ys) p =
      passes-append false false x (c ∷ join_with_byte c (y ∷ ys)) p.0 ∙ passes_plain c (join_with_byte c (y ∷ ys)) e f ∙ join_passes c e f y ys p.1

-- ---- types

kind_chars : (bs : List ℕ) → is_type_name bs ≡ true → list_all is_type_char bs ≡ true
kind_chars [] e = absurd (cc)
kind_chars (b ∷ bs) e =
    let parts = and_parts _ _ e in
    λ i. letter_is_type b parts.0 i && more bs parts.1 i
  where
    more : (bs : List ℕ) → list_all is_keychar bs ≡ true → list_all is_type_char bs ≡ true
    more [] e = refl
    more (b ∷ bs) e = let parts = and_parts _ _ e in λ i. keychar_is_type b parts.0 i && more bs parts.1 i

decimal_digits : (bs : List ℕ) → is_number bs ≡ true → list_all is_digit bs ≡ true
decimal_digits [] e = absurd (cc)
decimal_digits (b ∷ bs) e =
    let parts = and_parts (is_digit b && (not (b == 48) || length bs == 0)) (list_all is_digit bs) e in
    let heads = and_parts (is_digit b) (not (b == 48) || length bs == 0) parts.0 in
    λ i. heads.0 i && parts.1 i

all_decimal_digits : (parts : List (List ℕ)) → list_all is_number parts ≡ true → list_all (list_all is_digit) parts ≡ true
all_decimal_digits [] e = refl
all_decimal_digits (p ∷ ps) e = let parts = and_parts _ _ e in λ i. decimal_digits p parts.0 i && all_decimal_digits ps parts.1 i

number_chars : (bs : List ℕ) → list_all (list_all is_digit) (parts_at 46 bs) ≡ true → list_all is_type_char bs ≡ true
number_chars [] e = refl
number_chars (b ∷ bs) e = by (b == 46) refl (parts_at 46 bs) refl e (λ h. number_chars bs h)
  where
    by : (t : Bool) → (b == 46) ≡ t → (ps : List (List ℕ)) → parts_at 46 bs ≡ ps → list_all (list_all is_digit) (cond t ([] ∷ ps) (onto_first b ps)) ≡ true → (list_all (list_all is_digit) (parts_at 46 bs) ≡ true → list_all is_type_char bs ≡ true) → (is_type_char b && list_all is_type_char bs) ≡ true
    by true g ps q h rec = λ i. dot_is_type b g i && rec (ap (list_all (list_all is_digit)) q ∙ h) i
    by false g [] q h rec =
        let parts = and_parts _ _ (and_parts _ _ h).0 in
        λ i. digit_is_type b parts.0 i && rec (ap (list_all (list_all is_digit)) q) i
    by false g (p ∷ ps) q h rec =
        let all = and_parts _ _ h in
        let parts = and_parts _ _ all.0 in
        λ i. digit_is_type b parts.0 i && rec (ap (list_all (list_all is_digit)) q ∙ (λ j. parts.1 j && all.1 j)) i

pub type_chars : (bs : List ℕ) → is_type bs ≡ true → list_all is_type_char bs ≡ true
type_chars bs e = by (is_type_name bs) refl (and_parts (is_type_name bs || is_numericoid bs) _ e).0
  where
    by : (t : Bool) → is_type_name bs ≡ t → (t || is_numericoid bs) ≡ true → list_all is_type_char bs ≡ true
    by true g h = kind_chars bs g
    by false g h = number_chars bs (all_decimal_digits (parts_at 46 bs) (and_parts _ _ h).1)

pub kind_passes : (separator : ℕ) → ((b : ℕ) → is_type_char b ≡ true → (b == separator) ≡ false) → (bs : List ℕ) → list_all is_type_char bs ≡ true → passes separator false bs ≡ Some false
kind_passes separator apart [] e = refl
kind_passes separator apart (b ∷ bs) e =
    let parts = and_parts _ _ e in
    passes_plain separator b bs (apart b parts.0) (type_not_escape b parts.0) ∙ kind_passes separator apart bs parts.1

-- ---- values

module _ (separator : ℕ) (escape : (92 == separator) ≡ false) (digit : (n : ℕ) → n < 16 → (upper_digit n == separator) ≡ false) (plain : (b : ℕ) → is_special b ≡ false → (b == separator) ≡ false) where
  escaped_passes : (b : ℕ) (t : List ℕ) → b < 256 → passes separator false (escape_of b ++ t) ≡ passes separator false t
  escaped_passes b t h = passes_escape separator (upper_digit (b / 16)) (upper_digit (b % 16)) t escape (digit (b % 16) (low_half b)) (upper_is_plain (b % 16) (low_half b))

  shown_passes : (b : ℕ) (t : List ℕ) → b < 256 → passes separator false (printed_byte b ++ t) ≡ passes separator false t
  shown_passes b t h = by (is_special b) refl
    where
      by : (s : Bool) → is_special b ≡ s → passes separator false (cond s (escape_of b) (b ∷ []) ++ t) ≡ passes separator false t
      by true g = escaped_passes b t h
      by false g = passes_plain separator b t (plain b g) (plain_not_escape b g)

  either_passes : (s : Bool) (b : ℕ) (t : List ℕ) → b < 256 → passes separator false (cond s (escape_of b) (printed_byte b) ++ t) ≡ passes separator false t
  either_passes true b t h = escaped_passes b t h
  either_passes false b t h = shown_passes b t h

  low : (b : ℕ) (bs : List ℕ) → list_all (λ x. nat_lt x 256) (b ∷ bs) ≡ true → b < 256
  low b bs e = ltb-true b 256 (and_parts _ _ e).0

  rest_passes : (bs : List ℕ) → list_all (λ b. nat_lt b 256) bs ≡ true → passes separator false (printed_rest bs) ≡ Some false
  rest_passes [] e = refl
  rest_passes (b ∷ []) e = ap (passes separator false) (sym (append-nil (cond (b == 32) (escape_of b) (printed_byte b)))) ∙ either_passes (b == 32) b [] (low b [] e)
  rest_passes (b ∷ c ∷ bs) e = shown_passes b (printed_rest (c ∷ bs)) (low b (c ∷ bs) e) ∙ rest_passes (c ∷ bs) (and_parts _ _ e).1

  value_passes : (bs : List ℕ) → list_all (λ b. nat_lt b 256) bs ≡ true → passes separator false (printed_value bs) ≡ Some false
  value_passes [] e = refl
  value_passes (b ∷ bs) e = either_passes (b == 32 || b == 35) b (printed_rest bs) (low b bs e) ∙ rest_passes bs (and_parts _ _ e).1

  pub pair_passes : (61 == separator) ≡ false → ((b : ℕ) → is_type_char b ≡ true → (b == separator) ≡ false) → (p : SpelledPair) → is_sound_pair p ≡ true → passes separator false (printed_pair p) ≡ Some false
  pair_passes equals apart p e =
      let parts = and_parts _ _ e in
      let attr_type = type_chars p.0 (and_parts _ _ parts.0).0 in
      passes-append separator false false p.0 (61 ∷ printed_value p.1) (kind_passes separator apart p.0 attr_type)
      ∙ passes_plain separator 61 (printed_value p.1) equals refl ∙ value_passes p.1 parts.1

digit_not_plus : (n : ℕ) → n < 16 → (upper_digit n == 43) ≡ false
digit_not_plus n h = grind (arith, nat_tests)

digit_not_comma : (n : ℕ) → n < 16 → (upper_digit n == 44) ≡ false
digit_not_comma n h = grind (arith, nat_tests)

pub pair_passes_plus : (p : SpelledPair) → is_sound_pair p ≡ true → passes 43 false (printed_pair p) ≡ Some false
pair_passes_plus = pair_passes 43 refl digit_not_plus plain_not_plus refl type_not_plus

pub pair_passes_comma : (p : SpelledPair) → is_sound_pair p ≡ true → passes 44 false (printed_pair p) ≡ Some false
pair_passes_comma = pair_passes 44 refl digit_not_comma plain_not_comma refl type_not_comma

-- ---- pairs

cut_kind : (attr_type value : List ℕ) → list_all is_type_char attr_type ≡ true → (before_first (λ b. b == 61) (attr_type ++ 61 ∷ value) ≡ attr_type) × (after_first_separator 61 (attr_type ++ 61 ∷ value) ≡ Some value)
cut_kind attr_type value e =
    let at : position_or_len (λ b. b == 61) (attr_type ++ 61 ∷ value) ≡ length attr_type = place attr_type e in
    let inside : length attr_type < length (attr_type ++ 61 ∷ value) = omega (arith, length-append attr_type (61 ∷ value)) in (
      ap (λ n. take n (attr_type ++ 61 ∷ value)) at ∙ take-append_seam attr_type (61 ∷ value),
      ap (λ t. cond t (Some (after_first (λ b. b == 61) (attr_type ++ 61 ∷ value))) None) (ap (λ n. nat_lt n (length (attr_type ++ 61 ∷ value))) at ∙ lt-ltb (length attr_type) (length (attr_type ++ 61 ∷ value)) inside)
          ∙ ap (λ n. Some (drop (n + 1) (attr_type ++ 61 ∷ value))) at ∙ ap Some (behind attr_type),
    )
  where
    place : (attr_type : List ℕ) → list_all is_type_char attr_type ≡ true → position_or_len (λ b. b == 61) (attr_type ++ 61 ∷ value) ≡ length attr_type
    place [] e = refl
    place (b ∷ bs) e =
        let parts = and_parts _ _ e in
        ap (λ t. cond (not t) (1 + position_or_len (λ b. b == 61) (bs ++ 61 ∷ value)) 0) (type_not_equals b parts.0) ∙ ap (λ n. 1 + n) (place bs parts.1)
        ∙ (let same : 1 + length bs ≡ suc (length bs) = omega arith in same)

    behind : (attr_type : List ℕ) → drop (length attr_type + 1) (attr_type ++ 61 ∷ value) ≡ value
    behind [] = refl
    behind (b ∷ bs) = ap (λ n. drop n (b ∷ bs ++ 61 ∷ value)) (let same : suc (length bs) + 1 ≡ suc (length bs + 1) = omega arith in same) ∙ behind bs

pub untouched : (attr_type : List ℕ) → list_all is_type_char attr_type ≡ true → without_trailing_spaces (without_leading_spaces attr_type) ≡ attr_type
untouched [] e = refl
untouched (b ∷ bs) e =
    let parts = and_parts _ _ e in
    ap without_trailing_spaces (front_other b bs (type_not_space b parts.0)) ∙ ends (b ∷ bs) e
  where
    ends : (attr_type : List ℕ) → list_all is_type_char attr_type ≡ true → without_trailing_spaces attr_type ≡ attr_type
    ends [] e = refl
    ends (b ∷ bs) e =
        let parts = and_parts _ _ e in
        ap (λ t. cond (t && length (without_trailing_spaces bs) == 0) [] (b ∷ without_trailing_spaces bs)) (type_not_space b parts.0) ∙ ap (λ l. b ∷ l) (ends bs parts.1)

pub pair_back : (p : SpelledPair) → is_sound_pair p ≡ true → pair_of (printed_pair p) ≡ Some p
pair_back p e =
    let parts = and_parts _ _ e in
    let chars = type_chars p.0 (and_parts _ _ parts.0).0 in
    let cut = cut_kind p.0 (printed_value p.1) chars in
    (λ i. pair_from (without_trailing_spaces (without_leading_spaces (cut.0 i))) (cut.1 i))
    ∙ ap (λ k. pair_from k (Some (printed_value p.1))) (untouched p.0 chars)
    ∙ ap (λ t. cond t (option_map (λ bytes. (p.0, bytes)) (value_of (without_leading_spaces (printed_value p.1)))) None) parts.0
    ∙ ap (option_map (λ bytes. (p.0, bytes))) (value_back p.1 parts.1)

-- ---- RDNs and names

all_back : {A : Type 0} (f : List ℕ → Option A) (g : A → List ℕ) (sound : A → Bool) → ((x : A) → sound x ≡ true → f (g x) ≡ Some x) → (xs : List A) → list_all sound xs ≡ true → option_collect f (map g xs) ≡ Some xs
all_back f g sound back [] e = refl
all_back f g sound back (x ∷ xs) e =
    let parts = and_parts _ _ e in
    λ i. option_cons (back x parts.0 i) (all_back f g sound back xs parts.1 i)

all_passing : {A : Type 0} (separator : ℕ) (g : A → List ℕ) (sound : A → Bool) → ((x : A) → sound x ≡ true → passes separator false (g x) ≡ Some false) → (xs : List A) → list_all sound xs ≡ true → AllPassing separator (map g xs)
all_passing separator g sound passing [] e = tt
all_passing separator g sound passing (x ∷ xs) e = let parts = and_parts _ _ e in (passing x parts.0, all_passing separator g sound passing xs parts.1)

pub rdn_back : (rdn : SpelledRdn) → is_sound_rdn rdn ≡ true → rdn_of (printed_rdn rdn) ≡ Some rdn
rdn_back [] e = absurd (cc)
rdn_back (p ∷ ps) e =
    let pairs = (and_parts _ _ e).1 in
    ap (option_collect pair_of) (join_pieces 43 (printed_pair p) (map printed_pair ps) (all_passing 43 printed_pair is_sound_pair pair_passes_plus (p ∷ ps) pairs))
    ∙ all_back pair_of printed_pair is_sound_pair pair_back (p ∷ ps) pairs

pub rdn_passes : (rdn : SpelledRdn) → is_sound_rdn rdn ≡ true → passes 44 false (printed_rdn rdn) ≡ Some false
rdn_passes [] e = absurd (cc)
rdn_passes (p ∷ ps) e =
    let pairs = (and_parts _ _ e).1 in
    join_passes 44 43 refl refl (printed_pair p) (map printed_pair ps) (all_passing 44 printed_pair is_sound_pair pair_passes_comma (p ∷ ps) pairs)

pub only_rdn_back : (rdn : SpelledRdn) → is_sound_rdn rdn ≡ true → only_rdn_of (printed_rdn rdn) ≡ Some rdn
only_rdn_back rdn e = ap only_rdn (join_pieces 44 (printed_rdn rdn) [] (rdn_passes rdn e, tt)) ∙ rdn_back rdn e

-- a text with RDNs is not empty
pub some_text : (text : List ℕ) (rdns : SpelledName) → option_collect rdn_of (pieces 44 false text) ≡ Some rdns → name_of text ≡ Some rdns
some_text [] rdns e = absurd (cc)
some_text (b ∷ bs) rdns e = e

pub name_back : (name : SpelledName) → is_sound_name name ≡ true → name_of (printed_name name) ≡ Some name
name_back [] e = refl
name_back (rdn ∷ rdns) e =
    some_text (printed_name (rdn ∷ rdns)) (rdn ∷ rdns)
    (ap (option_collect rdn_of) (join_pieces 44 (printed_rdn rdn) (map printed_rdn rdns) (all_passing 44 printed_rdn is_sound_rdn rdn_passes (rdn ∷ rdns) e))
    ∙ all_back rdn_of printed_rdn is_sound_rdn rdn_back (rdn ∷ rdns) e)

-- ---- a printed name is ASCII

escaped_ascii : (b : ℕ) → b < 256 → is_ascii (escape_of b) ≡ true
escaped_ascii b h = λ i. upper_is_ascii (b / 16) (high_half b h) i && (upper_is_ascii (b % 16) (low_half b) i && true)

shown_ascii : (b : ℕ) → b < 256 → is_ascii (printed_byte b) ≡ true
shown_ascii b h = by (is_special b) refl
  where
    by : (s : Bool) → is_special b ≡ s → is_ascii (cond s (escape_of b) (b ∷ [])) ≡ true
    by true g = escaped_ascii b h
    by false g = λ i. plain_is_ascii b g i && true

either_ascii : (s : Bool) (b : ℕ) → b < 256 → is_ascii (cond s (escape_of b) (printed_byte b)) ≡ true
either_ascii true b h = escaped_ascii b h
either_ascii false b h = shown_ascii b h

joined_ascii : (x y : List ℕ) → is_ascii x ≡ true → is_ascii y ≡ true → is_ascii (x ++ y) ≡ true
joined_ascii x y e f = list_all-append (λ b. nat_lt b 128) x y ∙ (λ i. e i && f i)

byte_low : (b : ℕ) (bs : List ℕ) → list_all (λ x. nat_lt x 256) (b ∷ bs) ≡ true → b < 256
byte_low b bs e = ltb-true b 256 (and_parts _ _ e).0

rest_ascii : (bs : List ℕ) → list_all (λ b. nat_lt b 256) bs ≡ true → is_ascii (printed_rest bs) ≡ true
rest_ascii [] e = refl
rest_ascii (b ∷ []) e = either_ascii (b == 32) b (byte_low b [] e)
rest_ascii (b ∷ c ∷ bs) e = joined_ascii (printed_byte b) (printed_rest (c ∷ bs)) (shown_ascii b (byte_low b (c ∷ bs) e)) (rest_ascii (c ∷ bs) (and_parts _ _ e).1)

value_ascii : (bs : List ℕ) → list_all (λ b. nat_lt b 256) bs ≡ true → is_ascii (printed_value bs) ≡ true
value_ascii [] e = refl
value_ascii (b ∷ bs) e =
    joined_ascii (cond (b == 32 || b == 35) (escape_of b) (printed_byte b)) (printed_rest bs) (either_ascii (b == 32 || b == 35) b (byte_low b bs e)) (rest_ascii bs (and_parts _ _ e).1)

kind_ascii : (attr_type : List ℕ) → list_all is_type_char attr_type ≡ true → is_ascii attr_type ≡ true
kind_ascii [] e = refl
kind_ascii (b ∷ bs) e = let parts = and_parts _ _ e in λ i. type_is_ascii b parts.0 i && kind_ascii bs parts.1 i

pair_ascii : (p : SpelledPair) → is_sound_pair p ≡ true → is_ascii (printed_pair p) ≡ true
pair_ascii p e =
    let parts = and_parts _ _ e in
    joined_ascii p.0 (61 ∷ printed_value p.1) (kind_ascii p.0 (type_chars p.0 (and_parts _ _ parts.0).0)) (value_ascii p.1 parts.1)

list_ascii : {A : Type 0} (separator : ℕ) → nat_lt separator 128 ≡ true → (g : A → List ℕ) (sound : A → Bool) → ((x : A) → sound x ≡ true → is_ascii (g x) ≡ true) → (xs : List A) → list_all sound xs ≡ true → is_ascii (join_with_byte separator (map g xs)) ≡ true
list_ascii separator s g sound each [] e = refl
list_ascii separator s g sound each (x ∷ []) e = each x (and_parts _ _ e).0
list_ascii separator s g sound each (x ∷ y ∷ ys) e =
    let parts = and_parts _ _ e in
    joined_ascii (g x) (separator ∷ join_with_byte separator (map g (y ∷ ys))) (each x parts.0) (λ i. s i && list_ascii separator s g sound each (y ∷ ys) parts.1 i)

pub rdn_ascii : (rdn : SpelledRdn) → is_sound_rdn rdn ≡ true → is_ascii (printed_rdn rdn) ≡ true
rdn_ascii rdn e = list_ascii 43 refl printed_pair is_sound_pair pair_ascii rdn (and_parts _ _ e).1

pub name_ascii : (name : SpelledName) → is_sound_name name ≡ true → is_ascii (printed_name name) ≡ true
name_ascii name e = list_ascii 44 refl printed_rdn is_sound_rdn rdn_ascii name e

-- ---- within the limits

pub name_read_back : (name : SpelledName) → is_sound_name name ≡ true → is_within_limits name ≡ true → name_within_limits (printed_name name) ≡ Ok name
name_read_back name e w = ap (ok_if_within is_within_limits) (name_back name e) ∙ ap (λ b. cond b (Ok name) (Err NameLimit)) w

pub rdn_read_back : (rdn : SpelledRdn) → is_sound_rdn rdn ≡ true → is_rdn_within_limit rdn ≡ true → rdn_within_limit (printed_rdn rdn) ≡ Ok rdn
rdn_read_back rdn e w = ap (ok_if_within is_rdn_within_limit) (only_rdn_back rdn e) ∙ ap (λ b. cond b (Ok rdn) (Err NameLimit)) w
