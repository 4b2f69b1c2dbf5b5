-- What the grammar relates is read so.
use Rattle.std.proofs.Common.{◌≡◌, ℕ, zero, suc, ◌+◌, ◌<◌, true, false, cond, not, List, [], ◌∷◌, ◌++◌, length, take, drop, replicate, Some, None, refl, ap, sym, ◌∙◌, append_assoc, arith}
use Rattle.std.specs.Prelude.{◌==◌, ◌&&◌, nat_lt}
use Rattle.std.specs.List.{list_all, onto_first, before_first, after_first, position_or_len}
use Rattle.std.specs.Option.{option_map}
use Rattle.std.proofs.lemmas.List.{append-nil, length-append}
use Rattle.std.proofs.lemmas.List.Folds.{list_all-append}
use Rattle.std.proofs.Math.Seq.{take-append_seam}
use Rattle.std.proofs.lemmas.Bool.{lt-ltb, eq-eqb, ne_eqb, and_parts}
use Rattle.dir_names.specs.declared.name.reading.Place.TheVariants.{Outside, AfterDigit}
use Rattle.dir_names.specs.declared.name.reading.Step.TheVariants.{Byte, Inside, Refused}
use lib.Dec.{eqb-suc-zero}
use Rattle.dir_names.specs.Cut.{after_first_separator}
use Rattle.dir_names.specs.Descriptions.{is_type}
use Rattle.dir_names.specs.Names.{SpelledPair, SpelledRdn, SpelledName}
use Rattle.dir_names.specs.Names.Reading.{value_of, begins_with_hash, pieces, pair_from, pair_of, rdn_of, name_of, only_rdn, only_rdn_of}
use Rattle.dir_names.specs.Inside.Steps.{with_space, value_after_step, value_from}
use Rattle.dir_names.specs.Results.{option_collect, option_cons}
use Rattle.dir_names.specs.Names.Escapes.{is_hex, hex_of, is_refused, is_escapable}
use Rattle.dir_names.specs.ValueKeys.Spaces.{without_leading_spaces, without_trailing_spaces}
use Rattle.dir_names.specs.Names.Spells.{SpellsByte, SpellsBytes, BeginsValue, SpellsPair, SpellsRdn, SpellsRdns, Spells}
use Rattle.dir_names.specs.Names.Spells.{digits, sign, plain}
use Rattle.dir_names.specs.Names.Spells.{none, byte, inner_space, trailing_space}
use Rattle.dir_names.specs.Names.Spells.{empty, begins, pair, last_pair, pair_before, last_rdn, rdn_before, nothing, rdns}
use Rattle.dir_names.proofs.ByteFacts.{is_type_char, sign_not_hex, hex_not_plus, hex_not_comma, hex_not_escape, legal_not_plus, legal_not_comma, legal_not_escape, type_not_space, type_not_plus, type_not_comma, type_no_equals}
use Rattle.dir_names.proofs.PieceLemmas.{onto}
use Rattle.dir_names.proofs.ReadNames.{passes, pieces_pass, passes-append, passes_plain, passes_escape, type_chars, kind_passes, untouched, some_text}
use Rattle.dir_names.proofs.ReadValues.{read_digits, read_plain, read_space}
use Rattle.dir_names.proofs.Tidy.{front_other, end_space}

-- ---- values

sign_read : (b : ℕ) (t : List ℕ) → is_escapable b ≡ true → value_from Outside (92 ∷ b ∷ t) ≡ option_map (λ bs. b ∷ bs) (value_from Outside t)
sign_read b t e =
    ap (λ x. value_after_step (cond x (Inside (AfterDigit (hex_of b))) (cond (is_escapable b) (Byte b) Refused)) (λ next. value_from next t)) (sign_not_hex b e)
    ∙ ap (λ x. value_after_step (cond x (Byte b) Refused) (λ next. value_from next t)) e

byte_read : (text : List ℕ) (b : ℕ) (t : List ℕ) → SpellsByte text b → value_from Outside (text ++ t) ≡ option_map (λ bs. b ∷ bs) (value_from Outside t)
byte_read text b t (digits h l e f) = read_digits h l t e f
byte_read text b t (sign c e) = sign_read c t e
byte_read text b t (plain c e n) = read_plain c t (ne_eqb c 32 n) (legal_not_escape c e) e

pub bytes_read : (text value : List ℕ) → SpellsBytes text value → value_from Outside text ≡ Some value
bytes_read text value none = refl
bytes_read text value (byte x b more v s r) = byte_read x b more s ∙ ap (option_map (λ bs. b ∷ bs)) (bytes_read more v r)
bytes_read text value (inner_space more b v r) = read_space 32 more refl ∙ ap (option_map with_space) (bytes_read more (b ∷ v) r)
bytes_read text value (trailing_space more r) = read_space 32 more refl ∙ ap (option_map with_space) (bytes_read more [] r)

-- ---- they have no separator

module _ (separator : ℕ) (escape : (92 == separator) ≡ false) (spaced : (32 == separator) ≡ false) (hex : (b : ℕ) → is_hex b ≡ true → (b == separator) ≡ false) (legal : (b : ℕ) → is_refused b ≡ false → (b == separator) ≡ false) where
  byte_passes : (text : List ℕ) (b : ℕ) (t : List ℕ) → SpellsByte text b → passes separator false (text ++ t) ≡ passes separator false t
  byte_passes text b t (digits h l e f) = passes_escape separator h l t escape (hex l f) (hex_not_escape l f)
  byte_passes text b t (sign c e) = ap (λ x. cond x None (passes separator false t)) escape
  byte_passes text b t (plain c e n) = passes_plain separator c t (legal c e) (legal_not_escape c e)

  bytes_pass : (text value : List ℕ) → SpellsBytes text value → passes separator false text ≡ Some false
  bytes_pass text value none = refl
  bytes_pass text value (byte x b more v s r) = byte_passes x b more s ∙ bytes_pass more v r
  bytes_pass text value (inner_space more b v r) = passes_plain separator 32 more spaced refl ∙ bytes_pass more (b ∷ v) r
  bytes_pass text value (trailing_space more r) = passes_plain separator 32 more spaced refl ∙ bytes_pass more [] r

  spaces_pass : (n : ℕ) (t : List ℕ) → passes separator false (replicate n 32 ++ t) ≡ passes separator false t
  spaces_pass zero t = refl
  spaces_pass (suc n) t = passes_plain separator 32 (replicate n 32 ++ t) spaced refl ∙ spaces_pass n t

  pub pair_passes : (61 == separator) ≡ false → ((b : ℕ) → is_type_char b ≡ true → (b == separator) ≡ false) → (text : List ℕ) (p : SpelledPair) → SpellsPair text p → passes separator false text ≡ Some false
  pair_passes equals apart text p (pair before after behind attr_type t value typed free start s) =
      spaces_pass before (attr_type ++ (replicate after 32 ++ 61 ∷ (replicate behind 32 ++ t)))
      ∙ passes-append separator false false attr_type (replicate after 32 ++ 61 ∷ (replicate behind 32 ++ t)) (kind_passes separator apart attr_type (type_chars attr_type typed))
      ∙ spaces_pass after (61 ∷ (replicate behind 32 ++ t)) ∙ passes_plain separator 61 (replicate behind 32 ++ t) equals refl
      ∙ spaces_pass behind t ∙ bytes_pass t value s

pub pair_no_plus : (text : List ℕ) (p : SpelledPair) → SpellsPair text p → passes 43 false text ≡ Some false
pair_no_plus = pair_passes 43 refl refl hex_not_plus legal_not_plus refl type_not_plus

pub pair_no_comma : (text : List ℕ) (p : SpelledPair) → SpellsPair text p → passes 44 false text ≡ Some false
pair_no_comma = pair_passes 44 refl refl hex_not_comma legal_not_comma refl type_not_comma

-- ---- pairs

cut_front : (front value : List ℕ) → list_all (λ b. not (b == 61)) front ≡ true → (before_first (λ b. b == 61) (front ++ 61 ∷ value) ≡ front) × (after_first_separator 61 (front ++ 61 ∷ value) ≡ Some value)
cut_front front value e =
    let at : position_or_len (λ b. b == 61) (front ++ 61 ∷ value) ≡ length front = place front e in
    let inside : length front < length (front ++ 61 ∷ value) = omega (arith, length-append front (61 ∷ value)) in (
      ap (λ n. take n (front ++ 61 ∷ value)) at ∙ take-append_seam front (61 ∷ value),
      ap (λ t. cond t (Some (after_first (λ b. b == 61) (front ++ 61 ∷ value))) None) (ap (λ n. nat_lt n (length (front ++ 61 ∷ value))) at ∙ lt-ltb (length front) (length (front ++ 61 ∷ value)) inside)
          ∙ ap (λ n. Some (drop (n + 1) (front ++ 61 ∷ value))) at ∙ ap Some (behind front),
    )
  where
    place : (front : List ℕ) → list_all (λ b. not (b == 61)) front ≡ true → position_or_len (λ b. b == 61) (front ++ 61 ∷ value) ≡ length front
    place [] e = refl
    place (b ∷ bs) e =
        let parts = and_parts (not (b == 61)) (list_all (λ c. not (c == 61)) bs) e in
        ap (λ t. cond t (1 + position_or_len (λ b. b == 61) (bs ++ 61 ∷ value)) 0) parts.0 ∙ ap (λ n. 1 + n) (place bs parts.1)
        ∙ (let same : 1 + length bs ≡ suc (length bs) = omega arith in same)

    behind : (front : List ℕ) → drop (length front + 1) (front ++ 61 ∷ value) ≡ value
    behind [] = refl
    behind (b ∷ bs) = ap (λ n. drop n (b ∷ bs ++ 61 ∷ value)) (let same : suc (length bs) + 1 ≡ suc (length bs + 1) = omega arith in same) ∙ behind bs

spaces_no_equals : (n : ℕ) → list_all (λ b. not (b == 61)) (replicate n 32) ≡ true
spaces_no_equals zero = refl
spaces_no_equals (suc n) = spaces_no_equals n

kind_no_equals : (attr_type : List ℕ) → list_all is_type_char attr_type ≡ true → list_all (λ b. not (b == 61)) attr_type ≡ true
kind_no_equals [] e = refl
kind_no_equals (b ∷ bs) e = let parts = and_parts _ _ e in λ i. type_no_equals b parts.0 i && kind_no_equals bs parts.1 i

pub front_spaces : (n : ℕ) (t : List ℕ) → without_leading_spaces (replicate n 32 ++ t) ≡ without_leading_spaces t
front_spaces zero t = refl
front_spaces (suc n) t = front_spaces n t

pub end_spaces : (n : ℕ) (t : List ℕ) → without_trailing_spaces (t ++ replicate n 32) ≡ without_trailing_spaces t
end_spaces zero t = ap without_trailing_spaces (append-nil t)
end_spaces (suc n) t = ap without_trailing_spaces (sym (append_assoc t (32 ∷ []) (replicate n 32))) ∙ end_spaces n (t ++ 32 ∷ []) ∙ end_space t

-- a type before spaces
front_kind : (attr_type after : List ℕ) → list_all is_type_char attr_type ≡ true → (length attr_type == 0) ≡ false → without_leading_spaces (attr_type ++ after) ≡ attr_type ++ after
front_kind [] after e n = absurd (cc)
front_kind (b ∷ bs) after e n = front_other b (bs ++ after) (type_not_space b (and_parts _ _ e).0)

type_not_empty : (attr_type : List ℕ) → is_type attr_type ≡ true → (length attr_type == 0) ≡ false
type_not_empty [] e = absurd (cc)
type_not_empty (b ∷ bs) e = eqb-suc-zero (length bs)

kind_trimmed : (before after : ℕ) (attr_type : List ℕ) → is_type attr_type ≡ true → without_trailing_spaces (without_leading_spaces (replicate before 32 ++ (attr_type ++ replicate after 32))) ≡ attr_type
kind_trimmed before after attr_type e =
    let chars = type_chars attr_type e in
    ap without_trailing_spaces (front_spaces before (attr_type ++ replicate after 32) ∙ front_kind attr_type (replicate after 32) chars (type_not_empty attr_type e))
    ∙ end_spaces after attr_type ∙ ap without_trailing_spaces (sym (whole attr_type chars (type_not_empty attr_type e))) ∙ untouched attr_type chars
  where
    whole : (attr_type : List ℕ) → list_all is_type_char attr_type ≡ true → (length attr_type == 0) ≡ false → without_leading_spaces attr_type ≡ attr_type
    whole [] e n = absurd (cc)
    whole (b ∷ bs) e n = front_other b bs (type_not_space b (and_parts _ _ e).0)

value_begins : (text : List ℕ) → BeginsValue text → (without_leading_spaces text ≡ text) × (begins_with_hash text ≡ false)
value_begins text empty = (refl, refl)
value_begins text (begins b more n m) = (front_other b more (ne_eqb b 32 n), ne_eqb b 35 m)

pub pair_read : (text : List ℕ) (p : SpelledPair) → SpellsPair text p → pair_of text ≡ Some p
pair_read text p (pair before after behind attr_type t value typed free start s) =
    let chars = type_chars attr_type typed in
    let front = replicate before 32 ++ (attr_type ++ replicate after 32) in
    let rest = replicate behind 32 ++ t in
    let parted : replicate before 32 ++ (attr_type ++ (replicate after 32 ++ 61 ∷ rest)) ≡ front ++ 61 ∷ rest =
    ap (λ l. replicate before 32 ++ l) (sym (append_assoc attr_type (replicate after 32) (61 ∷ rest))) ∙ sym (append_assoc (replicate before 32) (attr_type ++ replicate after 32) (61 ∷ rest)) in
    let quiet = list_all-append (λ b. not (b == 61)) (replicate before 32) (attr_type ++ replicate after 32)
    ∙ (λ i. spaces_no_equals before i && (list_all-append (λ b. not (b == 61)) attr_type (replicate after 32) ∙ (λ j. kind_no_equals attr_type chars j && spaces_no_equals after j)) i) in
    let cut = cut_front front rest quiet in
    let at = value_begins t start in
    ap pair_of parted ∙ (λ i. pair_from (without_trailing_spaces (without_leading_spaces (cut.0 i))) (cut.1 i))
    ∙ ap (λ k. pair_from k (Some rest)) (kind_trimmed before after attr_type typed)
    ∙ (λ i. cond (typed i && not (free i)) (option_map (λ bytes. (attr_type, bytes)) (value_of ((front_spaces behind t ∙ at.0) i))) None)
    ∙ ap (λ x. option_map (λ bytes. (attr_type, bytes)) (cond x None (value_from Outside t))) at.1
    ∙ ap (option_map (λ bytes. (attr_type, bytes))) (bytes_read t value s)

-- ---- RDNs and names

one_piece : (separator : ℕ) (text : List ℕ) → passes separator false text ≡ Some false → pieces separator false text ≡ text ∷ []
one_piece separator text e = ap (pieces separator false) (sym (append-nil text)) ∙ pieces_pass separator false false text [] e ∙ ap (λ t. t ∷ []) (append-nil text)

more_pieces : (separator : ℕ) (text rest : List ℕ) → passes separator false text ≡ Some false → pieces separator false (text ++ separator ∷ rest) ≡ text ∷ pieces separator false rest
more_pieces separator text rest e =
    pieces_pass separator false false text (separator ∷ rest) e
    ∙ ap (λ t. onto text (cond t ([] ∷ pieces separator false rest) (onto_first separator (pieces separator (separator == 92) rest)))) (eq-eqb separator separator refl)
    ∙ ap (λ t. t ∷ pieces separator false rest) (append-nil text)

pub rdn_reads : (text : List ℕ) (ps : SpelledRdn) → SpellsRdn text ps → rdn_of text ≡ Some ps
rdn_reads text ps (last_pair t p s) = ap (option_collect pair_of) (one_piece 43 t (pair_no_plus t p s)) ∙ ap (λ o. option_cons o (Some [])) (pair_read t p s)
rdn_reads text ps (pair_before t p rest qs s r) =
    ap (option_collect pair_of) (more_pieces 43 t rest (pair_no_plus t p s)) ∙ (λ i. option_cons (pair_read t p s i) (rdn_reads rest qs r i))

rdn_no_comma : (text : List ℕ) (ps : SpelledRdn) → SpellsRdn text ps → passes 44 false text ≡ Some false
rdn_no_comma text ps (last_pair t p s) = pair_no_comma t p s
rdn_no_comma text ps (pair_before t p rest qs s r) =
    passes-append 44 false false t (43 ∷ rest) (pair_no_comma t p s) ∙ rdn_no_comma rest qs r

rdns_read : (text : List ℕ) (name : SpelledName) → SpellsRdns text name → option_collect rdn_of (pieces 44 false text) ≡ Some name
rdns_read text name (last_rdn t x s) = ap (option_collect rdn_of) (one_piece 44 t (rdn_no_comma t x s)) ∙ ap (λ o. option_cons o (Some [])) (rdn_reads t x s)
rdns_read text name (rdn_before t x rest xs s r) =
    ap (option_collect rdn_of) (more_pieces 44 t rest (rdn_no_comma t x s)) ∙ (λ i. option_cons (rdn_reads t x s i) (rdns_read rest xs r i))

pub spells_reads : (text : List ℕ) (name : SpelledName) → Spells text name → name_of text ≡ Some name
spells_reads text name nothing = refl
spells_reads text name (rdns t n s) = some_text t n (rdns_read t n s)

pub only_rdn_reads : (text : List ℕ) (ps : SpelledRdn) → SpellsRdn text ps → only_rdn_of text ≡ Some ps
only_rdn_reads text ps s = ap only_rdn (one_piece 44 text (rdn_no_comma text ps s)) ∙ rdn_reads text ps s
