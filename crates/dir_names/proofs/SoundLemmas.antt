-- What is read of a text of bytes is a legal name.
use Rattle.std.proofs.Common.{◌≡◌, ℕ, zero, suc, ◌+◌, ◌*◌, ◌<◌, Bool, true, false, cond, not, List, [], ◌∷◌, length, get_or, drop, Option, Some, None, refl, ap, sym, subst, ◌∙◌, arith}
use Rattle.std.specs.Prelude.{◌==◌, ◌&&◌, nat_lt}
use Rattle.std.specs.List.{list_all, onto_first, position_or_len, before_first, after_first}
use Rattle.std.specs.Option.{option_map}
use Rattle.std.proofs.lemmas.Bool.{lt-ltb, and_parts}
use Rattle.std.proofs.lemmas.Bool.Decides.{nat_tests}
use Rattle.dir_names.specs.declared.name.reading.Place.{Place}
use Rattle.dir_names.specs.declared.name.reading.Place.TheVariants.{Outside, AfterBackslash, AfterDigit}
use Rattle.dir_names.specs.declared.name.reading.Step.{Step}
use Rattle.dir_names.specs.declared.name.reading.Step.TheVariants.{Space, Byte, Inside, Refused}
use Rattle.dir_names.specs.Descriptions.{is_type, is_reserved}
use Rattle.dir_names.specs.Names.{SpelledPair, SpelledRdn, SpelledName}
use Rattle.dir_names.specs.Names.Reading.{value_of, begins_with_hash, pieces, pair_from, pair_of, rdn_of, name_of}
use Rattle.dir_names.specs.Inside.Steps.{step_of, with_space, value_after_step, value_from, has_digit}
use Rattle.dir_names.specs.Results.{option_collect, option_cons}
use Rattle.dir_names.specs.Names.Escapes.{is_hex, hex_of, is_refused, is_escapable}
use Rattle.dir_names.specs.Names.Sound.{is_sound_name, is_sound_pair, is_sound_rdn}
use Rattle.dir_names.specs.ValueKeys.Spaces.{without_leading_spaces, without_trailing_spaces}
use Rattle.dir_names.proofs.PieceLemmas.{onto, some_piece}
use lib.Dec.{eqb-suc-zero}

abbrev pub are_bytes : List ℕ → Bool
are_bytes bs = list_all (λ b. nat_lt b 256) bs

abbrev pub IfThere : {A : Type 0} → Option A → (A → Bool) → Type 0
IfThere None p = Unit {0}
IfThere (Some x) p = p x ≡ true

-- each element of a list of bytes fits
pub bytes_from_fits : (bs : List ℕ) → ((i : ℕ) → get_or bs i 0 < 256) → are_bytes bs ≡ true
bytes_from_fits [] h = refl
bytes_from_fits (b ∷ bs) h = λ i. lt-ltb b 256 (h 0) i && bytes_from_fits bs (λ k. h (suc k)) i

-- ---- values

abbrev is_small_step : Step → Bool
is_small_step Space = true
is_small_step (Byte b) = nat_lt b 256
is_small_step (Inside place) = has_digit place
is_small_step Refused = true

hex_is_small : (b : ℕ) → is_hex b ≡ true → nat_lt (hex_of b) 16 ≡ true
hex_is_small b e = grind (arith, nat_tests)

joined_is_small : (h l : ℕ) → nat_lt h 16 ≡ true → nat_lt l 16 ≡ true → nat_lt (h * 16 + l) 256 ≡ true
joined_is_small h l e f = grind (arith, nat_tests)

step_small : (place : Place) (b : ℕ) → has_digit place ≡ true → nat_lt b 256 ≡ true → is_small_step (step_of place b) ≡ true
step_small Outside b d e = by (b == 32) (b == 92) (is_refused b)
  where
    by : (x y z : Bool) → is_small_step (cond x Space (cond y (Inside AfterBackslash) (cond z Refused (Byte b)))) ≡ true
    by true y z = refl
    by false true z = refl
    by false false true = refl
    by false false false = e
step_small AfterBackslash b d e = by (is_hex b) refl (is_escapable b)
  where
    by : (x : Bool) → is_hex b ≡ x → (y : Bool) → is_small_step (cond x (Inside (AfterDigit (hex_of b))) (cond y (Byte b) Refused)) ≡ true
    by true g y = hex_is_small b g
    by false g true = e
    by false g false = refl
step_small (AfterDigit high) b d e = by (is_hex b) refl
  where
    by : (x : Bool) → is_hex b ≡ x → is_small_step (cond x (Byte (high * 16 + hex_of b)) Refused) ≡ true
    by true g = joined_is_small high (hex_of b) d (hex_is_small b g)
    by false g = refl

added_small : (s : Step) (rest : Place → Option (List ℕ)) → is_small_step s ≡ true → ((p : Place) → has_digit p ≡ true → IfThere (rest p) are_bytes) → IfThere (value_after_step s rest) are_bytes
added_small Space rest e h = by (rest Outside) (h Outside refl)
  where
    by : (r : Option (List ℕ)) → IfThere r are_bytes → IfThere (option_map with_space r) are_bytes
    by None k = tt
    by (Some []) k = refl
    by (Some (b ∷ bs)) k = k
added_small (Byte b) rest e h = by (rest Outside) (h Outside refl)
  where
    by : (r : Option (List ℕ)) → IfThere r are_bytes → IfThere (option_map (λ bs. b ∷ bs) r) are_bytes
    by None k = tt
    by (Some bs) k = λ i. e i && k i
added_small (Inside place) rest e h = h place e
added_small Refused rest e h = tt

value_small : (text : List ℕ) (place : Place) → has_digit place ≡ true → are_bytes text ≡ true → IfThere (value_from place text) are_bytes
value_small [] Outside d e = refl
value_small [] AfterBackslash d e = tt
value_small [] (AfterDigit high) d e = tt
value_small (b ∷ bs) place d e =
    let parts = and_parts _ _ e in
    added_small (step_of place b) (λ next. value_from next bs) (step_small place b d parts.0) (λ p k. value_small bs p k parts.1)

-- ---- parts of texts

front_small : (bs : List ℕ) → are_bytes bs ≡ true → are_bytes (without_leading_spaces bs) ≡ true
front_small [] e = refl
front_small (b ∷ bs) e = by (b == 32) (front_small bs (and_parts _ _ e).1)
  where
    by : (t : Bool) → are_bytes (without_leading_spaces bs) ≡ true → are_bytes (cond t (without_leading_spaces bs) (b ∷ bs)) ≡ true
    by true rest = rest
    by false rest = e

drop_small : (n : ℕ) (bs : List ℕ) → are_bytes bs ≡ true → are_bytes (drop n bs) ≡ true
drop_small zero bs e = e
drop_small (suc n) [] e = refl
drop_small (suc n) (b ∷ bs) e = drop_small n bs (and_parts _ _ e).1

value_of_small : (text : List ℕ) → are_bytes text ≡ true → IfThere (value_of text) are_bytes
value_of_small text e = by (begins_with_hash text)
  where
    by : (t : Bool) → IfThere (cond t None (value_from Outside text)) are_bytes
    by true = tt
    by false = value_small text Outside refl e

pair_sound : (text : List ℕ) → are_bytes text ≡ true → IfThere (pair_of text) is_sound_pair
pair_sound text e = by (without_trailing_spaces (without_leading_spaces (before_first (λ b. b == 61) text))) (nat_lt (position_or_len (λ b. b == 61) text) (length text))
  where
    typed : (attr_type : List ℕ) (t : Bool) → (is_type attr_type && not (is_reserved attr_type)) ≡ t → (v : Option (List ℕ)) → IfThere v are_bytes → IfThere (cond t (option_map (λ bytes. (attr_type, bytes)) v) None) is_sound_pair
    typed attr_type true g None k = tt
    typed attr_type true g (Some v) k = λ i. g i && k i
    typed attr_type false g v k = tt

    by : (attr_type : List ℕ) (t : Bool) → IfThere (pair_from attr_type (cond t (Some (after_first (λ b. b == 61) text)) None)) is_sound_pair
    by attr_type true = typed attr_type (is_type attr_type && not (is_reserved attr_type)) refl (value_of (without_leading_spaces (after_first (λ b. b == 61) text))) (value_of_small (without_leading_spaces (after_first (λ b. b == 61) text)) (front_small (after_first (λ b. b == 61) text) (drop_small (position_or_len (λ b. b == 61) text + 1) text e)))
    by attr_type false = tt

pieces_small : (separator : ℕ) (escaped : Bool) (bs : List ℕ) → are_bytes bs ≡ true → list_all are_bytes (pieces separator escaped bs) ≡ true
pieces_small separator escaped [] e = refl
pieces_small separator escaped (b ∷ bs) e = by (not escaped && (b == separator)) (pieces separator (not escaped && (b == 92)) bs) (pieces_small separator (not escaped && (b == 92)) bs (and_parts _ _ e).1) (pieces_small separator false bs (and_parts _ _ e).1)
  where
    by : (t : Bool) (ps : List (List ℕ)) → list_all are_bytes ps ≡ true → list_all are_bytes (pieces separator false bs) ≡ true → list_all are_bytes (cond t ([] ∷ pieces separator false bs) (onto_first b ps)) ≡ true
    by true ps h k = k
    by false [] h k = λ i. ((and_parts (nat_lt b 256) (are_bytes bs) e).0 i && true) && true
    by false (p ∷ ps) h k = let parts = and_parts (are_bytes p) (list_all are_bytes ps) h in λ i. ((and_parts (nat_lt b 256) (are_bytes bs) e).0 i && parts.0 i) && parts.1 i

both_sound : {A : Type 0} (sound : A → Bool) (y : Option A) (ys : Option (List A)) → IfThere y sound → IfThere ys (list_all sound) → IfThere (option_cons y ys) (list_all sound)
both_sound sound None ys h k = tt
both_sound sound (Some y) None h k = tt
both_sound sound (Some y) (Some ys) h k = λ i. h i && k i

all_sound : {A : Type 0} (f : List ℕ → Option A) (sound : A → Bool) → ((text : List ℕ) → are_bytes text ≡ true → IfThere (f text) sound) → (texts : List (List ℕ)) → list_all are_bytes texts ≡ true → IfThere (option_collect f texts) (list_all sound)
all_sound f sound each [] e = refl
all_sound f sound each (x ∷ xs) e =
    let parts = and_parts (are_bytes x) (list_all are_bytes xs) e in
    both_sound sound (f x) (option_collect f xs) (each x parts.0) (all_sound f sound each xs parts.1)

rdn_sound : (text : List ℕ) → are_bytes text ≡ true → IfThere (rdn_of text) is_sound_rdn
rdn_sound text e = by (pieces 43 false text) (some_piece 43 false text) (all_sound pair_of is_sound_pair pair_sound (pieces 43 false text) (pieces_small 43 false text e))
  where
    joined : (x : Option SpelledPair) (xs : Option (List SpelledPair)) → IfThere (option_cons x xs) (list_all is_sound_pair) → IfThere (option_cons x xs) is_sound_rdn
    joined None xs h = tt
    joined (Some x) None h = tt
    joined (Some x) (Some xs) h = (λ i. not (eqb-suc-zero (length xs) i) && (is_sound_pair x && list_all is_sound_pair xs)) ∙ h

    by : (ps : List (List ℕ)) → ps ≡ onto [] ps → IfThere (option_collect pair_of ps) (list_all is_sound_pair) → IfThere (option_collect pair_of ps) is_sound_rdn
    by [] h k = absurd (cc)
    by (p ∷ ps) h k = joined (pair_of p) (option_collect pair_of ps) k

-- ---- what is read, by the answers

pub sound_rdn : (text : List ℕ) (rdn : SpelledRdn) → are_bytes text ≡ true → rdn_of text ≡ Some rdn → is_sound_rdn rdn ≡ true
sound_rdn text rdn e f = subst (λ (r : Option SpelledRdn). IfThere r is_sound_rdn) f (rdn_sound text e)

pub sound_name : (text : List ℕ) (name : SpelledName) → are_bytes text ≡ true → name_of text ≡ Some name → is_sound_name name ≡ true
sound_name [] name e f = let same : [] ≡ name = cc in ap is_sound_name (sym same)
sound_name (b ∷ bs) name e f = subst (λ (r : Option SpelledName). IfThere r is_sound_name) f (all_sound rdn_of is_sound_rdn rdn_sound (pieces 44 false (b ∷ bs)) (pieces_small 44 false (b ∷ bs) e))
