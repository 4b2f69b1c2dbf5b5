-- A printed value reads back.
use Rattle.std.proofs.Common.{◌≡◌, ℕ, ◌+◌, ◌*◌, ◌/◌, ◌%◌, ◌<◌, Bool, true, false, cond, List, [], ◌∷◌, ◌++◌, Some, None, refl, ap, sym, ◌∙◌}
use Rattle.std.specs.Prelude.{◌==◌, ◌||◌, nat_lt}
use Rattle.std.specs.List.{list_all}
use Rattle.std.specs.Option.{option_map}
use Rattle.std.proofs.lemmas.List.{append-nil}
use Rattle.std.proofs.lemmas.Bool.{ltb-true, eqb-true, and_parts}
use Rattle.dir_names.specs.declared.name.reading.Place.TheVariants.{Outside, AfterBackslash, AfterDigit}
use Rattle.dir_names.specs.declared.name.reading.Step.TheVariants.{Space, Byte, Inside, Refused}
use Rattle.dir_names.specs.Names.Printing.{escape_of, is_special, printed_byte, printed_rest, printed_value, upper_digit}
use Rattle.dir_names.specs.Names.Reading.{value_of}
use Rattle.dir_names.specs.Inside.Steps.{step_of, with_space, value_after_step, value_from}
use Rattle.dir_names.specs.Names.Escapes.{is_hex, hex_of, is_refused, is_escapable}
use Rattle.dir_names.specs.ValueKeys.Spaces.{without_leading_spaces}
use Rattle.dir_names.proofs.ByteFacts.{upper_is_hex, hex-upper, halves, high_half, low_half, plain_not_escape, plain_not_refused}

second_step : (h d : ℕ) → is_hex d ≡ true → step_of (AfterDigit h) d ≡ Byte (h * 16 + hex_of d)
second_step h d e = ap (λ t. cond t (Byte (h * 16 + hex_of d)) Refused) e

behind_step : (d : ℕ) → is_hex d ≡ true → step_of AfterBackslash d ≡ Inside (AfterDigit (hex_of d))
behind_step d e = ap (λ t. cond t (Inside (AfterDigit (hex_of d))) (cond (is_escapable d) (Byte d) Refused)) e

-- an escape by two digits
pub read_digits : (h l : ℕ) (t : List ℕ) → is_hex h ≡ true → is_hex l ≡ true → value_from Outside (92 ∷ h ∷ l ∷ t) ≡ option_map (λ bs. (hex_of h * 16 + hex_of l) ∷ bs) (value_from Outside t)
read_digits h l t e f =
    ap (λ s. value_after_step s (λ next. value_from next (l ∷ t))) (behind_step h e)
    ∙ ap (λ s. value_after_step s (λ next. value_from next t)) (second_step (hex_of h) l f)

pub read_escaped : (b : ℕ) (t : List ℕ) → b < 256 → value_from Outside (escape_of b ++ t) ≡ option_map (λ bs. b ∷ bs) (value_from Outside t)
read_escaped b t h =
    let high = high_half b h in
    let low = low_half b in
    let back : hex_of (upper_digit (b / 16)) * 16 + hex_of (upper_digit (b % 16)) ≡ b = (λ i. hex-upper (b / 16) high i * 16 + hex-upper (b % 16) low i) ∙ halves b h in
    read_digits (upper_digit (b / 16)) (upper_digit (b % 16)) t (upper_is_hex (b / 16) high) (upper_is_hex (b % 16) low)
    ∙ ap (λ c. option_map (λ bs. c ∷ bs) (value_from Outside t)) back

plain_step : (b : ℕ) → (b == 32) ≡ false → (b == 92) ≡ false → is_refused b ≡ false → step_of Outside b ≡ Byte b
plain_step b e f g =
    ap (λ t. cond t Space (cond (b == 92) (Inside AfterBackslash) (cond (is_refused b) Refused (Byte b)))) e
    ∙ ap (λ t. cond t (Inside AfterBackslash) (cond (is_refused b) Refused (Byte b))) f ∙ ap (λ t. cond t Refused (Byte b)) g

pub read_plain : (b : ℕ) (t : List ℕ) → (b == 32) ≡ false → (b == 92) ≡ false → is_refused b ≡ false → value_from Outside (b ∷ t) ≡ option_map (λ bs. b ∷ bs) (value_from Outside t)
read_plain b t e f g = ap (λ s. value_after_step s (λ next. value_from next t)) (plain_step b e f g)

pub read_space : (b : ℕ) (t : List ℕ) → (b == 32) ≡ true → value_from Outside (b ∷ t) ≡ option_map with_space (value_from Outside t)
read_space b t e = ap (λ x. value_after_step (cond x Space (cond (b == 92) (Inside AfterBackslash) (cond (is_refused b) Refused (Byte b)))) (λ next. value_from next t)) e

-- a byte that is no space
read_shown : (b : ℕ) (t : List ℕ) → b < 256 → (b == 32) ≡ false → value_from Outside (printed_byte b ++ t) ≡ option_map (λ bs. b ∷ bs) (value_from Outside t)
read_shown b t h e = by (is_special b) refl
  where
    by : (s : Bool) → is_special b ≡ s → value_from Outside (cond s (escape_of b) (b ∷ []) ++ t) ≡ option_map (λ bs. b ∷ bs) (value_from Outside t)
    by true g = read_escaped b t h
    by false g = read_plain b t e (plain_not_escape b g) (plain_not_refused b g)

pub eqb_is : (b c : ℕ) → (b == c) ≡ true → b ≡ c
eqb_is b c e = eqb-true b c e

-- a byte before others
read_before : (b : ℕ) (t : List ℕ) (c : ℕ) (cs : List ℕ) → b < 256 → value_from Outside t ≡ Some (c ∷ cs) → value_from Outside (printed_byte b ++ t) ≡ Some (b ∷ c ∷ cs)
read_before b t c cs h e = by (b == 32) refl
  where
    by : (s : Bool) → (b == 32) ≡ s → value_from Outside (printed_byte b ++ t) ≡ Some (b ∷ c ∷ cs)
    by true g =
        let same = eqb_is b 32 g in
        ap (λ x. value_from Outside (printed_byte x ++ t)) same ∙ read_space 32 t refl ∙ ap (option_map with_space) e ∙ ap (λ x. Some (x ∷ c ∷ cs)) (sym same)
    by false g = read_shown b t h g ∙ ap (option_map (λ bs. b ∷ bs)) e

low : (b : ℕ) (bs : List ℕ) → list_all (λ x. nat_lt x 256) (b ∷ bs) ≡ true → b < 256
low b bs e = ltb-true b 256 (and_parts _ _ e).0

rest : (b : ℕ) (bs : List ℕ) → list_all (λ x. nat_lt x 256) (b ∷ bs) ≡ true → list_all (λ x. nat_lt x 256) bs ≡ true
rest b bs e = (and_parts _ _ e).1

pub rest_back : (bs : List ℕ) → list_all (λ b. nat_lt b 256) bs ≡ true → value_from Outside (printed_rest bs) ≡ Some bs
rest_back [] e = refl
rest_back (b ∷ []) e = by (b == 32) refl
  where
    by : (s : Bool) → (b == 32) ≡ s → value_from Outside (cond s (escape_of b) (printed_byte b)) ≡ Some (b ∷ [])
    by true g = ap (value_from Outside) (sym (append-nil (escape_of b))) ∙ read_escaped b [] (low b [] e)
    by false g = ap (value_from Outside) (sym (append-nil (printed_byte b))) ∙ read_shown b [] (low b [] e) g
rest_back (b ∷ c ∷ bs) e = read_before b (printed_rest (c ∷ bs)) c bs (low b (c ∷ bs) e) (rest_back (c ∷ bs) (rest b (c ∷ bs) e))

or_false : (a b : Bool) → (a || b) ≡ false → (a ≡ false) × (b ≡ false)
or_false true b e = absurd (cc)
or_false false b e = (refl, e)

-- the first byte of a printed value is neither a space nor a `#`
pub value_back : (bs : List ℕ) → list_all (λ b. nat_lt b 256) bs ≡ true → value_of (without_leading_spaces (printed_value bs)) ≡ Some bs
value_back [] e = refl
value_back (b ∷ bs) e = by (b == 32 || b == 35) refl
  where
    whole : option_map (λ l. b ∷ l) (value_from Outside (printed_rest bs)) ≡ Some (b ∷ bs)
    whole = ap (option_map (λ l. b ∷ l)) (rest_back bs (rest b bs e))

    plain : (s : Bool) → is_special b ≡ s → (b == 32) ≡ false → (b == 35) ≡ false → value_of (without_leading_spaces (cond s (escape_of b) (b ∷ []) ++ printed_rest bs)) ≡ Some (b ∷ bs)
    plain true g f h = read_escaped b (printed_rest bs) (low b bs e) ∙ whole
    plain false g f h =
        ap (λ t. value_of (cond t (without_leading_spaces (printed_rest bs)) (b ∷ printed_rest bs))) f
        ∙ ap (λ t. cond t None (value_from Outside (b ∷ printed_rest bs))) h
        ∙ read_plain b (printed_rest bs) f (plain_not_escape b g) (plain_not_refused b g) ∙ whole

    by : (s : Bool) → (b == 32 || b == 35) ≡ s → value_of (without_leading_spaces (cond s (escape_of b) (printed_byte b) ++ printed_rest bs)) ≡ Some (b ∷ bs)
    by true g = read_escaped b (printed_rest bs) (low b bs e) ∙ whole
    by false g = let f = or_false (b == 32) (b == 35) g in plain (is_special b) refl f.0 f.1
