-- Numbers as decimal digits: of two without leading zeros the shorter is the smaller, and those of one length are in the order of their bytes.
use Rattle.std.proofs.Common.{◌≡◌, ℕ, suc, ◌+◌, ◌-◌, ◌*◌, ◌≤◌, ◌<◌, Bool, true, false, cond, not, List, [], ◌∷◌, length, refl, sym, ap, ◌∙◌, arith}
use Rattle.std.specs.Prelude.{◌&&◌, ◌||◌, ◌==◌, nat_lt, nat_le, int_lt, pos, negsuc, neg_ℤ}
use Rattle.std.specs.List.{list_all}
use Rattle.std.specs.Ordering.{is_lt}
use Rattle.std.specs.declared.cmp.Ordering.TheVariants.{Less, Equal, Greater}
use Rattle.dir_names.specs.Descriptions.{is_digit, is_number}
use Rattle.dir_names.specs.Orders.{bytes_cmp}
use Rattle.dir_names.specs.ValueKeys.{is_integer, is_positive}
use Rattle.std.proofs.lemmas.Bool.{eqb-true, ltb-true, ltb-false, leb-true, leb-false, lt-ltb}
use Rattle.std.proofs.lemmas.Bool.Decides.{nat_tests}
use Rattle.std.specs.Ordering.{ordering_then}
use Rattle.dir_acl.specs.Inside.Digits.{digits_of, is_negative}
use Rattle.dir_acl.specs.Integers.{integer_of, number_after, number_of}

and_first : (x y : Bool) → (x && y) ≡ true → x ≡ true
and_first true y e = refl
and_first false y e = e

and_second : (x y : Bool) → (x && y) ≡ true → y ≡ true
and_second true y e = e
and_second false y e = absurd (cc)

digit_low : (d : ℕ) → is_digit d ≡ true → 48 ≤ d
digit_low d e = leb-true 48 d (and_first (nat_le 48 d) _ e)

digit_high : (d : ℕ) → is_digit d ≡ true → d ≤ 57
digit_high d e = leb-true d 57 (and_second (nat_le 48 d) _ e)

-- a greater number before digits makes a greater number, whatever the digits
greater : (ds es : List ℕ) (n m : ℕ) → length ds ≡ length es → list_all is_digit ds ≡ true → n < m → number_after n ds < number_after m es
greater [] [] n m same digits less = less
greater [] (e ∷ es) n m same digits less = absurd (omega arith)
greater (d ∷ ds) [] n m same digits less = absurd (omega arith)
greater (d ∷ ds) (e ∷ es) n m same digits less =
    let high = digit_high d (and_first (is_digit d) _ digits) in
    greater ds es (n * 10 + (d - 48)) (m * 10 + (e - 48)) (omega arith) (and_second (is_digit d) _ digits) (omega arith)

less_is_true : (a b : ℕ) → a < b → nat_lt a b ≡ true
less_is_true a b h = lt-ltb a b h

more_is_false : (a b : ℕ) → b ≤ a → nat_lt a b ≡ false
more_is_false a b h = by (nat_lt a b) refl
  where
    by : (t : Bool) → nat_lt a b ≡ t → t ≡ false
    by true e = let less = ltb-true a b e in absurd (omega arith)
    by false e = refl

-- numbers of one length are in the order of their bytes
pub in_order : (ds es : List ℕ) (n : ℕ) → length ds ≡ length es → list_all is_digit ds ≡ true → list_all is_digit es ≡ true → is_lt (bytes_cmp ds es) ≡ nat_lt (number_after n ds) (number_after n es)
in_order [] [] n same da ea = sym (more_is_false n n (omega arith))
in_order [] (e ∷ es) n same da ea = absurd (omega arith)
in_order (d ∷ ds) [] n same da ea = absurd (omega arith)
in_order (d ∷ ds) (e ∷ es) n same da ea =
    by (in_order ds es (n * 10 + (d - 48)) (omega arith) (and_second (is_digit d) _ da) (and_second (is_digit e) _ ea)) (digit_low d (and_first (is_digit d) _ da)) (digit_low e (and_first (is_digit e) _ ea)) (nat_lt d e) refl (d == e) refl
  where
    lengths : length ds ≡ length es
    lengths = omega arith

    digits_d : list_all is_digit ds ≡ true
    digits_d = and_second (is_digit d) _ da

    digits_e : list_all is_digit es ≡ true
    digits_e = and_second (is_digit e) _ ea

    by : is_lt (bytes_cmp ds es) ≡ nat_lt (number_after (n * 10 + (d - 48)) ds) (number_after (n * 10 + (d - 48)) es) → 48 ≤ d → 48 ≤ e → (t : Bool) → nat_lt d e ≡ t → (u : Bool) → (d == e) ≡ u
        → is_lt (ordering_then (cond t Less (cond u Equal Greater)) (bytes_cmp ds es)) ≡ nat_lt (number_after (n * 10 + (d - 48)) ds) (number_after (n * 10 + (e - 48)) es)
    by rest low_d low_e true w u v = let less = ltb-true d e w in sym (less_is_true _ _ (greater ds es (n * 10 + (d - 48)) (n * 10 + (e - 48)) lengths digits_d (omega arith)))
    by rest low_d low_e false w true v = rest ∙ ap (λ x. nat_lt (number_after (n * 10 + (d - 48)) ds) (number_after (n * 10 + (x - 48)) es)) (eqb-true d e v)
    by rest low_d low_e false w false v =
        let above : e < d = grind (arith, nat_tests) in
        let less : number_after (n * 10 + (e - 48)) es < number_after (n * 10 + (d - 48)) ds = greater es ds (n * 10 + (e - 48)) (n * 10 + (d - 48)) (sym lengths) digits_e (omega arith) in
        sym (more_is_false _ _ (omega arith))

-- a number before at least as many digits is the greater one
longer : (es ds : List ℕ) (m : ℕ) → 0 < m → length ds ≤ length es → list_all is_digit ds ≡ true → number_of ds < number_after m es
longer [] [] m some le da = some
longer [] (d ∷ ds) m some le da = absurd (omega arith)
longer (e ∷ es) ds m some le da = by (longer es ds (m * 10 + (e - 48)) (omega arith)) (nat_le (length ds) (length es)) refl
  where
    by : (length ds ≤ length es → list_all is_digit ds ≡ true → number_of ds < number_after (m * 10 + (e - 48)) es) → (t : Bool) → nat_le (length ds) (length es) ≡ t → number_of ds < number_after (m * 10 + (e - 48)) es
    by rest true w = rest (leb-true (length ds) (length es) w) da
    by rest false w = let more = leb-false (length ds) (length es) w in greater ds (e ∷ es) 0 m (omega arith) da some

-- ---- numbers without leading zeros

number_digits : (ds : List ℕ) → is_number ds ≡ true → list_all is_digit ds ≡ true
number_digits [] e = refl
number_digits (d ∷ ds) e =
    let all : (is_digit d && (not (d == 48) || length ds == 0)) ≡ true = and_first (is_digit d && (not (d == 48) || length ds == 0)) _ e in
    λ i. and_first (is_digit d) _ all i && and_second (is_digit d && (not (d == 48) || length ds == 0)) _ e i

number_some : (ds : List ℕ) → is_number ds ≡ true → 1 ≤ length ds
number_some [] e = absurd (cc)
number_some (d ∷ ds) e = omega arith

-- a number of two or more digits doesn't begin with 0
number_first : (d : ℕ) (ds : List ℕ) → is_number (d ∷ ds) ≡ true → 1 ≤ length ds → 0 < 0 * 10 + (d - 48)
number_first d ds e some = by (d == 48) (length ds == 0) refl refl (and_second (is_digit d) _ (and_first (is_digit d && (not (d == 48) || length ds == 0)) _ e))
  where
    low : 48 ≤ d
    low = digit_low d (and_first (is_digit d) _ (and_first (is_digit d && (not (d == 48) || length ds == 0)) _ e))

    by : (t u : Bool) → (d == 48) ≡ t → (length ds == 0) ≡ u → (not t || u) ≡ true → 0 < 0 * 10 + (d - 48)
    by true true w v q = let none = eqb-true (length ds) 0 v in absurd (omega arith)
    by true false w v q = absurd (cc)
    by false u w v q = let above = low in grind (arith, nat_tests)

shorter : (ds es : List ℕ) → is_number ds ≡ true → is_number es ≡ true → length ds < length es → number_of ds < number_of es
shorter ds [] dn en less = absurd (omega arith)
shorter ds (e ∷ es) dn en less =
    let some = number_some ds dn in
    longer es ds (0 * 10 + (e - 48)) (number_first e es en (omega arith)) (omega arith) (number_digits ds dn)

module _ (ds es : List ℕ) (dn : is_number ds ≡ true) (en : is_number es ≡ true) where
  pub shorter_is_smaller : nat_lt (length ds) (length es) ≡ true → nat_lt (number_of ds) (number_of es) ≡ true
  shorter_is_smaller w = less_is_true _ _ (shorter ds es dn en (ltb-true (length ds) (length es) w))

  pub same_length_in_order : (length ds == length es) ≡ true → nat_lt (number_of ds) (number_of es) ≡ is_lt (bytes_cmp ds es)
  same_length_in_order v = sym (in_order ds es 0 (eqb-true (length ds) (length es) v) (number_digits ds dn) (number_digits es en))

  pub longer_is_not_smaller : nat_lt (length ds) (length es) ≡ false → (length ds == length es) ≡ false → nat_lt (number_of ds) (number_of es) ≡ false
  longer_is_not_smaller w v =
      let more : length es < length ds = grind (arith, nat_tests) in
      let less = shorter es ds en dn more in
      more_is_false _ _ (omega arith)

pub ruleset smaller_steps = (shorter_is_smaller, same_length_in_order, longer_is_not_smaller)

-- ---- integers

positive_number : (ds : List ℕ) → is_positive ds ≡ true → is_number ds ≡ true
positive_number [] e = absurd (cc)
positive_number (d ∷ ds) e =
    let all : list_all is_digit (d ∷ ds) ≡ true = and_second (not (d == 48)) _ e in
    λ i. (and_first (is_digit d) _ all i && (and_first (not (d == 48)) _ e i || length ds == 0)) && and_second (is_digit d) _ all i

above_zero : (ds : List ℕ) (n : ℕ) → 0 < n → 0 < number_after n ds
above_zero [] n h = h
above_zero (d ∷ ds) n h = above_zero ds (n * 10 + (d - 48)) (omega arith)

not_zero : (t : Bool) → not t ≡ true → t ≡ false
not_zero true e = absurd (cc)
not_zero false e = refl

positive_above : (ds : List ℕ) → is_positive ds ≡ true → 0 < number_of ds
positive_above [] e = absurd (cc)
positive_above (d ∷ ds) e =
    let low = digit_low d (and_first (is_digit d) _ (and_second (not (d == 48)) _ e)) in
    let other : (d == 48) ≡ false = not_zero (d == 48) (and_first (not (d == 48)) _ e) in
    above_zero ds (0 * 10 + (d - 48)) (grind (arith, nat_tests))

-- the two forms of an integer
pub plain_number : (text : List ℕ) → is_integer text ≡ true → is_negative text ≡ false → (is_number (digits_of text) ≡ true) × (integer_of text ≡ pos (number_of (digits_of text)))
plain_number [] e n = absurd (cc)
plain_number (b ∷ bs) e n = by (b == 48) refl e
  where
    same : digits_of (b ∷ bs) ≡ b ∷ bs
    same = ap (λ t. cond t bs (b ∷ bs)) n

    value : integer_of (b ∷ bs) ≡ pos (number_of (digits_of (b ∷ bs)))
    value = ap (λ t. cond t (neg_ℤ (pos (number_of bs))) (pos (number_of (b ∷ bs)))) n ∙ ap (λ l. pos (number_of l)) (sym same)

    zero_digit : b ≡ 48 → is_digit b ≡ true
    zero_digit h = ap is_digit h

    no_digits : (bs : List ℕ) → (length bs == 0) ≡ true → list_all is_digit bs ≡ true
    no_digits [] h = refl
    no_digits (c ∷ cs) h = let none = eqb-true (length (c ∷ cs)) 0 h in absurd (omega arith)

    or_true : (x y : Bool) → y ≡ true → (x || y) ≡ true
    or_true true y h = refl
    or_true false y h = h

    by : (t : Bool) → (b == 48) ≡ t → cond t (length bs == 0) (cond (b == 45) (is_positive bs) (is_positive (b ∷ bs))) ≡ true → (is_number (digits_of (b ∷ bs)) ≡ true) × (integer_of (b ∷ bs) ≡ pos (number_of (digits_of (b ∷ bs))))
    by true w h =
        (ap is_number same ∙ (λ i. (zero_digit (eqb-true b 48 w) i && or_true (not (b == 48)) _ h i) && no_digits bs h i), value)
    by false w h = (ap is_number same ∙ positive_number (b ∷ bs) (sym (ap (λ t. cond t (is_positive bs) (is_positive (b ∷ bs))) n) ∙ h), value)

pub minus_number : (text : List ℕ) → is_integer text ≡ true → is_negative text ≡ true → (is_number (digits_of text) ≡ true) × (k : ℕ) × (number_of (digits_of text) ≡ suc k) × (integer_of text ≡ negsuc k)
minus_number [] e n = absurd (cc)
minus_number (b ∷ bs) e n =
    let at : b ≡ 45 = eqb-true b 45 n in
    let same : digits_of (b ∷ bs) ≡ bs = ap (λ t. cond t bs (b ∷ bs)) n in
    let positive : is_positive bs ≡ true = sym (ap (λ c. is_integer (c ∷ bs)) at) ∙ e in
    let above = positive_above bs positive in
    let next : number_of bs ≡ suc (number_of bs - 1) = omega arith in
    (ap is_number same ∙ positive_number bs positive, number_of bs - 1, ap number_of same ∙ next, ap (λ t. cond t (neg_ℤ (pos (number_of bs))) (pos (number_of (b ∷ bs)))) n ∙ ap (λ m. neg_ℤ (pos m)) next)

pub plain_is_number : (text : List ℕ) → is_integer text ≡ true → is_negative text ≡ false → is_number (digits_of text) ≡ true
plain_is_number text e n = (plain_number text e n).0

pub minus_is_number : (text : List ℕ) → is_integer text ≡ true → is_negative text ≡ true → is_number (digits_of text) ≡ true
minus_is_number text e n = (minus_number text e n).0

pub plain_below : (one another : List ℕ) → is_integer one ≡ true → is_integer another ≡ true → is_negative one ≡ false → is_negative another ≡ false
    → int_lt (integer_of one) (integer_of another) ≡ nat_lt (number_of (digits_of one)) (number_of (digits_of another))
plain_below one another e f n m = λ i. int_lt ((plain_number one e n).1 i) ((plain_number another f m).1 i)

pub minus_below_plain : (one another : List ℕ) → is_integer one ≡ true → is_integer another ≡ true → is_negative one ≡ true → is_negative another ≡ false → int_lt (integer_of one) (integer_of another) ≡ true
minus_below_plain one another e f n m = λ i. int_lt ((minus_number one e n).3 i) ((plain_number another f m).1 i)

pub plain_not_below_minus : (one another : List ℕ) → is_integer one ≡ true → is_integer another ≡ true → is_negative one ≡ false → is_negative another ≡ true → int_lt (integer_of one) (integer_of another) ≡ false
plain_not_below_minus one another e f n m = λ i. int_lt ((plain_number one e n).1 i) ((minus_number another f m).3 i)

next_below : (a b : ℕ) → nat_lt a b ≡ nat_lt (suc a) (suc b)
next_below a b = by (nat_lt a b) refl
  where
    by : (t : Bool) → nat_lt a b ≡ t → t ≡ nat_lt (suc a) (suc b)
    by true w = let less = ltb-true a b w in sym (less_is_true _ _ (omega arith))
    by false w = let more = ltb-false a b w in sym (more_is_false _ _ (omega arith))

pub minus_below : (one another : List ℕ) → is_integer one ≡ true → is_integer another ≡ true → is_negative one ≡ true → is_negative another ≡ true
    → int_lt (integer_of one) (integer_of another) ≡ nat_lt (number_of (digits_of another)) (number_of (digits_of one))
minus_below one another e f n m =
    let a = minus_number one e n in
    let b = minus_number another f m in
    (λ i. int_lt (a.3 i) (b.3 i)) ∙ next_below b.1 a.1 ∙ (λ i. nat_lt (sym b.2 i) (sym a.2 i))

pub ruleset integer_forms = (plain_is_number, minus_is_number, plain_below, minus_below_plain, plain_not_below_minus, minus_below)
