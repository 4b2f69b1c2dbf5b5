-- Texts whose starts are different numbers compare as these do.
use Rattle.std.proofs.Common.{◌≡◌, ℕ, zero, suc, ◌+◌, ◌*◌, ◌<◌, Bool, true, false, ◌&&◌, nat_lt, List, [], ◌∷◌, refl, sym, ap, subst, ◌∙◌, true≢false, get_or, arith}
use Rattle.std.specs.declared.cmp.Ordering.{Ordering}
use Rattle.std.specs.declared.cmp.Ordering.TheVariants.{Less, Equal, Greater}
use Rattle.std.specs.Ordering.{nat_cmp, ordering_then, ordering_reverse, is_lt, is_eq}
use Rattle.std.specs.Prelude.{◌==◌}
use Rattle.std.specs.Cmp.{nat_cmp_is, unsigned_ties}
use Rattle.std.specs.List.{list_all}
use Rattle.std.specs.Int.{w128, from_be_bytes}
use Rattle.std.proofs.lemmas.Bool.{ltb-true}
use Rattle.std.proofs.lemmas.Bool.Decides.{nat_tests}
use Rattle.dir_names.specs.Inside.Starts.{padded, number_after, IsStart}
use Rattle.dir_names.specs.Orders.{bytes_cmp, bytes_eq, bytes_cmp_total, bytes_cmp_ties}
use Rattle.dir_names.proofs.Both.{left, right}

abbrev pub are_bytes : List ℕ → Bool
are_bytes = list_all (λ b. nat_lt b 256)

-- ---- the smaller number

after_less : (k m n : ℕ) (s t : List ℕ) → are_bytes (padded k s) ≡ true → m < n → number_after m (padded k s) < number_after n (padded k t)
after_less zero m n s t bytes h = h
after_less (suc k) m n [] [] bytes h = after_less k (m * 256 + 0) (n * 256 + 0) [] [] bytes (omega (arith, h))
after_less (suc k) m n [] (b ∷ t) bytes h = after_less k (m * 256 + 0) (n * 256 + b) [] t bytes (omega (arith, h))
after_less (suc k) m n (a ∷ s) [] bytes h =
    let small : a < 256 = ltb-true a 256 (left _ _ bytes) in
    after_less k (m * 256 + a) (n * 256 + 0) s [] (right _ _ bytes) (omega (arith, h, small))
after_less (suc k) m n (a ∷ s) (b ∷ t) bytes h =
    let small : a < 256 = ltb-true a 256 (left _ _ bytes) in
    after_less k (m * 256 + a) (n * 256 + b) s t (right _ _ bytes) (omega (arith, h, small))

not_less_than_nothing : {A : Type 0} (s : List ℕ) → bytes_cmp s [] ≡ Less → A
not_less_than_nothing [] e = absurd (true≢false (ap is_lt (sym e)))
not_less_than_nothing (b ∷ s) e = absurd (true≢false (ap is_lt (sym e)))

module _ (k n a b : ℕ) (s t : List ℕ) (p : are_bytes (padded k s) ≡ true) (q : are_bytes (padded (suc k) (b ∷ t)) ≡ true) where
  front_less : (number_after (n * 256 + a) (padded k s) < number_after (n * 256 + a) (padded k t) → bytes_cmp s t ≡ Less) →
      number_after (n * 256 + a) (padded k s) < number_after (n * 256 + b) (padded k t) → (is_less is_more : Bool) → nat_lt a b ≡ is_less → nat_lt b a ≡ is_more → bytes_cmp (a ∷ s) (b ∷ t) ≡ Less
  front_less rest h true is_more e f = ap (λ o. ordering_then o (bytes_cmp s t)) (sym (nat_cmp_is a b Less (ltb-true a b e)))
  front_less rest h false true e f =
      let less : b < a = ltb-true b a f in
      let more = after_less k (n * 256 + b) (n * 256 + a) t s (right (nat_lt b 256) _ q) (omega (arith, less)) in
      absurd (omega (arith, h, more))
  front_less rest h false false e f =
      let same : a ≡ b = grind (arith, nat_tests, e, f) in
      let less = subst (λ x. number_after (n * 256 + a) (padded k s) < number_after (n * 256 + x) (padded k t)) (sym same) h in
      ap (λ o. ordering_then o (bytes_cmp s t)) (sym (nat_cmp_is a b Equal same)) ∙ rest less

start_less : (k n : ℕ) (s t : List ℕ) → are_bytes (padded k s) ≡ true → are_bytes (padded k t) ≡ true → number_after n (padded k s) < number_after n (padded k t) → bytes_cmp s t ≡ Less
start_less zero n s t p q h = absurd (omega (arith, h))
start_less (suc k) n [] [] p q h = absurd (omega (arith, h))
start_less (suc k) n [] (b ∷ t) p q h = refl
start_less (suc k) n (zero ∷ s) [] p q h = not_less_than_nothing s (start_less k (n * 256 + 0) s [] p q h)
start_less (suc k) n (suc a ∷ s) [] p q h =
    let more = after_less k (n * 256 + 0) (n * 256 + suc a) [] s q (omega arith) in
    absurd (omega (arith, h, more))
start_less (suc k) n (a ∷ s) (b ∷ t) p q h = front_less k n a b s t (right (nat_lt a 256) _ p) q (start_less k (n * 256 + a) s t (right (nat_lt a 256) _ p) (right (nat_lt b 256) _ q)) h (nat_lt a b) (nat_lt b a) refl refl

less_by_start : (s t : List ℕ) (m n : ℕ) → IsStart s m → IsStart t n → m < n → bytes_cmp s t ≡ Less
less_by_start s t m n p q h =
    let apart : number_after 0 (padded 16 s) < number_after 0 (padded 16 t) = subst (λ x. x < number_after 0 (padded 16 t)) p.1 (subst (λ x. m < x) q.1 h) in
    start_less 16 0 s t p.0 q.0 apart

-- ---- the start first, and then the text

pub cmp_start_first : (s t : List ℕ) (m n : ℕ) → IsStart s m → IsStart t n → ordering_then (nat_cmp m n) (bytes_cmp s t) ≡ bytes_cmp s t
cmp_start_first s t m n p q = by (nat_lt m n) (nat_lt n m) refl refl
  where
    by : (is_less is_more : Bool) → nat_lt m n ≡ is_less → nat_lt n m ≡ is_more → ordering_then (nat_cmp m n) (bytes_cmp s t) ≡ bytes_cmp s t
    by true is_more e f =
        let less : m < n = ltb-true m n e in
        ap (λ o. ordering_then o (bytes_cmp s t)) (sym (nat_cmp_is m n Less less)) ∙ sym (less_by_start s t m n p q less)
    by false true e f =
        let more : n < m = ltb-true n m f in
        ap (λ o. ordering_then o (bytes_cmp s t)) (sym (nat_cmp_is m n Greater more)) ∙ sym (bytes_cmp_total.antisymm s t ∙ ap ordering_reverse (less_by_start t s n m q p more))
    by false false e f =
        let same : m ≡ n = grind (arith, nat_tests, e, f) in
        ap (λ o. ordering_then o (bytes_cmp s t)) (sym (nat_cmp_is m n Equal same))

pub eq_start_first : (s t : List ℕ) (m n : ℕ) → IsStart s m → IsStart t n → ((m == n) && bytes_eq s t) ≡ bytes_eq s t
eq_start_first s t m n p q =
    ap (λ b. b && bytes_eq s t) (unsigned_ties m n) ∙ (λ i. is_eq (nat_cmp m n) && bytes_cmp_ties s t i) ∙ by (nat_cmp m n) ∙ ap is_eq (cmp_start_first s t m n p q) ∙ sym (bytes_cmp_ties s t)
  where
    by : (o : Ordering) → (is_eq o && is_eq (bytes_cmp s t)) ≡ is_eq (ordering_then o (bytes_cmp s t))
    by Less = refl
    by Equal = refl
    by Greater = refl

-- ---- the bytes one by one

abbrev pub bytes_from : ℕ → (ℕ → ℕ) → List ℕ
bytes_from zero f = []
bytes_from (suc k) f = f 0 ∷ bytes_from k (λ i. f (suc i))

padded_bytes : (k : ℕ) (s : List ℕ) → padded k s ≡ bytes_from k (λ i. get_or s i 0)
padded_bytes zero s = refl
padded_bytes (suc k) [] = ap (λ l. 0 ∷ l) (padded_bytes k [])
padded_bytes (suc k) (b ∷ s) = ap (λ l. b ∷ l) (padded_bytes k s)

be_number : (b0 b1 b2 b3 b4 b5 b6 b7 b8 b9 b10 b11 b12 b13 b14 b15 : ℕ) → from_be_bytes w128 (b0 ∷ b1 ∷ b2 ∷ b3 ∷ b4 ∷ b5 ∷ b6 ∷ b7 ∷ b8 ∷ b9 ∷ b10 ∷ b11 ∷ b12 ∷ b13 ∷ b14 ∷ b15 ∷ []) ≡ number_after 0 (b0 ∷ b1 ∷ b2 ∷ b3 ∷ b4 ∷ b5 ∷ b6 ∷ b7 ∷ b8 ∷ b9 ∷ b10 ∷ b11 ∷ b12 ∷ b13 ∷ b14 ∷ b15 ∷ [])
be_number b0 b1 b2 b3 b4 b5 b6 b7 b8 b9 b10 b11 b12 b13 b14 b15 = omega arith

pub start_is : (text : List ℕ) → are_bytes (bytes_from 16 (λ i. get_or text i 0)) ≡ true → IsStart text (from_be_bytes w128 (bytes_from 16 (λ i. get_or text i 0)))
start_is text bytes = (ap are_bytes (padded_bytes 16 text) ∙ bytes, be_number (get_or text 0 0) (get_or text 1 0) (get_or text 2 0) (get_or text 3 0) (get_or text 4 0) (get_or text 5 0) (get_or text 6 0) (get_or text 7 0) (get_or text 8 0) (get_or text 9 0) (get_or text 10 0) (get_or text 11 0) (get_or text 12 0) (get_or text 13 0) (get_or text 14 0) (get_or text 15 0) ∙ ap (number_after 0) (sym (padded_bytes 16 text)))
