-- How many words a line has up to a byte, counted byte by byte.
use Rattle.std.proofs.Common.{◌≡◌, ℕ, suc, ◌+◌, ◌-◌, ◌==◌, ◌<◌, nat_lt, cond, true, false, List, [], ◌∷◌, ◌++◌, length, map, drop, get_or, refl, ap, sym, ◌∙◌, zero-add, arith}
use Rattle.std.specs.Borrow.{Bor}
use Rattle.std.proofs.lemmas.Bool.Decides.{nat_tests}
use Rattle.std.proofs.Math.Seq.{drop-cons}
use Rattle.dir_names.specs.Ascii.{double_quote, backslash}
use Rattle.dir_conf_text.specs.declared.arguments.Spot.{Spot}
use Rattle.dir_conf_text.specs.declared.arguments.Spot.TheVariants.{Between, Plain, Quoted, PlainEscape, QuotedEscape}
use Rattle.dir_conf_text.specs.declared.arguments.Step.{Step}
use Rattle.dir_conf_text.specs.declared.arguments.Step.TheVariants.{Skip, Take, Close}
use Rattle.dir_conf_text.specs.Arguments.{after_step, arguments_from, arguments_of, step_in_argument, step_of}
use Rattle.dir_names.specs.Trimming.{is_blank}
use Rattle.dir_conf_text.specs.PhysicalLines.{line_with}
use Rattle.dir_conf_text.specs.Inside.Wanting.{after_byte, after_bytes, line_of_last, next_spot, words_begun}

-- the word that a place is in
abbrev open_in : Spot → ℕ
open_in Between = 0
open_in Plain = 1
open_in Quoted = 1
open_in PlainEscape = 1
open_in QuotedEscape = 1

-- the words that begin in these bytes
abbrev begun_in : Spot → List ℕ → ℕ
begun_in spot [] = 0
begun_in spot (b ∷ bs) = words_begun spot b + begun_in (next_spot (step_of spot b)) bs

abbrev Counts : List ℕ → Type 0
Counts bs = (spot : Spot) (item : List ℕ) → length (arguments_from spot item bs) ≡ open_in spot + begun_in spot bs

abbrev taken : ℕ → List ℕ → List ℕ → Step → ℕ
taken b item bs step = length (after_step step b item (λ next bytes. arguments_from next bytes bs))

-- a byte of a word, or its first one
in_word : (b : ℕ) (item bs : List ℕ) → Counts bs → taken b item bs (step_in_argument b) ≡ 1 + begun_in (next_spot (step_in_argument b)) bs
in_word b item bs more =
    elim (b == backslash) as (λ w. taken b item bs (cond w (Skip PlainEscape) (cond (b == double_quote) (Skip Quoted) (Take Plain))) ≡ 1 + begun_in (next_spot (cond w (Skip PlainEscape) (cond (b == double_quote) (Skip Quoted) (Take Plain)))) bs) [
      | true ↦ more PlainEscape item
      | false ↦ elim (b == double_quote) as (λ q. taken b item bs (cond q (Skip Quoted) (Take Plain)) ≡ 1 + begun_in (next_spot (cond q (Skip Quoted) (Take Plain))) bs) [
        | true ↦ more Quoted item
        | false ↦ more Plain (item ++ b ∷ [])
      ]
    ]

one_more : (n : ℕ) → suc n ≡ 1 + n
one_more n = omega arith

between : (b : ℕ) (item bs : List ℕ) → Counts bs → taken b item bs (step_of Between b) ≡ 0 + (words_begun Between b + begun_in (next_spot (step_of Between b)) bs)
between b item bs more =
    elim (is_blank b) as (λ w. taken b item bs (cond w (Skip Between) (step_in_argument b)) ≡ 0 + (cond w 0 1 + begun_in (next_spot (cond w (Skip Between) (step_in_argument b))) bs)) [
      | true ↦ more Between item ∙ ap (λ n. 0 + n) (sym (zero-add (begun_in Between bs)))
      | false ↦ in_word b item bs more ∙ sym (zero-add (1 + begun_in (next_spot (step_in_argument b)) bs))
    ]

plain : (b : ℕ) (item bs : List ℕ) → Counts bs → taken b item bs (step_of Plain b) ≡ 1 + (0 + begun_in (next_spot (step_of Plain b)) bs)
plain b item bs more =
    elim (is_blank b) as (λ w. taken b item bs (cond w Close (step_in_argument b)) ≡ 1 + (0 + begun_in (next_spot (cond w Close (step_in_argument b))) bs)) [
      | true ↦ one_more (length (arguments_from Between [] bs)) ∙ ap (λ n. 1 + n) (more Between [])
      | false ↦ in_word b item bs more ∙ ap (λ n. 1 + n) (sym (zero-add (begun_in (next_spot (step_in_argument b)) bs)))
    ]

quoted : (b : ℕ) (item bs : List ℕ) → Counts bs → taken b item bs (step_of Quoted b) ≡ 1 + (0 + begun_in (next_spot (step_of Quoted b)) bs)
quoted b item bs more =
    elim (b == backslash) as (λ w. taken b item bs (cond w (Skip QuotedEscape) (cond (b == double_quote) (Skip Plain) (Take Quoted))) ≡ 1 + (0 + begun_in (next_spot (cond w (Skip QuotedEscape) (cond (b == double_quote) (Skip Plain) (Take Quoted)))) bs)) [
      | true ↦ more QuotedEscape item ∙ ap (λ n. 1 + n) (sym (zero-add (begun_in QuotedEscape bs)))
      | false ↦ elim (b == double_quote) as (λ q. taken b item bs (cond q (Skip Plain) (Take Quoted)) ≡ 1 + (0 + begun_in (next_spot (cond q (Skip Plain) (Take Quoted))) bs)) [
        | true ↦ more Plain item ∙ ap (λ n. 1 + n) (sym (zero-add (begun_in Plain bs)))
        | false ↦ more Quoted (item ++ b ∷ []) ∙ ap (λ n. 1 + n) (sym (zero-add (begun_in Quoted bs)))
      ]
    ]

counted : (bs : List ℕ) → Counts bs
counted [] Between item = refl
counted [] Plain item = refl
counted [] Quoted item = refl
counted [] PlainEscape item = refl
counted [] QuotedEscape item = refl
counted (b ∷ bs) Between item = between b item bs (counted bs)
counted (b ∷ bs) Plain item = plain b item bs (counted bs)
counted (b ∷ bs) Quoted item = quoted b item bs (counted bs)
counted (b ∷ bs) PlainEscape item = counted bs Plain (item ++ b ∷ []) ∙ ap (λ n. 1 + n) (sym (zero-add (begun_in Plain bs)))
counted (b ∷ bs) QuotedEscape item = counted bs Quoted (item ++ b ∷ []) ∙ ap (λ n. 1 + n) (sym (zero-add (begun_in Quoted bs)))

begun_then : (k m n : ℕ) → (k - m) - n ≡ k - (m + n)
begun_then k m n = omega arith

fewer : (spot : Spot) (k : ℕ) (bs : List ℕ) → (after_bytes (spot, k) bs).1 ≡ k - begun_in spot bs
fewer spot k [] = omega arith
fewer spot k (b ∷ bs) =
    fewer (next_spot (step_of spot b)) (k - words_begun spot b) bs ∙ begun_then k (words_begun spot b) (begun_in (next_spot (step_of spot b)) bs)

-- how many of the words that are wanted a text lacks
lacking : (k : ℕ) (text : List ℕ) → (after_bytes (Between, k) text).1 ≡ k - length (arguments_of text)
lacking k text = fewer Between k text ∙ ap (λ n. k - n) (sym (counted text Between [] ∙ zero-add (begun_in Between text)))

-- a text after another
text_after : (wanting : Spot × ℕ) (text more : List ℕ) → after_bytes wanting (text ++ more) ≡ after_bytes (after_bytes wanting text) more
text_after wanting [] more = refl
text_after wanting (b ∷ bs) more = text_after (after_byte wanting b) bs more

-- ---- physical lines

turned : (a k n m : ℕ) → cond (nat_lt a k) n m ≡ cond (k - a == 0) m n
turned a k n m = grind (arith, nat_tests)

-- a line has so many words up to its end where none of them is wanting
counted_lines : (k n : ℕ) (text : List ℕ) (lines : List (List ℕ)) → line_with k n text lines ≡ line_of_last (after_bytes (Between, k) text) n lines
counted_lines k n text [] = refl
counted_lines k n text (line ∷ lines) =
    let after : after_bytes (Between, k) (text ++ line) ≡ after_bytes (after_bytes (Between, k) text) line = text_after (Between, k) text line in
    let on = line_with k (n + 1) (text ++ line) lines in
    let same : cond (nat_lt (length (arguments_of (text ++ line))) k) on n ≡ cond ((after_bytes (Between, k) (text ++ line)).1 == 0) n on
    = turned (length (arguments_of (text ++ line))) k on n ∙ ap (λ (m : ℕ). cond (m == 0) n on) (sym (lacking k (text ++ line))) in
    same
    ∙ ap (λ (m : ℕ). cond ((after_bytes (Between, k) (text ++ line)).1 == 0) n m) (counted_lines k (n + 1) (text ++ line) lines)
    ∙ ap (λ (w : Spot × ℕ). cond (w.1 == 0) n (line_of_last w (n + 1) lines)) after

-- the line of the last word that is wanted, counted from the first line on
pub line_found : (k n : ℕ) (lines : List (List ℕ)) → line_with k n [] lines ≡ line_of_last (Between, k) n lines
line_found k n lines = counted_lines k n [] lines

-- the last word begins on the line at this index
pub last_here : (wanting : Spot × ℕ) (n i : ℕ) (lines : List (Bor (List ℕ))) (default : Bor (List ℕ)) → i < length lines → (after_bytes wanting (get_or lines i default).now).1 ≡ 0
    → line_of_last wanting n (map (λ line. line.now) (drop i lines)) ≡ n
last_here wanting n i lines default lt none =
    let line : List ℕ = (get_or lines i default).now in
    let more : ℕ = line_of_last (after_bytes wanting line) (n + 1) (map (λ line. line.now) (drop (suc i) lines)) in
    ap (λ (rest : List (Bor (List ℕ))). line_of_last wanting n (map (λ line. line.now) rest)) (drop-cons lines i default lt) ∙ ap (λ (m : ℕ). cond (m == 0) n more) none
