-- A text without extra spaces is its words, with one space between them.
use Rattle.std.proofs.Common.{◌≡◌, ℕ, suc, ◌+◌, ◌<◌, ◌≤◌, Bool, true, false, cond, List, [], ◌∷◌, ◌++◌, length, take, drop, refl, sym, ap, ◌∙◌, arith, length-drop}
use Rattle.std.specs.Prelude.{◌==◌, ◌&&◌}
use lib.Dec.{eqb-suc-zero}
use Rattle.std.proofs.lemmas.Bool.{eqb-true}
use Rattle.dir_names.specs.Inside.TidyRuns.{is_end_or_space, tidy_len}
use Rattle.dir_names.specs.ValueKeys.Spaces.{begins_with_space, without_leading_spaces, without_extra_spaces}
use Rattle.dir_names.proofs.Tidy.{front_other, tail, without_extra_spaces-tail}

-- the rest of a text after a word, with the space before it
abbrev pub after_space : List ℕ → List ℕ
after_space rest = cond (length rest == 0) [] (32 ∷ []) ++ tail false rest

tail_waiting : (bs : List ℕ) → tail true bs ≡ after_space (without_leading_spaces bs)
tail_waiting [] = refl
tail_waiting (b ∷ bs) = by (b == 32) refl (tail_waiting bs)
  where
    by : (t : Bool) → (b == 32) ≡ t → tail true bs ≡ after_space (without_leading_spaces bs) → cond t (tail true bs) (32 ∷ b ∷ tail false bs) ≡ after_space (cond t (without_leading_spaces bs) (b ∷ bs))
    by true e rest = rest
    by false e rest =
        sym (ap (λ t. cond t [] (32 ∷ []) ++ tail false (b ∷ bs)) (eqb-suc-zero (length bs)) ∙ ap (λ t. 32 ∷ cond t (tail true bs) (b ∷ tail false bs)) e)

word_follows : (bs : List ℕ) → is_end_or_space bs ≡ false → tail true bs ≡ 32 ∷ tail false bs
word_follows [] e = absurd (cc)
word_follows (b ∷ bs) e =
    ap (λ t. cond t (tail true bs) (32 ∷ b ∷ tail false bs)) e ∙ sym (ap (λ t. 32 ∷ cond t (tail true bs) (b ∷ tail false bs)) e)

first_run : (bs : List ℕ) → tail false bs ≡ take (tidy_len bs) bs ++ after_space (without_leading_spaces (drop (tidy_len bs) bs))
first_run [] = refl
first_run (b ∷ bs) = by (b == 32) (is_end_or_space bs) refl refl (first_run bs)
  where
    more : tail false bs ≡ take (tidy_len bs) bs ++ after_space (without_leading_spaces (drop (tidy_len bs) bs)) → b ∷ tail false bs ≡ take (1 + tidy_len bs) (b ∷ bs) ++ after_space (without_leading_spaces (drop (1 + tidy_len bs) (b ∷ bs)))
    more rest =
        let one : suc (tidy_len bs) ≡ 1 + tidy_len bs = omega arith in
        ap (λ l. b ∷ l) rest ∙ ap (λ n. take n (b ∷ bs) ++ after_space (without_leading_spaces (drop n (b ∷ bs)))) one

    by : (t u : Bool) → (b == 32) ≡ t → is_end_or_space bs ≡ u → tail false bs ≡ take (tidy_len bs) bs ++ after_space (without_leading_spaces (drop (tidy_len bs) bs)) → cond t (tail true bs) (b ∷ tail false bs) ≡ take (cond (t && u) 0 (1 + tidy_len bs)) (b ∷ bs) ++ after_space (without_leading_spaces (drop (cond (t && u) 0 (1 + tidy_len bs)) (b ∷ bs)))
    by true true e q rest = tail_waiting bs ∙ ap (λ t. after_space (cond t (without_leading_spaces bs) (b ∷ bs))) (sym e)
    by true false e q rest = word_follows bs q ∙ ap (λ c. c ∷ tail false bs) (sym (eqb-true b 32 e)) ∙ more rest
    by false u e q rest = more rest

-- ---- a text that begins with a word

pub begins_with_word : (bs : List ℕ) → begins_with_space (without_leading_spaces bs) ≡ false
begins_with_word [] = refl
begins_with_word (b ∷ bs) = by (b == 32) refl (begins_with_word bs)
  where
    by : (t : Bool) → (b == 32) ≡ t → begins_with_space (without_leading_spaces bs) ≡ false → begins_with_space (cond t (without_leading_spaces bs) (b ∷ bs)) ≡ false
    by true e rest = rest
    by false e rest = e

no_leading_space : (bs : List ℕ) → begins_with_space bs ≡ false → without_leading_spaces bs ≡ bs
no_leading_space [] e = refl
no_leading_space (b ∷ bs) e = front_other b bs e

without_extra_spaces-word : (bs : List ℕ) → begins_with_space bs ≡ false → without_extra_spaces bs ≡ tail false bs
without_extra_spaces-word bs e = without_extra_spaces-tail bs ∙ ap (tail false) (no_leading_space bs e)

pub all_words : (bs : List ℕ) → without_extra_spaces bs ≡ without_extra_spaces (without_leading_spaces bs)
all_words bs = without_extra_spaces-tail bs ∙ sym (without_extra_spaces-word (without_leading_spaces bs) (begins_with_word bs))

pub next_run : (text next : List ℕ) (n : ℕ) → begins_with_space text ≡ false → n ≡ tidy_len text → next ≡ without_leading_spaces (drop n text) → without_extra_spaces text ≡ take n text ++ (cond (length next == 0) [] (32 ∷ []) ++ without_extra_spaces next)
next_run text next n e at is =
    let words = sym (without_extra_spaces-word (without_leading_spaces (drop n text)) (begins_with_word (drop n text))) in
    let put : without_extra_spaces text ≡ take n text ++ after_space (without_leading_spaces (drop n text)) = without_extra_spaces-word text e ∙ first_run text ∙ ap (λ k. take k text ++ after_space (without_leading_spaces (drop k text))) (sym at) in
    put ∙ ap (λ l. take n text ++ (cond (length (without_leading_spaces (drop n text)) == 0) [] (32 ∷ []) ++ l)) words
    ∙ ap (λ l. take n text ++ (cond (length l == 0) [] (32 ∷ []) ++ without_extra_spaces l)) (sym is)

-- ---- the lengths

front_shorter : (bs : List ℕ) → length (without_leading_spaces bs) ≤ length bs
front_shorter [] = omega arith
front_shorter (b ∷ bs) = by (b == 32) (front_shorter bs)
  where
    by : (t : Bool) → length (without_leading_spaces bs) ≤ length bs → length (cond t (without_leading_spaces bs) (b ∷ bs)) ≤ length (b ∷ bs)
    by true rest = omega arith
    by false rest = omega arith

some_run : (bs : List ℕ) → begins_with_space bs ≡ false → 0 < length bs → 0 < tidy_len bs
some_run [] e some = absurd (omega arith)
some_run (b ∷ bs) e some = by (b == 32) e
  where
    by : (t : Bool) → t ≡ false → 0 < cond (t && is_end_or_space bs) 0 (1 + tidy_len bs)
    by true q = absurd (cc)
    by false q = omega arith

pub next_shorter : (text next : List ℕ) (n : ℕ) → begins_with_space text ≡ false → 0 < length text → n ≡ tidy_len text → next ≡ without_leading_spaces (drop n text) → length next < length text
next_shorter text next n e some at is =
    let one = some_run text e some in
    let less = front_shorter (drop n text) in
    let same : length next ≡ length (without_leading_spaces (drop n text)) = ap length is in
    omega (arith, length-drop n text)
