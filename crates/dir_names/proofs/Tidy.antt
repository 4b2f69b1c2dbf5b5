-- A text without extra spaces, written in one pass.
--     tail waiting bs      what is written of bs, if a space is waiting or not, after a byte other than a space
--     tidied-tail          so a text is written from its first byte on that is not a space
--     stays after bs       whether no space is at the end or beside another one, where `after` says whether one comes before
use Rattle.std.proofs.Common.{◌≡◌, ℕ, ◌+◌, ◌-◌, ◌<◌, ◌≤◌, Bool, true, false, cond, not, List, [], ◌∷◌, ◌++◌, length, take, get_or, refl, sym, ap, ◌∙◌, arith}
use Rattle.std.specs.Prelude.{◌==◌, ◌&&◌, ◌||◌}
use Rattle.std.specs.List.{list_any}
use lib.Dec.{eqb-suc-zero}
use Rattle.std.proofs.lemmas.Bool.{eqb-true, ne_eqb}
use Rattle.std.proofs.lemmas.List.{take_more}
use Rattle.dir_names.specs.ValueKeys.Spaces.{without_leading_spaces, without_trailing_spaces, begins_with_space, with_single_spaces, without_extra_spaces}

abbrev pub tail : Bool → List ℕ → List ℕ
tail waiting [] = []
tail waiting (b ∷ bs) = cond (b == 32) (tail true bs) (cond waiting (32 ∷ b ∷ []) (b ∷ []) ++ tail false bs)

abbrev pub stays : Bool → List ℕ → Bool
stays after [] = not after
stays after (b ∷ bs) = cond (b == 32) (cond after false (stays true bs)) (stays false bs)

-- a byte that is no space stays as it is
kept : (b : ℕ) (bs : List ℕ) → (b == 32) ≡ false → without_trailing_spaces (with_single_spaces (b ∷ bs)) ≡ b ∷ without_trailing_spaces (with_single_spaces bs)
kept b bs e =
    ap (λ t. without_trailing_spaces (cond (t && begins_with_space bs) (with_single_spaces bs) (b ∷ with_single_spaces bs))) e
    ∙ ap (λ t. cond (t && length (without_trailing_spaces (with_single_spaces bs)) == 0) [] (b ∷ without_trailing_spaces (with_single_spaces bs))) e

-- a space before a space goes
joined : (b : ℕ) (bs : List ℕ) → (b == 32) ≡ true → without_trailing_spaces (with_single_spaces (32 ∷ b ∷ bs)) ≡ without_trailing_spaces (with_single_spaces (b ∷ bs))
joined b bs e = ap (λ t. without_trailing_spaces (cond t (with_single_spaces (b ∷ bs)) (32 ∷ with_single_spaces (b ∷ bs)))) e

behind_space : List ℕ → List ℕ
behind_space l = cond (length l == 0) [] (32 ∷ l)

-- a space before another byte stays
between : (b : ℕ) (bs : List ℕ) → (b == 32) ≡ false → without_trailing_spaces (with_single_spaces (32 ∷ b ∷ bs)) ≡ 32 ∷ b ∷ without_trailing_spaces (with_single_spaces bs)
unfolding behind_space
between b bs e =
    let apart : without_trailing_spaces (with_single_spaces (32 ∷ b ∷ bs)) ≡ without_trailing_spaces (32 ∷ with_single_spaces (b ∷ bs)) = ap (λ t. without_trailing_spaces (cond t (with_single_spaces (b ∷ bs)) (32 ∷ with_single_spaces (b ∷ bs)))) e in
    let read : without_trailing_spaces (32 ∷ with_single_spaces (b ∷ bs)) ≡ behind_space (b ∷ without_trailing_spaces (with_single_spaces bs)) = ap behind_space (kept b bs e) in
    apart ∙ read ∙ ap (λ t. cond t [] (32 ∷ b ∷ without_trailing_spaces (with_single_spaces bs))) (eqb-suc-zero (length (without_trailing_spaces (with_single_spaces bs))))

tails : (bs : List ℕ) → (tail false bs ≡ without_trailing_spaces (with_single_spaces bs)) × (tail true bs ≡ without_trailing_spaces (with_single_spaces (32 ∷ bs)))
tails [] = (refl, refl)
tails (b ∷ bs) =
    let rest = tails bs in
    elim (b == 32) as (λ t. (b == 32) ≡ t → (cond t (tail true bs) (b ∷ tail false bs) ≡ without_trailing_spaces (with_single_spaces (b ∷ bs))) × (cond t (tail true bs) (32 ∷ b ∷ tail false bs) ≡ without_trailing_spaces (with_single_spaces (32 ∷ b ∷ bs)))) [
      | true ↦ λ e.
          let space = rest.1 ∙ ap (λ c. without_trailing_spaces (with_single_spaces (c ∷ bs))) (sym (eqb-true b 32 e)) in
          (space, space ∙ sym (joined b bs e))
      | false ↦ λ e. (ap (λ l. b ∷ l) rest.0 ∙ sym (kept b bs e), ap (λ l. 32 ∷ b ∷ l) rest.0 ∙ sym (between b bs e))
    ] refl

front-with_single_spaces : (bs : List ℕ) → without_leading_spaces (with_single_spaces bs) ≡ with_single_spaces (without_leading_spaces bs)
front-with_single_spaces [] = refl
front-with_single_spaces (b ∷ bs) =
    elim (b == 32) as (λ t. (b == 32) ≡ t → without_leading_spaces (cond (t && begins_with_space bs) (with_single_spaces bs) (b ∷ with_single_spaces bs)) ≡ with_single_spaces (cond t (without_leading_spaces bs) (b ∷ bs))) [
      | true ↦ λ e. elim (begins_with_space bs) as (λ t. without_leading_spaces (cond t (with_single_spaces bs) (b ∷ with_single_spaces bs)) ≡ with_single_spaces (without_leading_spaces bs)) [
        | true ↦ front-with_single_spaces bs
        | false ↦ ap (λ t. cond t (without_leading_spaces (with_single_spaces bs)) (b ∷ with_single_spaces bs)) e ∙ front-with_single_spaces bs
      ]
      | false ↦ λ e. ap (λ t. cond t (without_leading_spaces (with_single_spaces bs)) (b ∷ with_single_spaces bs)) e ∙ ap (λ t. cond (t && begins_with_space bs) (with_single_spaces bs) (b ∷ with_single_spaces bs)) (sym e)
    ] refl

pub without_extra_spaces-tail : (bs : List ℕ) → without_extra_spaces bs ≡ tail false (without_leading_spaces bs)
without_extra_spaces-tail bs = ap without_trailing_spaces (front-with_single_spaces bs) ∙ sym (tails (without_leading_spaces bs)).0

-- ---- a text that is tidy already

tail_stays : (bs : List ℕ) → (stays false bs ≡ true → tail false bs ≡ bs) × (stays true bs ≡ true → tail true bs ≡ 32 ∷ bs)
tail_stays [] = (λ e. refl, λ e. absurd (cc))
tail_stays (b ∷ bs) =
    let rest = tail_stays bs in
    elim (b == 32) as (λ t. (b == 32) ≡ t → (cond t (cond false false (stays true bs)) (stays false bs) ≡ true → cond t (tail true bs) (b ∷ tail false bs) ≡ b ∷ bs) × (cond t (cond true false (stays true bs)) (stays false bs) ≡ true → cond t (tail true bs) (32 ∷ b ∷ tail false bs) ≡ 32 ∷ b ∷ bs)) [
      | true ↦ λ e. (λ h. rest.1 h ∙ ap (λ c. c ∷ bs) (sym (eqb-true b 32 e)), λ h. absurd (cc))
      | false ↦ λ e. (λ h. ap (λ l. b ∷ l) (rest.0 h), λ h. ap (λ l. 32 ∷ b ∷ l) (rest.0 h))
    ] refl

pub tidied_stays : (bs : List ℕ) → stays true bs ≡ true → without_extra_spaces bs ≡ bs
tidied_stays [] e = absurd (cc)
tidied_stays (b ∷ bs) e = without_extra_spaces-tail (b ∷ bs) ∙ by (b == 32) refl e
  where
    by : (t : Bool) → (b == 32) ≡ t → cond t false (stays false bs) ≡ true → tail false (cond t (without_leading_spaces bs) (b ∷ bs)) ≡ b ∷ bs
    by true q h = absurd (cc)
    by false q h = (tail_stays (b ∷ bs)).0 (ap (λ t. cond t (stays true bs) (stays false bs)) q ∙ h)

-- a text without any space is tidy
no_space-stays : (bs : List ℕ) → list_any (λ b. b == 32) bs ≡ false → stays false bs ≡ true
no_space-stays [] e = refl
no_space-stays (b ∷ bs) e = by (b == 32) refl e (no_space-stays bs)
  where
    by : (t : Bool) → (b == 32) ≡ t → (t || list_any (λ b. b == 32) bs) ≡ false → (list_any (λ b. b == 32) bs ≡ false → stays false bs ≡ true) → cond t (stays true bs) (stays false bs) ≡ true
    by true q h rest = absurd (cc)
    by false q h rest = rest h

pub no_space-tidy : (bs : List ℕ) → list_any (λ b. b == 32) bs ≡ false → without_extra_spaces bs ≡ bs
no_space-tidy [] e = refl
no_space-tidy (b ∷ bs) e = tidied_stays (b ∷ bs) (by (b == 32) refl e)
  where
    by : (t : Bool) → (b == 32) ≡ t → (t || list_any (λ b. b == 32) bs) ≡ false → cond t false (stays false bs) ≡ true
    by true q h = absurd (cc)
    by false q h = no_space-stays bs h

-- ---- the ends

pub front_space : (b : ℕ) (bs : List ℕ) → b ≡ 32 → without_leading_spaces (b ∷ bs) ≡ without_leading_spaces bs
front_space b bs e = ap (λ c. without_leading_spaces (c ∷ bs)) e

pub front_other : (b : ℕ) (bs : List ℕ) → (b == 32) ≡ false → without_leading_spaces (b ∷ bs) ≡ b ∷ bs
front_other b bs e = ap (λ t. cond t (without_leading_spaces bs) (b ∷ bs)) e

pub end_space : (bs : List ℕ) → without_trailing_spaces (bs ++ 32 ∷ []) ≡ without_trailing_spaces bs
end_space [] = refl
end_space (b ∷ bs) = ap (λ l. cond (b == 32 && length l == 0) [] (b ∷ l)) (end_space bs)

some : (bs : List ℕ) (c : ℕ) → (length (bs ++ c ∷ []) == 0) ≡ false
some [] c = eqb-suc-zero 0
some (b ∷ bs) c = eqb-suc-zero (length (bs ++ c ∷ []))

never : (t : Bool) → (t && false) ≡ false
never true = refl
never false = refl

pub end_other : (bs : List ℕ) (c : ℕ) → (c == 32) ≡ false → without_trailing_spaces (bs ++ c ∷ []) ≡ bs ++ c ∷ []
end_other [] c e = ap (λ t. cond (t && true) [] (c ∷ [])) e
end_other (b ∷ bs) c e =
    ap (λ l. cond (b == 32 && length l == 0) [] (b ∷ l)) (end_other bs c e)
    ∙ ap (λ t. cond (b == 32 && t) [] (b ∷ bs ++ c ∷ [])) (some bs c)
    ∙ ap (λ t. cond t [] (b ∷ bs ++ c ∷ [])) (never (b == 32))

last : (text : List ℕ) (end : ℕ) → 0 < end → end ≤ length text → take end text ≡ take (end - 1) text ++ get_or text (end - 1) 0 ∷ []
last text end p h = let one : (end - 1) + 1 ≡ end = omega arith in ap (λ n. take n text) (sym one) ∙ take_more text (end - 1) 0 (omega arith)

-- a step of a loop from the end
pub end_falls : (text : List ℕ) (end : ℕ) → 0 < end → end ≤ length text → get_or text (end - 1) 0 ≡ 32 → without_trailing_spaces (take end text) ≡ without_trailing_spaces (take (end - 1) text)
end_falls text end p h e = ap without_trailing_spaces (last text end p h ∙ ap (λ c. take (end - 1) text ++ c ∷ []) e) ∙ end_space (take (end - 1) text)

pub end_stays : (text : List ℕ) (end : ℕ) → 0 < end → end ≤ length text → (get_or text (end - 1) 0 ≡ 32 → ⊥) → without_trailing_spaces (take end text) ≡ take end text
end_stays text end p h e =
    ap without_trailing_spaces (last text end p h) ∙ end_other (take (end - 1) text) (get_or text (end - 1) 0) (ne_eqb (get_or text (end - 1) 0) 32 e) ∙ sym (last text end p h)
