-- A text with one space for each run of spaces, written in one pass.
--     single after bs      what is written of bs, after a space or not
use Rattle.std.proofs.Common.{◌≡◌, ℕ, Bool, true, false, cond, List, [], ◌∷◌, ◌++◌, refl, sym, ap, ◌∙◌}
use Rattle.std.specs.Prelude.{◌==◌, ◌&&◌}
use Rattle.std.proofs.lemmas.Bool.{eqb-true}
use Rattle.dir_names.specs.ValueKeys.Spaces.{begins_with_space, with_single_spaces}

abbrev pub single : Bool → List ℕ → List ℕ
single after [] = []
single after (b ∷ bs) = cond (b == 32 && after) [] (b ∷ []) ++ single (b == 32) bs

-- without a space before the text; and with one, which is written
both : (bs : List ℕ) → (single false bs ≡ with_single_spaces bs) × (32 ∷ single true bs ≡ with_single_spaces (32 ∷ bs))
both [] = (refl, refl)
both (b ∷ bs) = by (both bs) (b == 32) refl
  where
    by : (single false bs ≡ with_single_spaces bs) × (32 ∷ single true bs ≡ with_single_spaces (32 ∷ bs)) → (t : Bool) → (b == 32) ≡ t → (single false (b ∷ bs) ≡ with_single_spaces (b ∷ bs)) × (32 ∷ single true (b ∷ bs) ≡ with_single_spaces (32 ∷ b ∷ bs))
    by rest true e =
        let s = rest.1 ∙ ap (λ c. with_single_spaces (c ∷ bs)) (sym (eqb-true b 32 e)) in (
          ap (λ t. cond (t && false) [] (b ∷ []) ++ single t bs) e ∙ ap (λ c. c ∷ single true bs) (eqb-true b 32 e) ∙ s,
          ap (λ t. 32 ∷ (cond (t && true) [] (b ∷ []) ++ single t bs)) e ∙ s ∙ sym (ap (λ t. cond t (with_single_spaces (b ∷ bs)) (32 ∷ with_single_spaces (b ∷ bs))) e),
        )
    by rest false e =
        let plain : with_single_spaces (b ∷ bs) ≡ b ∷ with_single_spaces bs = ap (λ t. cond (t && begins_with_space bs) (with_single_spaces bs) (b ∷ with_single_spaces bs)) e in (
          ap (λ t. cond (t && false) [] (b ∷ []) ++ single t bs) e ∙ ap (λ l. b ∷ l) rest.0 ∙ sym plain,
          ap (λ t. 32 ∷ (cond (t && true) [] (b ∷ []) ++ single t bs)) e ∙ ap (λ l. 32 ∷ b ∷ l) rest.0 ∙ ap (λ l. 32 ∷ l) (sym plain) ∙ sym (ap (λ t. cond t (with_single_spaces (b ∷ bs)) (32 ∷ with_single_spaces (b ∷ bs))) e),
        )

pub single-none : (bs : List ℕ) → single false bs ≡ with_single_spaces bs
single-none bs = (both bs).0
