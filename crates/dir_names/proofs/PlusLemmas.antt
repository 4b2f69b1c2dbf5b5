-- A text without a plus sign is one piece.
use Rattle.std.proofs.Common.{◌≡◌, ℕ, Bool, true, false, cond, not, List, [], ◌∷◌, refl, ap, ◌∙◌}
use Rattle.std.specs.Prelude.{◌==◌, ◌&&◌, ◌||◌}
use Rattle.std.specs.List.{list_any, onto_first}
use Rattle.dir_names.specs.Names.Reading.{pieces}

never : (t : Bool) → (t && false) ≡ false
never true = refl
never false = refl

pub no_plus : (bs : List ℕ) (escaped : Bool) → list_any (λ b. b == 43) bs ≡ false → pieces 43 escaped bs ≡ bs ∷ []
no_plus [] escaped e = refl
no_plus (b ∷ bs) escaped e = by (b == 43) refl e (no_plus bs (not escaped && b == 92))
  where
    by : (t : Bool) → (b == 43) ≡ t → (t || list_any (λ c. c == 43) bs) ≡ false → (list_any (λ c. c == 43) bs ≡ false → pieces 43 (not escaped && b == 92) bs ≡ bs ∷ []) → pieces 43 escaped (b ∷ bs) ≡ (b ∷ bs) ∷ []
    by true q h rest = absurd (cc)
    by false q h rest =
        ap (λ t. cond (not escaped && t) ([] ∷ pieces 43 false bs) (onto_first b (pieces 43 (not escaped && b == 92) bs))) q
        ∙ ap (λ t. cond t ([] ∷ pieces 43 false bs) (onto_first b (pieces 43 (not escaped && b == 92) bs))) (never (not escaped))
        ∙ ap (onto_first b) (rest h)
