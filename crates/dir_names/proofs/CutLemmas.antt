-- A text split at its first separator, and the parts that this leaves.
use Rattle.std.proofs.Common.{◌≡◌, ℕ, ◌+◌, ◌≤◌, Bool, true, false, cond, List, [], ◌∷◌, length, take, drop, Some, None, refl, ap, sym, ◌∙◌, arith}
use Rattle.std.specs.Prelude.{◌==◌, nat_lt}
use Rattle.std.specs.List.{position, position_or_len, before_first, after_first}
use Rattle.std.proofs.lemmas.List.Splits.{slice_split_first, slice_split_none}
use Rattle.std.proofs.lemmas.List.Sums.{fails_before_first, prefix_len-le-length}
use Rattle.std.proofs.Math.Seq.{take-length}
use Rattle.std.proofs.lemmas.List.{take_all}
use Rattle.std.proofs.lemmas.Bool.{ltb-true, ltb-false}
use Rattle.dir_names.specs.Cut.{parts_at, after_first_separator}
use Rattle.dir_names.specs.Inside.Left.{parts_left}

-- the parts are the one before the first separator, and those of what follows it
pub parts-cut : (separator : ℕ) (text : List ℕ) → parts_at separator text ≡ before_first (λ b. b == separator) text ∷ parts_left separator (after_first_separator separator text)
parts-cut separator text = by (nat_lt at (length text)) refl
  where
    at : ℕ
    at = position_or_len (λ b. b == separator) text

    by : (b : Bool) → nat_lt at (length text) ≡ b → parts_at separator text ≡ before_first (λ b. b == separator) text ∷ parts_left separator (cond b (Some (after_first (λ b. b == separator) text)) None)
    by true e = slice_split_first (λ b. b == separator) text 0 (ltb-true _ _ e)
    by false e =
        let past : length text ≤ at = ltb-false _ _ e in
        let most : at ≤ length text = prefix_len-le-length _ text in
        let whole : at ≡ length text = omega arith in
        slice_split_none (λ b. b == separator) text (λ k d h. fails_before_first (λ b. b == separator) text k d (omega arith))
        ∙ ap (λ t. t ∷ []) (sym (take-length text) ∙ ap (λ n. take n text) (sym whole))

inside : (b : Bool) (n i : ℕ) → cond b (Some n) None ≡ Some i → (b ≡ true) × (n ≡ i)
inside true n i e = (refl, cc)
inside false n i e = absurd (cc)

outside : (b : Bool) (n : ℕ) → cond b (Some n) None ≡ None → b ≡ false
outside true n e = absurd (cc)
outside false n e = refl

module _ (separator : ℕ) (text : List ℕ) where
  at_first : (i : ℕ) → Some i ≡ position (λ b. b == separator) text → (nat_lt (position_or_len (λ b. b == separator) text) (length text) ≡ true) × (position_or_len (λ b. b == separator) text ≡ i)
  at_first i e = inside _ _ i (sym e)

  pub before_found : (i : ℕ) → Some i ≡ position (λ b. b == separator) text → take i text ≡ before_first (λ b. b == separator) text
  before_found i e = ap (λ n. take n text) (sym (at_first i e).1)

  pub behind_found : (i : ℕ) → Some i ≡ position (λ b. b == separator) text → Some (drop (i + 1) text) ≡ after_first_separator separator text
  behind_found i e =
      ap (λ n. Some (drop (n + 1) text)) (sym (at_first i e).1)
      ∙ ap (λ b. cond b (Some (after_first (λ b. b == separator) text)) None) (sym (at_first i e).0)

  pub behind_none : None ≡ position (λ b. b == separator) text → None ≡ after_first_separator separator text
  behind_none e = ap (λ b. cond b (Some (after_first (λ b. b == separator) text)) None) (sym (outside _ (position_or_len (λ b. b == separator) text) (sym e)))

  pub before_none : None ≡ position (λ b. b == separator) text → text ≡ before_first (λ b. b == separator) text
  before_none e =
      let past : length text ≤ position_or_len (λ b. b == separator) text = ltb-false _ _ (outside _ (position_or_len (λ b. b == separator) text) (sym e)) in
      sym (take_all (position_or_len (λ b. b == separator) text) text past)

  pub parts_found : (i : ℕ) → Some i ≡ position (λ b. b == separator) text → parts_at separator text ≡ take i text ∷ parts_at separator (drop (i + 1) text)
  parts_found i e = parts-cut separator text ∙ (λ j. sym (before_found i e) j ∷ parts_left separator (sym (behind_found i e) j))

  pub parts_none : None ≡ position (λ b. b == separator) text → parts_at separator text ≡ text ∷ []
  parts_none e = parts-cut separator text ∙ (λ j. sym (before_none e) j ∷ parts_left separator (sym (behind_none e) j))
