-- The physical lines of a written line: how long they are.
use Rattle.std.proofs.Common.{◌≡◌, ℕ, zero, suc, ◌≤◌, All, List, [], ◌∷◌, ◌++◌, length, refl, sym, ap, ◌∙◌, ◌⊎◌, inl, inr, ⊎_elim, append-nil, arith}
use Rattle.std.proofs.lemmas.List.Elements.{All-cons, All-nil}
use Rattle.dir_ldif.specs.LogicalLines.{cut, is_lf}
use Rattle.dir_ldif.specs.LineText.{IsContinuation, WrittenLinesAreFolded, fold_from, line_of, written_line}
use Rattle.dir_ldif.proofs.FoldedLines.{front, more, cut-folded_line}
use Rattle.dir_ldif.proofs.WrittenLines.{line-clean}

-- no further line, since there was room for all
abbrev Fits : ℕ → List ℕ → Type 0
Fits room line = (more room line ≡ []) × (length (front room line) ≤ room)

-- further lines, all but the last with 75 bytes
abbrev GoesOn : ℕ → List ℕ → Type 0
GoesOn room line =
    (middle : List (List ℕ)) × (last : List ℕ) × (n : ℕ) × (more room line ≡ middle ++ last ∷ []) × (length (front room line) ≡ room)
    × All (IsContinuation 75) middle × IsContinuation n last × (1 ≤ n) × (n ≤ 75)

shape : (room : ℕ) (line : List ℕ) → Fits room line ⊎ GoesOn room line
unfolding front more
shape room [] = inl (refl, omega arith)
shape zero (b ∷ bs) =
    let chunk = 32 ∷ b ∷ front 74 bs in
    inr (⊎_elim
    (λ (fits : Fits 74 bs).
    let long : length (b ∷ front 74 bs) ≤ 75 = omega (arith, fits.1) in
    let some : 1 ≤ length (b ∷ front 74 bs) = omega arith in
    ([], chunk, length (b ∷ front 74 bs), ap (λ t. chunk ∷ t) fits.0, refl, All-nil (IsContinuation 75), (b ∷ front 74 bs, refl, refl), some, long))
    (λ (on : GoesOn 74 bs).
    let full : length (b ∷ front 74 bs) ≡ 75 = omega (arith, on.4) in
    (chunk ∷ on.0, on.1, on.2, ap (λ t. chunk ∷ t) on.3, refl, All-cons (IsContinuation 75) chunk on.0 (b ∷ front 74 bs, refl, full) on.5, on.6, on.7, on.8))
    (shape 74 bs))
shape (suc room) (b ∷ bs) =
    ⊎_elim
    (λ (fits : Fits room bs). inl (fits.0, omega (arith, fits.1)))
    (λ (on : GoesOn room bs). inr (on.0, on.1, on.2, on.3, ap suc on.4, on.5, on.6, on.7, on.8))
    (shape room bs)

pub lines-folded : WrittenLinesAreFolded
lines-folded name value clean =
    let line = line_of name value in
    let lines : cut is_lf (written_line name value) ≡ front 76 line ∷ more 76 line =
    ap (cut is_lf) (sym (append-nil (fold_from 76 line))) ∙ cut-folded_line 76 line [] (line-clean name value clean) ∙ ap (λ t. front 76 line ∷ t) (append-nil (more 76 line)) in
    ⊎_elim
    (λ (fits : Fits 76 line). inl (front 76 line, lines ∙ ap (λ t. front 76 line ∷ t) fits.0, fits.1))
    (λ (on : GoesOn 76 line). inr (front 76 line, on.0, on.1, on.2, lines ∙ ap (λ t. front 76 line ∷ t) on.3, on.4, on.5, on.6, on.7, on.8))
    (shape 76 line)
