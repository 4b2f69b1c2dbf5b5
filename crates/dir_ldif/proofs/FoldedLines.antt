-- A folded line reads back as one logical line.
use Rattle.std.proofs.Common.{◌≡◌, ℕ, zero, suc, ◌+◌, Bool, true, false, not, ◌||◌, eqb, List, [], ◌∷◌, ◌++◌, refl, sym, ap, ◌∙◌, append_assoc, append-nil}
use Rattle.std.specs.List.{list_any}
use Rattle.dir_ldif.specs.Bytes.{begins_with, without_last, is_line_break}
use Rattle.dir_ldif.specs.LogicalLines.{cut, is_lf, logical_lines, physical_lines, with_first_line}
use Rattle.dir_ldif.specs.LineText.{fold_from, folded_line}
use Rattle.dir_ldif.proofs.LogicalLineLemmas.{with_first_line-continued, logical_lines-apart}

-- ---- tests

pub or_first : (v w : Bool) → (v || w) ≡ false → v ≡ false
or_first true w e = cc
or_first false w e = refl

pub or_second : (v w : Bool) → (v || w) ≡ false → w ≡ false
or_second true w e = cc
or_second false w e = e

pub no_lf : (xs : List ℕ) → list_any is_line_break xs ≡ false → list_any is_lf xs ≡ false
no_lf [] e = refl
no_lf (x ∷ xs) e =
    let here : eqb x 10 ≡ false = or_first (eqb x 10) (eqb x 13) (or_first (is_line_break x) (list_any is_line_break xs) e) in
    rw (here, no_lf xs (or_second (is_line_break x) (list_any is_line_break xs) e)) refl

pub without_last-lacks : (xs : List ℕ) → list_any is_line_break xs ≡ false → without_last 13 xs ≡ xs
without_last-lacks [] e = refl
without_last-lacks (x ∷ []) e =
    let here : eqb x 13 ≡ false = or_second (eqb x 10) (eqb x 13) (or_first (is_line_break x) false e) in
    rw here refl
without_last-lacks (x ∷ y ∷ ys) e = ap (λ t. x ∷ t) (without_last-lacks (y ∷ ys) (or_second (is_line_break x) (list_any is_line_break (y ∷ ys)) e))

-- ---- the physical lines of a folded line

unfoldable pub front : ℕ → List ℕ → List ℕ
front room [] = []
front zero (b ∷ bs) = []
front (suc room) (b ∷ bs) = b ∷ front room bs

unfoldable pub more : ℕ → List ℕ → List (List ℕ)
more room [] = []
more zero (b ∷ bs) = (32 ∷ b ∷ front 74 bs) ∷ more 74 bs
more (suc room) (b ∷ bs) = more room bs

pub front-lacks : (room : ℕ) (xs : List ℕ) → list_any is_line_break xs ≡ false → list_any is_line_break (front room xs) ≡ false
unfolding front
front-lacks room [] e = refl
front-lacks zero (x ∷ xs) e = refl
front-lacks (suc room) (x ∷ xs) e =
    let here : is_line_break x ≡ false = or_first (is_line_break x) (list_any is_line_break xs) e in
    let rest = front-lacks room xs (or_second (is_line_break x) (list_any is_line_break xs) e) in
    rw (here, rest) refl

pub cut-folded_line : (room : ℕ) (line rest : List ℕ) → list_any is_line_break line ≡ false → cut is_lf (fold_from room line ++ rest) ≡ front room line ∷ (more room line ++ cut is_lf rest)
unfolding fold_from front more
cut-folded_line room [] rest e = refl
cut-folded_line zero (b ∷ bs) rest e =
    let here : eqb b 10 ≡ false = or_first (eqb b 10) (eqb b 13) (or_first (is_line_break b) (list_any is_line_break bs) e) in
    let ih = cut-folded_line 74 bs rest (or_second (is_line_break b) (list_any is_line_break bs) e) in
    rw (here, ih) refl
cut-folded_line (suc room) (b ∷ bs) rest e =
    let here : eqb b 10 ≡ false = or_first (eqb b 10) (eqb b 13) (or_first (is_line_break b) (list_any is_line_break bs) e) in
    let ih = cut-folded_line room bs rest (or_second (is_line_break b) (list_any is_line_break bs) e) in
    rw (here, ih) refl

-- the first of the physical lines continues nothing
abbrev pub apart : List (List ℕ) → Bool
apart [] = true
apart (line ∷ lines) = not (begins_with 32 (without_last 13 line))

not_true : (v : Bool) → not v ≡ true → v ≡ false
not_true true e = cc
not_true false e = refl

pub closed : (k : ℕ) (text : List ℕ) (n : ℕ) (lines : List (List ℕ)) → apart lines ≡ true → logical_lines ((k, text) ∷ physical_lines n lines) ≡ (k, text) ∷ logical_lines (physical_lines n lines)
closed k text n [] e = refl
closed k text n (line ∷ lines) e = logical_lines-apart (k, text) n (without_last 13 line) (physical_lines (n + 1) lines) (not_true (begins_with 32 (without_last 13 line)) e)

-- the continuations of a line that has begun
refold : (room : ℕ) (line : List ℕ) (k n c : ℕ) (pre : List ℕ) (lines : List (List ℕ)) → list_any is_line_break line ≡ false → apart lines ≡ true
    → (m : ℕ) × (logical_lines ((k, (c ∷ pre) ++ front room line) ∷ physical_lines n (more room line ++ lines)) ≡ (k, (c ∷ pre) ++ line) ∷ logical_lines (physical_lines m lines))
unfolding front more
refold room [] k n c pre lines e a = (n, closed k ((c ∷ pre) ++ []) n lines a)
refold zero (b ∷ bs) k n c pre lines e a =
    let clean : list_any is_line_break bs ≡ false = or_second (is_line_break b) (list_any is_line_break bs) e in
    let here : is_line_break b ≡ false = or_first (is_line_break b) (list_any is_line_break bs) e in
    let chunk : without_last 13 (32 ∷ b ∷ front 74 bs) ≡ 32 ∷ b ∷ front 74 bs =
    without_last-lacks (32 ∷ b ∷ front 74 bs) (rw (here, front-lacks 74 bs clean) refl) in
    let ih = refold 74 bs k (n + 1) c (pre ++ b ∷ []) lines clean a in
    let after = logical_lines (physical_lines (n + 1) (more 74 bs ++ lines)) in
    let grown : c ∷ (pre ++ []) ++ (b ∷ front 74 bs) ≡ c ∷ (pre ++ b ∷ []) ++ front 74 bs =
    ap (λ t. c ∷ t) (ap (λ t. t ++ (b ∷ front 74 bs)) (append-nil pre) ∙ sym (append_assoc pre (b ∷ []) (front 74 bs))) in
    let whole : c ∷ (pre ++ b ∷ []) ++ bs ≡ c ∷ (pre ++ (b ∷ bs)) = ap (λ t. c ∷ t) (append_assoc pre (b ∷ []) bs) in (
      ih.0,
      ap (λ t. with_first_line (k, c ∷ (pre ++ [])) (with_first_line (n, t) after)) chunk ∙ with_first_line-continued k c (pre ++ []) n (b ∷ front 74 bs) after ∙ ap (λ t. with_first_line (k, t) after) grown ∙ ih.1
          ∙ ap (λ t. (k, t) ∷ logical_lines (physical_lines ih.0 lines)) whole,
    )
refold (suc room) (b ∷ bs) k n c pre lines e a =
    let clean : list_any is_line_break bs ≡ false = or_second (is_line_break b) (list_any is_line_break bs) e in
    let ih = refold room bs k n c (pre ++ b ∷ []) lines clean a in
    let after = logical_lines (physical_lines n (more room bs ++ lines)) in
    let grown : c ∷ (pre ++ (b ∷ front room bs)) ≡ c ∷ (pre ++ b ∷ []) ++ front room bs = ap (λ t. c ∷ t) (sym (append_assoc pre (b ∷ []) (front room bs))) in
    let whole : c ∷ (pre ++ b ∷ []) ++ bs ≡ c ∷ (pre ++ (b ∷ bs)) = ap (λ t. c ∷ t) (append_assoc pre (b ∷ []) bs) in
    (ih.0, ap (λ t. with_first_line (k, t) after) grown ∙ ih.1 ∙ ap (λ t. (k, t) ∷ logical_lines (physical_lines ih.0 lines)) whole)

-- a written line is one line, whatever follows, if that continues nothing
pub line_reads : (c : ℕ) (bs rest : List ℕ) (n : ℕ) → list_any is_line_break (c ∷ bs) ≡ false → apart (cut is_lf rest) ≡ true
    → (m : ℕ) × (logical_lines (physical_lines n (cut is_lf (folded_line (c ∷ bs) ++ rest))) ≡ (n, c ∷ bs) ∷ logical_lines (physical_lines m (cut is_lf rest)))
unfolding front more
line_reads c bs rest n e a =
    let clean : list_any is_line_break bs ≡ false = or_second (is_line_break c) (list_any is_line_break bs) e in
    let first : without_last 13 (c ∷ front 75 bs) ≡ c ∷ front 75 bs = without_last-lacks (c ∷ front 75 bs) (front-lacks 76 (c ∷ bs) e) in
    let r = refold 75 bs n (n + 1) c [] (cut is_lf rest) clean a in (
      r.0,
      ap (λ t. logical_lines (physical_lines n t)) (cut-folded_line 76 (c ∷ bs) rest e) ∙ ap (λ t. with_first_line (n, t) (logical_lines (physical_lines (n + 1) (more 75 bs ++ cut is_lf rest)))) first ∙ r.1,
    )
