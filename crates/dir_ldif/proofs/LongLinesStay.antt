-- A line that is too long stays so, whatever text follows.
use Rattle.std.proofs.Common.{◌≡◌, ℕ, ◌+◌, ◌≤◌, Bool, true, false, ◌||◌, List, [], ◌∷◌, ◌++◌, length, drop, refl, sym, ap, subst, ◌⊎◌, inl, inr, ⊎_elim, ◌∙◌, append-nil, length-append, arith, eqb}
use Rattle.std.specs.List.{list_any, onto_first}
use Rattle.std.proofs.lemmas.Bool.Decides.{nat_tests}
use Rattle.dir_ldif.specs.Bytes.{is_empty, begins_with, without_last}
use Rattle.dir_ldif.specs.LogicalLines.{Line, cut, is_lf, is_long, logical_lines, physical_lines, with_first_line}
use Rattle.dir_ldif.specs.BlocksAtOnce.{LongLinesStay}
use Rattle.dir_ldif.proofs.BytesLemmas.{true_or_false}
use Rattle.dir_ldif.proofs.LogicalLineLemmas.{with_first_line-first, logical_lines-apart, logical_lines-continued, length-without_last, begins_with-without_last, some_of_begins}
use Rattle.dir_ldif.proofs.NoLongLine.{length-drop_space}

-- ---- the pieces of a text, and of one that begins with it: all but the last are the same, and the last goes on

abbrev PiecesGrow : List (List ℕ) → List (List ℕ) → Type 0
PiecesGrow [] qs = Unit {0}
PiecesGrow (p ∷ []) [] = ⊥
PiecesGrow (p ∷ []) (q ∷ qs) = (more : List ℕ) × (q ≡ p ++ more)
PiecesGrow (p ∷ r ∷ ps) [] = ⊥
PiecesGrow (p ∷ r ∷ ps) (q ∷ qs) = (p ≡ q) × PiecesGrow (r ∷ ps) qs

continue_partly-same : (p : List ℕ) (ps qs : List (List ℕ)) → PiecesGrow ps qs → PiecesGrow (p ∷ ps) (p ∷ qs)
continue_partly-same p [] qs h = ([], sym (append-nil p))
continue_partly-same p (r ∷ ps) qs h = (refl, h)

continue_partly-onto : (x : ℕ) (ps qs : List (List ℕ)) → PiecesGrow ps qs → PiecesGrow (onto_first x ps) (onto_first x qs)
continue_partly-onto x [] [] h = ([], refl)
continue_partly-onto x [] (q ∷ qs) h = (q, refl)
continue_partly-onto x (p ∷ []) [] h = absurd h
continue_partly-onto x (p ∷ []) (q ∷ qs) h = (h.0, ap (λ t. x ∷ t) h.1)
continue_partly-onto x (p ∷ r ∷ ps) [] h = absurd h
continue_partly-onto x (p ∷ r ∷ ps) (q ∷ qs) h = (ap (λ t. x ∷ t) h.0, h.1)

cut-grows : (text more : List ℕ) → PiecesGrow (cut is_lf text) (cut is_lf (text ++ more))
cut-grows [] more = tt
cut-grows (x ∷ xs) more =
    ⊎_elim
    (λ (yes : eqb x 10 ≡ true). rw yes (continue_partly-same [] (cut is_lf xs) (cut is_lf (xs ++ more)) (cut-grows xs more)))
    (λ (other : eqb x 10 ≡ false). rw other (continue_partly-onto x (cut is_lf xs) (cut is_lf (xs ++ more)) (cut-grows xs more)))
    (true_or_false (eqb x 10))

-- ---- the same of lines

abbrev IsLonger : List ℕ → List ℕ → Type 0
IsLonger s t = (length s ≤ length t) × (begins_with 32 s ≡ true → begins_with 32 t ≡ true)

abbrev LinesGrow : List Line → List Line → Type 0
LinesGrow [] ms = Unit {0}
LinesGrow (l ∷ []) [] = ⊥
LinesGrow (l ∷ []) (m ∷ ms) = IsLonger l.1 m.1
LinesGrow (l ∷ k ∷ ls) [] = ⊥
LinesGrow (l ∷ k ∷ ls) (m ∷ ms) = (l ≡ m) × LinesGrow (k ∷ ls) ms

longer : (p more : List ℕ) → IsLonger (without_last 13 p) (without_last 13 (p ++ more))
longer p more =
    (length-without_last p more, λ space. begins_with-without_last 32 p more (some_of_begins 32 (without_last 13 p) space) ∙ space)

physical_lines-grows : (n : ℕ) (ps qs : List (List ℕ)) → PiecesGrow ps qs → LinesGrow (physical_lines n ps) (physical_lines n qs)
physical_lines-grows n [] qs h = tt
physical_lines-grows n (p ∷ []) [] h = absurd h
physical_lines-grows n (p ∷ []) (q ∷ qs) h = subst (λ t. IsLonger (without_last 13 p) (without_last 13 t)) (sym h.1) (longer p h.0)
physical_lines-grows n (p ∷ r ∷ ps) [] h = absurd h
physical_lines-grows n (p ∷ r ∷ ps) (q ∷ qs) h = (ap (λ t. (n, without_last 13 t)) h.0, physical_lines-grows (n + 1) (r ∷ ps) qs h.1)

-- ---- a line that is too long

abbrev HasLong : List Line → Type 0
HasLong lines = list_any is_long lines ≡ true

or_first : (v w : Bool) → v ≡ true → (v || w) ≡ true
or_first v w e = rw e refl

or_second : (v w : Bool) → w ≡ true → (v || w) ≡ true
or_second true w e = refl
or_second false w e = e

one_of : (v w : Bool) → (v || w) ≡ true → (v ≡ true) ⊎ (w ≡ true)
one_of true w e = inl refl
one_of false w e = inr e

long_longer : (k n : ℕ) (s t : List ℕ) → length s ≤ length t → is_long (k, s) ≡ true → is_long (n, t) ≡ true
long_longer k n s t h e = grind (arith, nat_tests)

-- too long a line is still there, whatever follows it
stays : (last : Line) (lines : List Line) → is_long last ≡ true → HasLong (logical_lines (last ∷ lines))
stays last lines long =
    let f = with_first_line-first last.0 last.1 (logical_lines lines) in
    rw f.2 (or_first _ (list_any is_long f.1) (long_longer last.0 last.0 last.1 (last.1 ++ f.0) (omega (arith, length-append last.1 f.0)) long))

-- a line after the last one continues it, or begins a logical line
abbrev Apart : Line → Line → Type 0
Apart last next = (more : List Line) → logical_lines (last ∷ next ∷ more) ≡ last ∷ logical_lines (next ∷ more)

with_first_line-empty : (k : ℕ) (rest : List Line) → with_first_line (k, []) rest ≡ (k, []) ∷ rest
with_first_line-empty k [] = refl
with_first_line-empty k (next ∷ rest) = refl

apart_or_not : (last next : Line) → ((is_empty last.1 ≡ false) × (begins_with 32 next.1 ≡ true)) ⊎ Apart last next
apart_or_not (k, []) next = inr (λ more. with_first_line-empty k (logical_lines (next ∷ more)))
apart_or_not (k, a ∷ tail) (n, text) =
    ⊎_elim
    (λ (space : begins_with 32 text ≡ true). inl (refl, space))
    (λ (other : begins_with 32 text ≡ false). inr (λ more. logical_lines-apart (k, a ∷ tail) n text more other))
    (true_or_false (begins_with 32 text))

length_of_some : (text : List ℕ) → is_empty text ≡ false → 1 ≤ length text
length_of_some [] e = cc
length_of_some (x ∷ xs) e = omega arith

abbrev HasLongWith : Line → List Line → Type 0
HasLongWith last lines = HasLong (logical_lines (last ∷ lines))

-- the last line of all goes on
goes_on : (last : Line) (n m : ℕ) (s t : List ℕ) (ms : List Line) → IsLonger s t → HasLongWith last ((n, s) ∷ []) → HasLongWith last ((m, t) ∷ ms)
goes_on last n m s t ms g h =
    ⊎_elim
    (λ (both : (is_empty last.1 ≡ false) × (begins_with 32 s ≡ true)).
    let space = g.1 both.1 in
    let merged : HasLong (logical_lines ((last.0, last.1 ++ drop 1 s) ∷ [])) = subst HasLong (logical_lines-continued last n s [] both.0 both.1) h in
    let long : is_long (last.0, last.1 ++ drop 1 s) ≡ true = ⊎_elim (λ (e : is_long (last.0, last.1 ++ drop 1 s) ≡ true). e) (λ (e : false ≡ true). cc) (one_of _ false merged) in
    let more : length (last.1 ++ drop 1 s) ≤ length (last.1 ++ drop 1 t) = omega (arith, length-append last.1 (drop 1 s), length-append last.1 (drop 1 t), length-drop_space s both.1, length-drop_space t space, g.0) in
    subst HasLong (sym (logical_lines-continued last m t ms both.0 space)) (stays (last.0, last.1 ++ drop 1 t) ms (long_longer last.0 last.0 (last.1 ++ drop 1 s) (last.1 ++ drop 1 t) more long)))
    (λ (apart : Apart last (n, s)).
    let parts : (is_long last || list_any is_long ((n, s) ∷ [])) ≡ true = subst HasLong (apart []) h in
    ⊎_elim
    (λ (first : is_long last ≡ true). stays last ((m, t) ∷ ms) first)
    (λ (second : list_any is_long ((n, s) ∷ []) ≡ true).
    let long : is_long (n, s) ≡ true = ⊎_elim (λ (e : is_long (n, s) ≡ true). e) (λ (e : false ≡ true). cc) (one_of (is_long (n, s)) false second) in
    let longer_still : is_long (m, t) ≡ true = long_longer n m s t g.0 long in
    ⊎_elim
    (λ (both : (is_empty last.1 ≡ false) × (begins_with 32 t ≡ true)).
    let more : length t ≤ length (last.1 ++ drop 1 t) = omega (arith, length-append last.1 (drop 1 t), length-drop_space t both.1, length_of_some last.1 both.0) in
    subst HasLong (sym (logical_lines-continued last m t ms both.0 both.1)) (stays (last.0, last.1 ++ drop 1 t) ms (long_longer m last.0 t (last.1 ++ drop 1 t) more longer_still)))
    (λ (apart' : Apart last (m, t)). subst HasLong (sym (apart' ms)) (or_second (is_long last) _ (stays (m, t) ms longer_still)))
    (apart_or_not last (m, t)))
    (one_of (is_long last) _ parts))
    (apart_or_not last (n, s))

grows_with : (last : Line) (ls ms : List Line) → LinesGrow ls ms → HasLongWith last ls → HasLongWith last ms
grows_with last [] ms g h = stays last ms (⊎_elim (λ (e : is_long last ≡ true). e) (λ (e : false ≡ true). cc) (one_of (is_long last) false h))
grows_with last ((n, s) ∷ []) [] g h = absurd g
grows_with last ((n, s) ∷ []) ((m, t) ∷ ms) g h = goes_on last n m s t ms g h
grows_with last (l ∷ k ∷ ls) [] g h = absurd g
grows_with last ((n, s) ∷ k ∷ ls) (m ∷ ms) g h =
    subst (λ (line : Line). HasLongWith last (line ∷ ms)) g.0 (
    ⊎_elim
    (λ (both : (is_empty last.1 ≡ false) × (begins_with 32 s ≡ true)).
    subst HasLong (sym (logical_lines-continued last n s ms both.0 both.1)) (grows_with (last.0, last.1 ++ drop 1 s) (k ∷ ls) ms g.1 (subst HasLong (logical_lines-continued last n s (k ∷ ls) both.0 both.1) h)))
    (λ (apart : Apart last (n, s)).
    let parts : (is_long last || list_any is_long (logical_lines ((n, s) ∷ k ∷ ls))) ≡ true = subst HasLong (apart (k ∷ ls)) h in
    ⊎_elim
    (λ (first : is_long last ≡ true). stays last ((n, s) ∷ ms) first)
    (λ (second : HasLongWith (n, s) (k ∷ ls)). subst HasLong (sym (apart ms)) (or_second (is_long last) _ (grows_with (n, s) (k ∷ ls) ms g.1 second)))
    (one_of (is_long last) _ parts))
    (apart_or_not last (n, s)))

grows : (ls ms : List Line) → LinesGrow ls ms → HasLong (logical_lines ls) → HasLong (logical_lines ms)
grows [] ms g h = cc
grows ((n, s) ∷ []) [] g h = absurd g
grows ((n, s) ∷ []) ((m, t) ∷ ms) g h =
    let long : is_long (n, s) ≡ true = ⊎_elim (λ (e : is_long (n, s) ≡ true). e) (λ (e : false ≡ true). cc) (one_of (is_long (n, s)) false h) in
    stays (m, t) ms (long_longer n m s t g.0 long)
grows (l ∷ k ∷ ls) [] g h = absurd g
grows (l ∷ k ∷ ls) (m ∷ ms) g h = subst (λ (line : Line). HasLongWith line ms) g.0 (grows_with l (k ∷ ls) ms g.1 h)

pub long_lines-stay : LongLinesStay
long_lines-stay text more h = grows (physical_lines 1 (cut is_lf text)) (physical_lines 1 (cut is_lf (text ++ more))) (physical_lines-grows 1 (cut is_lf text) (cut is_lf (text ++ more)) (cut-grows text more)) h
