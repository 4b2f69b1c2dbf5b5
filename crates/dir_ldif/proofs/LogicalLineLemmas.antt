-- Lemmas on the logical lines of a text that comes in chunks.
use Rattle.std.proofs.Common.{◌≡◌, ℕ, ◌+◌, ◌<◌, ◌≤◌, Bool, true, false, not, ◌&&◌, eqb, List, [], ◌∷◌, ◌++◌, length, drop, refl, sym, ap, ⊎_elim, ◌∙◌, append_assoc, append-nil, length-append, if◌then◌else◌, nat_lt, subst, Option, Some, Result, Ok, Err, arith}
use Rattle.std.specs.List.{list_any, onto_first}
use Rattle.std.proofs.lemmas.Bool.{eqb-true}
use Rattle.std.proofs.lemmas.List.Folds.{list_any-append}
use Rattle.std.proofs.lemmas.Bool.Decides.{nat_tests}
use Rattle.dir_ldif.specs.declared.faults.StreamFault.{StreamFault}
use Rattle.dir_ldif.specs.declared.faults.StreamFault.TheVariants.{LineTooLong}
use Rattle.dir_ldif.specs.declared.reader.unfolder.Unfolder.{Unfolder}
use Rattle.dir_ldif.specs.Bytes.{is_empty, begins_with, without_last}
use Rattle.dir_ldif.specs.LogicalLines.{Line, cut, is_lf, is_long, logical_lines, physical_lines, with_first_line}
use Rattle.dir_ldif.specs.Remainder.{FailsAtOnce, Remainder, fails, remainder_from}
use Rattle.dir_ldif.specs.declared.reader.marks.Marks.{Marks}
use Rattle.dir_ldif.specs.Reader.Unfolding.{lines_after}
use Rattle.dir_ldif.specs.Inside.Unfolder.{TakesLine}
use Rattle.dir_ldif.specs.Inside.Bounds.{may_be_continued}
use Rattle.dir_ldif.proofs.BytesLemmas.{true_or_false}

-- the first physical line ends at the first LF
pub cut-line : (xs ys : List ℕ) → list_any is_lf xs ≡ false → cut is_lf (xs ++ 10 ∷ ys) ≡ xs ∷ cut is_lf ys
cut-line [] ys e = refl
cut-line (x ∷ xs) ys e =
    ⊎_elim
    (λ (yes : eqb x 10 ≡ true). let never : true ≡ false = rw yes at e in cc)
    (λ (no : eqb x 10 ≡ false). let rest : list_any is_lf xs ≡ false = rw no at e in rw (no, cut-line xs ys rest) refl)
    (true_or_false (eqb x 10))

-- an element goes onto the first piece, or begins one
pub onto : (x : ℕ) (pieces : List (List ℕ)) → (more : List ℕ) × (rest : List (List ℕ)) × (onto_first x pieces ≡ (x ∷ more) ∷ rest)
onto x [] = ([], [], refl)
onto x (piece ∷ pieces) = (piece, pieces, refl)

-- the first piece begins with what has no LF
pub cut-front : (x : ℕ) (xs ys : List ℕ) → list_any is_lf (x ∷ xs) ≡ false → (more : List ℕ) × (rest : List (List ℕ)) × (cut is_lf ((x ∷ xs) ++ ys) ≡ ((x ∷ xs) ++ more) ∷ rest)
cut-front x [] ys e =
    ⊎_elim
    (λ (yes : eqb x 10 ≡ true). let never : true ≡ false = rw yes at e in cc)
    (λ (no : eqb x 10 ≡ false). let o = onto x (cut is_lf ys) in (o.0, o.1, rw no o.2))
    (true_or_false (eqb x 10))
cut-front x (y ∷ xs) ys e =
    ⊎_elim
    (λ (yes : eqb x 10 ≡ true). let never : true ≡ false = rw yes at e in cc)
    (λ (no : eqb x 10 ≡ false).
    let rest : list_any is_lf (y ∷ xs) ≡ false = rw no at e in
    let ih = cut-front y xs ys rest in
    (ih.0, ih.1, rw no (ap (onto_first x) ih.2)))
    (true_or_false (eqb x 10))

-- a continuation of a line that is not empty
pub with_first_line-continued : (k a : ℕ) (tail : List ℕ) (n : ℕ) (cs : List ℕ) (rest : List Line) → with_first_line (k, a ∷ tail) (with_first_line (n, 32 ∷ cs) rest) ≡ with_first_line (k, (a ∷ tail) ++ cs) rest
with_first_line-continued k a tail n cs [] = refl
with_first_line-continued k a tail n cs (r ∷ rs) =
    ⊎_elim
    (λ (yes : begins_with 32 r.1 ≡ true). rw yes (ap (λ t. (k, a ∷ t) ∷ rs) (sym (append_assoc tail cs (drop 1 r.1)))))
    (λ (no : begins_with 32 r.1 ≡ false). rw no refl)
    (true_or_false (begins_with 32 r.1))

-- a line stays the first one, and grows at its end alone
pub with_first_line-first : (n : ℕ) (text : List ℕ) (rest : List Line) → (more : List ℕ) × (others : List Line) × (with_first_line (n, text) rest ≡ (n, text ++ more) ∷ others) × (is_empty text ≡ true → more ≡ [])
with_first_line-first n text [] = ([], [], ap (λ t. (n, t) ∷ []) (sym (append-nil text)), λ _. refl)
with_first_line-first n [] (r ∷ rs) = ([], r ∷ rs, refl, λ _. refl)
with_first_line-first n (c ∷ cs) (r ∷ rs) =
    ⊎_elim
    (λ (yes : begins_with 32 r.1 ≡ true). (drop 1 r.1, rs, rw yes refl, λ (e : false ≡ true). cc))
    (λ (no : begins_with 32 r.1 ≡ false). ([], r ∷ rs, rw no (ap (λ t. (n, c ∷ t) ∷ r ∷ rs) (sym (append-nil cs))), λ _. refl))
    (true_or_false (begins_with 32 r.1))

still : (n : ℕ) (text more : List ℕ) → begins_with 32 text ≡ false → (is_empty text ≡ true → more ≡ []) → begins_with 32 (text ++ more) ≡ false
still n [] more e h = rw (h refl) refl
still n (c ∷ cs) more e h = e

never : (v : Bool) (line : Line) (xs ys : List Line) → (if not v && false then xs else ys) ≡ ys
never true line xs ys = refl
never false line xs ys = refl

apart : (line : Line) (n : ℕ) (text : List ℕ) (rest : List Line) → begins_with 32 text ≡ false → with_first_line line ((n, text) ∷ rest) ≡ line ∷ (n, text) ∷ rest
apart line n text rest e = rw e (never (is_empty line.1) line ((line.0, line.1 ++ drop 1 text) ∷ rest) (line ∷ (n, text) ∷ rest))

-- a line that does not begin with a space continues none
pub with_first_line-apart : (line : Line) (n : ℕ) (text : List ℕ) (rest : List Line) → begins_with 32 text ≡ false → with_first_line line (with_first_line (n, text) rest) ≡ line ∷ with_first_line (n, text) rest
with_first_line-apart line n text rest e =
    let f = with_first_line-first n text rest in
    rw f.2 (apart line n (text ++ f.0) f.1 (still n text f.0 e f.3))

if_true : {A : Type 0} (v : Bool) (x y : A) → v ≡ true → (if v then x else y) ≡ x
if_true v x y e = rw e refl

-- a line that is too long ends the text, however it goes on
pub remainder_from-long : (m : Marks) → m.is_over ≡ false → (begun : Bool) (block : List Line) (n : ℕ) (text : List ℕ) (rest : List Line) → is_long (n, text) ≡ true → remainder_from m begun block (with_first_line (n, text) rest) ≡ fails LineTooLong
remainder_from-long m going begun block n text rest e =
    let f = with_first_line-first n text rest in
    let longer : nat_lt 2097152 (length (text ++ f.0)) ≡ true = grind (arith, nat_tests, length-append) in
    rw (f.2, going) (if_true _ _ _ longer)

-- the same of two lines
pub logical_lines-apart : (last : Line) (n : ℕ) (text : List ℕ) (more : List Line) → begins_with 32 text ≡ false → logical_lines (last ∷ (n, text) ∷ more) ≡ last ∷ logical_lines ((n, text) ∷ more)
logical_lines-apart last n text more e = with_first_line-apart last n text (logical_lines more) e

-- a fault of a line that is not continued ends the text whatever follows
pub FailsAtOnce-apart : (fault : StreamFault) (m : Marks) (begun : Bool) (block : List Line) (o : Option Line) (last : Line) (n : ℕ) (text : List ℕ) (more : List Line) → o ≡ Some last → begins_with 32 text ≡ false
    → ((after : List Line) → FailsAtOnce fault (remainder_from m begun block (last ∷ after))) → FailsAtOnce fault (remainder_from m begun block (lines_after o ((n, text) ∷ more)))
FailsAtOnce-apart fault m begun block o last n text more is e h =
    rw is (subst (λ t. FailsAtOnce fault (remainder_from m begun block t)) (sym (logical_lines-apart last n text more e)) (h (logical_lines ((n, text) ∷ more))))

-- a continuation was taken
pub TakesLine-continued : (m : Marks) (begun : Bool) (block : List Line) (o : Option Line) (last : Line) (n : ℕ) (text given : List ℕ) (r : Result Bool StreamFault) (j : Unfolder) → o ≡ Some last → given ≡ text
    → TakesLine (λ more. remainder_from m begun block (logical_lines (last ∷ (n, given) ∷ more))) r j → TakesLine (λ more. remainder_from m begun block (lines_after o ((n, text) ∷ more))) r j
TakesLine-continued m begun block o last n text given r j is same h = rw (is, sym same) h

-- a line and what continues it are one
pub logical_lines-continued : (last : Line) (n : ℕ) (text : List ℕ) (more : List Line) → is_empty last.1 ≡ false → begins_with 32 text ≡ true
    → logical_lines (last ∷ (n, text) ∷ more) ≡ logical_lines ((last.0, last.1 ++ drop 1 text) ∷ more)
logical_lines-continued (k, []) n text more some space = cc
logical_lines-continued (k, a ∷ tail) n [] more some space = cc
logical_lines-continued (k, a ∷ tail) n (c ∷ cs) more some space = rw (eqb-true c 32 space) (with_first_line-continued k a tail n cs (logical_lines more))

-- the blocks to come, written otherwise
pub TakesLine-same : (before before' : List Line → Remainder) (r : Result Bool StreamFault) (j : Unfolder) → ((more : List Line) → before more ≡ before' more) → TakesLine before' r j → TakesLine before r j
TakesLine-same before before' (Ok ends) j e h = λ more. e more ∙ h more
TakesLine-same before before' (Err fault) j e h = λ more. subst (FailsAtOnce fault) (sym (e more)) (h more)

some_of_long : (partial : List ℕ) → 2097152 < length (without_last 13 partial) → is_empty partial ≡ false
some_of_long [] long = absurd (omega arith)
some_of_long (x ∷ xs) long = refl

pub some_of_length : (xs : List ℕ) → 0 < length xs → is_empty xs ≡ false
some_of_length [] h = absurd (omega arith)
some_of_length (x ∷ xs) h = refl

pub ltb-of_lt : (a b : ℕ) → a < b → nat_lt a b ≡ true
ltb-of_lt a b h = grind (arith, nat_tests)

pub length-without_last : (xs ys : List ℕ) → length (without_last 13 xs) ≤ length (without_last 13 (xs ++ ys))
length-without_last [] ys = omega arith
length-without_last (x ∷ []) [] = omega arith
length-without_last (x ∷ []) (y ∷ ys) = ⊎_elim (λ (yes : eqb x 13 ≡ true). rw yes (omega arith)) (λ (other : eqb x 13 ≡ false). rw other (omega arith)) (true_or_false (eqb x 13))
length-without_last (x ∷ z ∷ zs) ys = let ih = length-without_last (z ∷ zs) ys in omega arith

pub begins_with-without_last : (b : ℕ) (xs ys : List ℕ) → is_empty (without_last 13 xs) ≡ false → begins_with b (without_last 13 (xs ++ ys)) ≡ begins_with b (without_last 13 xs)
begins_with-without_last b [] ys e = cc
begins_with-without_last b (x ∷ []) [] e = refl
begins_with-without_last b (x ∷ []) (y ∷ ys) e =
    ⊎_elim (λ (yes : eqb x 13 ≡ true). let never : true ≡ false = rw yes at e in cc) (λ (other : eqb x 13 ≡ false). rw other refl) (true_or_false (eqb x 13))
begins_with-without_last b (x ∷ z ∷ zs) ys e = refl

-- the first line of what begins with a line that has not ended
pub partial_first : (n : ℕ) (partial text : List ℕ) → list_any is_lf partial ≡ false → is_empty partial ≡ false
    → (more : List ℕ) × (rest : List Line) × (physical_lines n (cut is_lf (partial ++ text)) ≡ (n, without_last 13 (partial ++ more)) ∷ rest)
partial_first n [] text lacks some = cc
partial_first n (x ∷ xs) text lacks some = let f = cut-front x xs text lacks in (f.0, physical_lines (n + 1) f.1, rw f.2 refl)

-- where a line that has not ended is too long, it ends the text
pub long_alone : (m : Marks) → m.is_over ≡ false → (begun : Bool) (block : List Line) (n : ℕ) (partial text : List ℕ) → list_any is_lf partial ≡ false → 2097152 < length (without_last 13 partial)
    → remainder_from m begun block (logical_lines (physical_lines n (cut is_lf (partial ++ text)))) ≡ fails LineTooLong
long_alone m going begun block n partial text lacks long =
    let f = partial_first n partial text lacks (some_of_long partial long) in
    rw f.2 (remainder_from-long m going begun block n (without_last 13 (partial ++ f.0)) (logical_lines f.1) (ltb-of_lt _ _ (omega (arith, length-without_last partial f.0))))

pub some_of_begins : (b : ℕ) (xs : List ℕ) → begins_with b xs ≡ true → is_empty xs ≡ false
some_of_begins b [] e = cc
some_of_begins b (x ∷ xs) e = refl

pub glued_long : (m : Marks) → m.is_over ≡ false → (begun : Bool) (block : List Line) (k n : ℕ) (text next : List ℕ) (rest : List Line) → is_empty text ≡ false → begins_with 32 next ≡ true → 2097153 < length text + length next
    → remainder_from m begun block (with_first_line (k, text) (with_first_line (n, next) rest)) ≡ fails LineTooLong
glued_long m going begun block k n [] next rest some space long = cc
glued_long m going begun block k n (a ∷ tail) [] rest some space long = cc
glued_long m going begun block k n (a ∷ tail) (c ∷ cs) rest some space long =
    let whole : remainder_from m begun block (with_first_line (k, (a ∷ tail) ++ cs) rest) ≡ fails LineTooLong =
    remainder_from-long m going begun block k ((a ∷ tail) ++ cs) rest (ltb-of_lt _ _ (omega (arith, length-append (a ∷ tail) cs))) in
    rw (eqb-true c 32 space, with_first_line-continued k a tail n cs rest) whole

pub not_first : (v w : Bool) → (not v && w) ≡ true → v ≡ false
not_first true w e = cc
not_first false w e = refl

pub some_of_kept_line : (last : Line) → may_be_continued (Some last) ≡ true → is_empty last.1 ≡ false
some_of_kept_line last e = not_first (is_empty last.1) (not (is_long last)) e

pub not_second : (v w : Bool) → (v && not w) ≡ true → w ≡ false
not_second true true e = cc
not_second true false e = refl
not_second false w e = cc

-- ---- a physical line and its end

pub lacks-append : (xs ys : List ℕ) → list_any is_lf xs ≡ false → list_any is_lf ys ≡ false → list_any is_lf (xs ++ ys) ≡ false
lacks-append xs ys p q = list_any-append is_lf xs ys ∙ rw p q

-- a line that ends is the first one
pub line_first : (n : ℕ) (partial line rest : List ℕ) → list_any is_lf partial ≡ false → list_any is_lf line ≡ false
    → physical_lines n (cut is_lf (partial ++ (line ++ 10 ∷ rest))) ≡ (n, without_last 13 (partial ++ line)) ∷ physical_lines (n + 1) (cut is_lf rest)
line_first n partial line rest p q =
    rw (sym (append_assoc partial line (10 ∷ rest)), cut-line (partial ++ line) rest (lacks-append partial line p q)) refl

-- a line that has not ended is the only one where nothing follows
cut-whole : (x : ℕ) (xs : List ℕ) → list_any is_lf (x ∷ xs) ≡ false → cut is_lf (x ∷ xs) ≡ (x ∷ xs) ∷ []
cut-whole x [] e =
    ⊎_elim (λ (yes : eqb x 10 ≡ true). let never : true ≡ false = rw yes at e in cc) (λ (other : eqb x 10 ≡ false). rw other refl) (true_or_false (eqb x 10))
cut-whole x (y ∷ xs) e =
    ⊎_elim
    (λ (yes : eqb x 10 ≡ true). let never : true ≡ false = rw yes at e in cc)
    (λ (other : eqb x 10 ≡ false). let rest : list_any is_lf (y ∷ xs) ≡ false = rw other at e in rw other (ap (onto_first x) (cut-whole y xs rest)))
    (true_or_false (eqb x 10))

pub line_alone : (n : ℕ) (partial : List ℕ) → list_any is_lf partial ≡ false → is_empty partial ≡ false
    → physical_lines n (cut is_lf (partial ++ [])) ≡ (n, without_last 13 (partial ++ [])) ∷ []
line_alone n [] lacks some = cc
line_alone n (x ∷ xs) lacks some =
    let same = append-nil (x ∷ xs) in
    ap (λ t. physical_lines n (cut is_lf t)) same ∙ ap (physical_lines n) (cut-whole x xs lacks) ∙ ap (λ t. (n, without_last 13 t) ∷ []) (sym same)
