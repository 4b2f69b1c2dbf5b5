-- A text in which no line is too long does not end in that fault.
use Rattle.std.proofs.Common.{◌≡◌, ℕ, ◌+◌, ◌≤◌, Bool, true, false, ◌||◌, nat_le, List, [], ◌∷◌, ◌++◌, length, drop, refl, not, sym, subst, ⊎_elim, append-nil, if◌then◌else◌, length-append, Option, None, Some, Ok, Err, arith}
use Rattle.std.specs.List.{list_any}
use Rattle.std.proofs.lemmas.Bool.Decides.{nat_tests}
use Rattle.dir_ldif.specs.Remainder.{Remainder, after_marks, done, fails, remainder_from, then_rest}
use Rattle.dir_ldif.specs.Marks.{after_due, after_mark, may_have_records}
use Rattle.dir_ldif.specs.MarkText.{is_mark, mark_of}
use Rattle.std.specs.Str.{bytes_eq}
use Rattle.dir_ldif.specs.declared.reader.marks.Marks.{Marks}
use Rattle.dir_ldif.specs.declared.faults.StreamFault.TheVariants.{LineTooLong, BadVersion, BadMark}
use Rattle.dir_ldif.specs.declared.reader.unfolder.Unfolder.{Unfolder}
use Rattle.dir_ldif.specs.declared.reader.version.Version.{Version}
use Rattle.dir_ldif.specs.declared.reader.version.Version.TheVariants.{Absent, One, Other}
use Rattle.dir_ldif.specs.Bytes.{is_empty, begins_with, without_last}
use Rattle.dir_ldif.specs.LogicalLines.{Line, cut, is_comment, is_lf, is_long, logical_lines, physical_lines}
use Rattle.dir_ldif.specs.Inside.Bounds.{has_room, may_be_continued}
use Rattle.dir_ldif.specs.Blocks.{by_version, version_of}
use Rattle.dir_ldif.specs.Reader.Unfolding.{to_come, lines_after}
use Rattle.dir_ldif.proofs.BytesLemmas.{true_or_false}
use Rattle.dir_ldif.proofs.LogicalLineLemmas.{line_alone, not_second}

-- what is left is not that fault alone
abbrev Goes : Remainder → Type 0
Goes left = left ≡ fails LineTooLong → ⊥

then_goes : (block : List Line) (left : Remainder) → Goes left → Goes (then_rest block left)
then_goes [] left h = h
then_goes (line ∷ block) left h = λ e. cc

by_version_goes : (v : Version) (absent one : Remainder) → Goes absent → Goes one → Goes (by_version v absent one (fails BadVersion))
by_version_goes Absent absent one p q = p
by_version_goes One absent one p q = q
by_version_goes Other absent one p q = λ e. cc

either_goes : (v : Bool) (x y : Remainder) → Goes x → Goes y → Goes (if v then x else y)
either_goes true x y p q = p
either_goes false x y p q = q

marks_go : (o : Option ℕ) (m : Marks) (text : List ℕ) (rest : Marks → Remainder) → ((m : Marks) → Goes (rest m)) → Goes (after_marks rest (after_mark o m text))
marks_go None m text rest h = h m
marks_go (Some groups) m text rest h = by_mark (not (is_mark text)) (bytes_eq text (mark_of (m.passed + 1)))
  where
    by_mark : (v w : Bool) → Goes (after_marks rest (if v then Ok m else (if w then Ok (after_due groups m) else Err BadMark)))
    by_mark true w = h m
    by_mark false true = h (after_due groups m)
    by_mark false false = λ e. cc

pub neither : (v w : Bool) → (v || w) ≡ false → (v ≡ false) × (w ≡ false)
neither true w e = cc
neither false w e = (refl, e)

pub short_goes : (m : Marks) (begun : Bool) (block : List Line) (lines : List Line) → list_any is_long lines ≡ false → Goes (remainder_from m begun block lines)
short_goes m begun block [] short = then_goes block (done m.passed) (λ e. cc)
short_goes m begun block (line ∷ rest) short =
    let both = neither (is_long line) (list_any is_long rest) short in
    rw both.0 (either_goes m.is_over _ _ (λ e. cc) (either_goes (is_comment line) _ _
    (either_goes (is_empty block) _ _ (marks_go m.groups m line.1 _ (λ m'. short_goes m' begun [] rest both.1)) (short_goes m begun block rest both.1))
    (either_goes (is_empty line.1) _ _ (then_goes block _ (short_goes m begun [] rest both.1))
    (either_goes begun _ _
    (either_goes (may_have_records m) _ _ (short_goes m true (block ++ line ∷ []) rest both.1) (λ e. cc))
    (by_version_goes (version_of line.1) _ _ (either_goes (may_have_records m) _ _ (short_goes m true (block ++ line ∷ []) rest both.1) (λ e. cc)) (short_goes m true block rest both.1))))))

fits : (n : ℕ) (text : List ℕ) → length text ≤ 2097152 → is_long (n, text) ≡ false
fits n text h = grind (arith, nat_tests)

le_of_test : (a b : ℕ) → nat_le a b ≡ true → a ≤ b
le_of_test a b h = grind (arith, nat_tests)

none_of_two : (x y : Line) → is_long x ≡ false → is_long y ≡ false → list_any is_long (x ∷ y ∷ []) ≡ false
none_of_two x y p q = rw (p, q) refl

none_of_one : (x : Line) → is_long x ≡ false → list_any is_long (x ∷ []) ≡ false
none_of_one x p = rw p refl

pub length-drop_space : (text : List ℕ) → begins_with 32 text ≡ true → length (drop 1 text) + 1 ≡ length text
length-drop_space [] e = cc
length-drop_space (x ∷ xs) e = omega arith

-- the last line and a physical line after it
continued_short : (k n a : ℕ) (tail next : List ℕ) → begins_with 32 next ≡ true → length (a ∷ tail) + length next ≤ 2097153
    → list_any is_long (logical_lines ((k, a ∷ tail) ∷ (n, next) ∷ [])) ≡ false
continued_short k n a tail next space room =
    rw space (none_of_one (k, (a ∷ tail) ++ drop 1 next) (fits k ((a ∷ tail) ++ drop 1 next) (omega (arith, length-append (a ∷ tail) (drop 1 next), length-drop_space next space))))

apart_short : (k n a : ℕ) (tail next : List ℕ) → begins_with 32 next ≡ false → is_long (k, a ∷ tail) ≡ false → length next ≤ 2097152
    → list_any is_long (logical_lines ((k, a ∷ tail) ∷ (n, next) ∷ [])) ≡ false
apart_short k n a tail next space short room = rw space (none_of_two (k, a ∷ tail) (n, next) short (fits n next room))

two_short : (last : Line) (n : ℕ) (partial : List ℕ) → may_be_continued (Some last) ≡ true → has_room (Some last) partial ≡ true
    → list_any is_long (logical_lines (last ∷ (n, without_last 13 partial) ∷ [])) ≡ false
two_short (k, []) n partial kept room = cc
two_short (k, a ∷ tail) n partial kept room =
    let short : is_long (k, a ∷ tail) ≡ false = not_second true (is_long (k, a ∷ tail)) kept in
    ⊎_elim
    (λ (space : begins_with 32 (without_last 13 partial) ≡ true).
    let test : nat_le (length (a ∷ tail) + length (without_last 13 partial)) 2097153 ≡ true = rw space at room in
    continued_short k n a tail (without_last 13 partial) space (le_of_test _ _ test))
    (λ (other : begins_with 32 (without_last 13 partial) ≡ false).
    let test : nat_le (length (without_last 13 partial)) 2097152 ≡ true = rw other at room in
    apart_short k n a tail (without_last 13 partial) other short (le_of_test _ _ test))
    (true_or_false (begins_with 32 (without_last 13 partial)))

last_short : (o : Option Line) → may_be_continued o ≡ true → list_any is_long (lines_after o []) ≡ false
last_short None kept = refl
last_short (Some (k, [])) kept = cc
last_short (Some (k, a ∷ tail)) kept = none_of_one (k, a ∷ tail) (not_second true (is_long (k, a ∷ tail)) kept)

after_short : (o : Option Line) (n : ℕ) (partial : List ℕ) → may_be_continued o ≡ true → has_room o partial ≡ true → list_any is_long (lines_after o ((n, without_last 13 partial) ∷ [])) ≡ false
after_short None n partial kept room = none_of_one (n, without_last 13 partial) (fits n (without_last 13 partial) (le_of_test _ _ room))
after_short (Some last) n partial kept room = two_short last n partial kept room

hand_short : (o : Option Line) (n : ℕ) (partial : List ℕ) → may_be_continued o ≡ true → list_any is_lf partial ≡ false → has_room o partial ≡ true
    → list_any is_long (lines_after o (physical_lines n (cut is_lf (partial ++ [])))) ≡ false
hand_short o n [] kept lacks room = last_short o kept
hand_short o n (x ∷ xs) kept lacks room =
    rw (line_alone n (x ∷ xs) lacks refl) (subst (λ t. list_any is_long (lines_after o ((n, without_last 13 t) ∷ [])) ≡ false) (sym (append-nil (x ∷ xs))) (after_short o n (x ∷ xs) kept room))

-- what was taken is no such fault, had the text ended there
pub unfolder_goes : (j : Unfolder) → to_come j [] ≡ fails LineTooLong → ⊥
unfolder_goes j = short_goes j.marks j.begun j.block.items (lines_after j.last (physical_lines j.number (cut is_lf (j.partial.items ++ [])))) (hand_short j.last j.number j.partial.items j.continuable j.unended j.short)
