-- No block is complete while its last line may still be continued.
use Rattle.std.proofs.Common.{◌≡◌, ℕ, zero, suc, ◌+◌, ◌<◌, ◌≤◌, Bool, true, false, List, [], ◌∷◌, ◌++◌, length, replicate, refl, sym, ap, drop, subst, ⊎_elim, ◌∙◌, append-nil, if◌then◌else◌, length-append, Option, None, Some, Result, Ok, Err, arith, lit≤}
use Rattle.std.specs.List.{list_any}
use Rattle.std.proofs.lemmas.List.Folds.{list_any-append}
use Rattle.dir_ldif.specs.Remainder.{NoBlock, Remainder, after_marks, fails, remainder_from}
use Rattle.dir_ldif.specs.Marks.{after_comment, may_have_records}
use Rattle.dir_ldif.specs.declared.reader.marks.Marks.{Marks}
use Rattle.dir_ldif.specs.declared.faults.StreamFault.{StreamFault}
use Rattle.dir_ldif.specs.declared.faults.StreamFault.TheVariants.{BadVersion}
use Rattle.dir_ldif.specs.declared.reader.version.Version.{Version}
use Rattle.dir_ldif.specs.declared.reader.version.Version.TheVariants.{Absent, One, Other}
use Rattle.dir_ldif.specs.declared.reader.unfolder.Unfolder.{Unfolder}
use Rattle.dir_ldif.specs.Bytes.{is_empty, begins_with, without_last}
use Rattle.dir_ldif.specs.LogicalLines.{Line, cut, is_comment, is_lf, is_long, physical_lines, with_first_line}
use Rattle.dir_ldif.specs.Inside.Bounds.{may_be_continued}
use Rattle.dir_ldif.specs.Blocks.{by_version, version_of}
use Rattle.dir_ldif.specs.Reader.Unfolding.{to_come, to_come_with, lines_after}
use Rattle.dir_ldif.specs.Inside.Reader.{MayFail}
use Rattle.dir_ldif.proofs.BytesLemmas.{true_or_false}
use Rattle.dir_ldif.proofs.LogicalLineLemmas.{line_alone, remainder_from-long, logical_lines-apart, logical_lines-continued, ltb-of_lt, some_of_length, not_first, not_second, with_first_line-first}
use Rattle.dir_ldif.proofs.NoLongLine.{length-drop_space}

some_length : (xs : List ℕ) → is_empty xs ≡ false → 1 ≤ length xs
some_length [] e = cc
some_length (x ∷ xs) e = omega arith

by_version-none : (v : Version) (absent one : Remainder) → NoBlock absent → NoBlock one → NoBlock (by_version v absent one (fails BadVersion))
by_version-none Absent absent one p q = p
by_version-none One absent one p q = q
by_version-none Other absent one p q = tt

after_marks-none : (rest : Marks → Remainder) (r : Result Marks StreamFault) → ((m : Marks) → NoBlock (rest m)) → NoBlock (after_marks rest r)
after_marks-none rest (Ok m) h = h m
after_marks-none rest (Err f) h = tt

either_none : (v : Bool) (x y : Remainder) → NoBlock x → NoBlock y → NoBlock (if v then x else y)
either_none true x y p q = p
either_none false x y p q = q

-- a line that is too long
long_none : (m : Marks) (begun : Bool) (block : List Line) (n : ℕ) (text : List ℕ) (rest : List Line) → is_long (n, text) ≡ true → NoBlock (remainder_from m begun block (with_first_line (n, text) rest))
long_none m begun block n text rest long =
    ⊎_elim
    (λ (yes : m.is_over ≡ true). let f = with_first_line-first n text rest in rw (f.2, yes) tt)
    (λ (no : m.is_over ≡ false). rw (remainder_from-long m no begun block n text rest long) tt)
    (true_or_false m.is_over)

-- a line before a text that has no block however the line counts
closed_none : (m : Marks) (begun : Bool) (block : List Line) (line : Line) (rest : List Line) → is_long line ≡ false → is_empty line.1 ≡ false → ((m : Marks) (begun : Bool) (block : List Line) → NoBlock (remainder_from m begun block rest))
    → NoBlock (remainder_from m begun block (line ∷ rest))
closed_none m begun block line rest short some h =
    rw (short, some) (either_none m.is_over _ _ tt (either_none (is_comment line) _ _
    (either_none (is_empty block) _ _ (after_marks-none _ (after_comment m line.1) (λ m'. h m' begun [])) (h m begun block))
    (either_none begun _ _
    (either_none (may_have_records m) _ _ (h m true (block ++ line ∷ [])) tt)
    (by_version-none (version_of line.1) _ _ (either_none (may_have_records m) _ _ (h m true (block ++ line ∷ [])) tt) (h m true block)))))

-- a line after the last one that is too long
long_after : (m : Marks) (begun : Bool) (block : List Line) (o : Option Line) (n : ℕ) (text : List ℕ) → may_be_continued o ≡ true → 2097153 < length text → NoBlock (remainder_from m begun block (lines_after o ((n, text) ∷ [])))
long_after m begun block None n text kept long = long_none m begun block n text [] (ltb-of_lt _ _ (omega arith))
long_after m begun block (Some last) n text kept long =
    let some : is_empty last.1 ≡ false = not_first (is_empty last.1) _ kept in
    let short : is_long last ≡ false = not_second _ (is_long last) kept in
    ⊎_elim
    (λ (space : begins_with 32 text ≡ true).
    subst (λ t. NoBlock (remainder_from m begun block t)) (sym (logical_lines-continued last n text [] some space)) (long_none m begun block last.0 (last.1 ++ drop 1 text) [] (ltb-of_lt _ _ (omega (arith, length-append last.1 (drop 1 text), some_length last.1 some, length-drop_space text space)))))
    (λ (apart : begins_with 32 text ≡ false).
    subst (λ t. NoBlock (remainder_from m begun block t)) (sym (logical_lines-apart last n text [] apart))
    (closed_none m begun block last ((n, text) ∷ []) short some (λ m b bs. long_none m b bs n text [] (ltb-of_lt _ _ (omega arith)))))
    (true_or_false (begins_with 32 text))

lacks-replicate : (n : ℕ) → list_any is_lf (replicate n 97) ≡ false
lacks-replicate zero = refl
lacks-replicate (suc n) = lacks-replicate n

length-without_last-back : (xs : List ℕ) → length xs ≤ length (without_last 13 xs) + 1
length-without_last-back [] = omega arith
length-without_last-back (x ∷ []) = omega arith
length-without_last-back (x ∷ y ∷ ys) = let ih = length-without_last-back (y ∷ ys) in omega arith

abbrev letters : ℕ → List ℕ
letters n = replicate n 97

length-many : (n : ℕ) → length (letters n) ≡ n
length-many zero = refl
length-many (suc n) = let ih = length-many n in omega arith

goes_wrong : (j : Unfolder) (n : ℕ) → 2097156 ≤ n → NoBlock (to_come j (letters n))
goes_wrong j n h =
    let whole = j.partial.items ++ letters n in
    let size : n ≤ length whole = omega (arith, length-append j.partial.items (letters n), length-many n) in
    let lacks : list_any is_lf whole ≡ false = list_any-append is_lf j.partial.items (letters n) ∙ rw (j.unended, lacks-replicate n) refl in
    let one : physical_lines j.number (cut is_lf whole) ≡ (j.number, without_last 13 (whole ++ [])) ∷ [] =
    ap (λ t. physical_lines j.number (cut is_lf t)) (sym (append-nil whole)) ∙ line_alone j.number whole lacks (some_of_length whole (omega arith)) in
    let long : 2097153 < length (without_last 13 (whole ++ [])) = omega (arith, length-without_last-back (whole ++ []), length-append whole []) in
    subst (λ t. NoBlock (to_come_with j t)) (sym one) (long_after j.marks j.begun j.block.items j.last j.number (without_last 13 (whole ++ [])) j.continuable long)

may_fail_by : (j : Unfolder) (n : ℕ) → 2097156 ≤ n → MayFail (to_come j)
may_fail_by j n h none = none (letters n) (goes_wrong j n h)

-- whatever was taken, a text may follow that has no block
pub may_fail : (j : Unfolder) → MayFail (to_come j)
may_fail j = may_fail_by j 2097156 (lit≤ tt)
