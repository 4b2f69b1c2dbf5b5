-- Lemmas on the blocks that an unfolder has still to give.
use Rattle.std.proofs.Common.{◌≡◌, ℕ, ◌+◌, Bool, true, false, eqb, ◌≤◌, List, [], ◌∷◌, ◌++◌, length, refl, sym, ap, subst, ◌∙◌, Option, None, Some, Result, Ok, MatchOption, append_assoc, length-append, arith}
use Rattle.std.specs.List.{list_any}
use Rattle.dir_ldif.specs.declared.faults.StreamFault.{StreamFault}
use Rattle.dir_ldif.specs.declared.reader.unfolder.Unfolder.{Unfolder}
use Rattle.dir_ldif.specs.Bytes.{begins_with, is_empty, without_last, cut_at}
use Rattle.dir_ldif.specs.LogicalLines.{Line, cut, is_lf, logical_lines, physical_lines}
use Rattle.dir_ldif.specs.Remainder.{FailsAtOnce, Remainder, done, remainder_from, then_rest}
use Rattle.dir_ldif.specs.declared.reader.marks.Marks.{Marks}
use Rattle.dir_ldif.specs.Reader.Unfolding.{to_come, to_come_with, lines_after}
use Rattle.dir_ldif.specs.Inside.Unfolder.{TakesLine, after_block}
use Rattle.dir_ldif.proofs.BytesLemmas.{cut_at-text}
use Rattle.dir_ldif.proofs.LogicalLineLemmas.{line_first, line_alone, logical_lines-apart}

-- the last line is complete, and none follows
pub closed_end : (m m' : Marks) (begun begun' : Bool) (block block' : List Line) (o : Option Line) (last : Line) → o ≡ Some last
    → ((more : List Line) → remainder_from m begun block (last ∷ more) ≡ remainder_from m' begun' block' more) → remainder_from m begun block (lines_after o []) ≡ then_rest block' (done m'.passed)
closed_end m m' begun begun' block block' o last is h = rw is (h [])

pub closed_end_fails : (m : Marks) (begun : Bool) (block : List Line) (fault : StreamFault) (o : Option Line) (last : Line) → o ≡ Some last
    → ((more : List Line) → FailsAtOnce fault (remainder_from m begun block (last ∷ more))) → FailsAtOnce fault (remainder_from m begun block (lines_after o []))
closed_end_fails m begun block fault o last is h = rw is (h [])

-- ---- a text that a mark has ended

over_done : (m : Marks) (begun : Bool) (lines : List Line) → m.is_over ≡ true → remainder_from m begun [] lines ≡ done m.passed
over_done m begun [] e = refl
over_done m begun (line ∷ rest) e = rw e refl

-- nothing is left, whatever lines follow
pub over_any : (u : Unfolder) (lines : List Line) → u.marks.is_over ≡ true → remainder_from u.marks u.begun u.block.items lines ≡ done u.marks.passed
over_any u lines e = rw (u.ended e) (over_done u.marks u.begun lines e)

-- so what follows makes no difference
pub over_same : (u : Unfolder) (lines more : List Line) → u.marks.is_over ≡ true → remainder_from u.marks u.begun u.block.items lines ≡ remainder_from u.marks u.begun u.block.items more
over_same u lines more e = over_any u lines e ∙ sym (over_any u more e)

-- the last line was complete, and was the mark
pub over_apart : (m : Marks) (begun : Bool) (block : List Line) (o : Option Line) (last : Line) (n : ℕ) (text : List ℕ) (k : Unfolder) → o ≡ Some last → begins_with 32 text ≡ false
    → ((after : List Line) → remainder_from m begun block (last ∷ after) ≡ remainder_from k.marks k.begun k.block.items after) → k.marks.is_over ≡ true
    → (more : List Line) → remainder_from m begun block (lines_after o ((n, text) ∷ more)) ≡ to_come_with k more
over_apart m begun block o last n text k is space closed over more =
    rw is (ap (remainder_from m begun block) (logical_lines-apart last n text more space) ∙ closed (logical_lines ((n, text) ∷ more)) ∙ over_same k (logical_lines ((n, text) ∷ more)) (lines_after k.last more) over)

pub some_of_count : (xs : List ℕ) (n : ℕ) → n ≡ length xs → eqb n 0 ≡ false → is_empty xs ≡ false
some_of_count [] n e h = let never : true ≡ false = rw e at h in cc
some_of_count (x ∷ xs) n e h = refl

-- the text ended in the line in hand
before_end : (j : Unfolder) → list_any is_lf j.partial.items ≡ false → is_empty j.partial.items ≡ false
    → to_come j [] ≡ to_come_with j ((j.number, without_last 13 (j.partial.items ++ [])) ∷ [])
before_end j lacks some = ap (to_come_with j) (line_alone j.number j.partial.items lacks some)

pub ended_text : (j k : Unfolder) (ends : Bool) → list_any is_lf j.partial.items ≡ false → is_empty j.partial.items ≡ false → (ends ≡ true → k.last ≡ None)
    → TakesLine (λ more. to_come_with j ((j.number, without_last 13 (j.partial.items ++ [])) ∷ more)) (Ok ends) k → to_come j [] ≡ to_come_with k []
ended_text j k true lacks some last h = let none : k.last ≡ None = last refl in rw none (before_end j lacks some ∙ h [])
ended_text j k false lacks some last h = before_end j lacks some ∙ h []

pub ended_text_Ends : (j : Unfolder) (fault : StreamFault) → list_any is_lf j.partial.items ≡ false → is_empty j.partial.items ≡ false
    → ((more : List Line) → FailsAtOnce fault (to_come_with j ((j.number, without_last 13 (j.partial.items ++ [])) ∷ more))) → FailsAtOnce fault (to_come j [])
ended_text_Ends j fault lacks some h = subst (FailsAtOnce fault) (sym (before_end j lacks some)) (h [])

-- ---- a line and its end

pub before_line : (j : Unfolder) (n : ℕ) (line rest : List ℕ) → list_any is_lf j.partial.items ≡ false → list_any is_lf line ≡ false → n ≡ j.number + 1
    → to_come j (line ++ 10 ∷ rest) ≡ to_come_with j ((j.number, without_last 13 (j.partial.items ++ line)) ∷ physical_lines n (cut is_lf rest))
before_line j n line rest p q e = rw e (ap (to_come_with j) (line_first j.number j.partial.items line rest p q))

to_come-fresh : (k : Unfolder) (rest : List ℕ) → k.partial.items ≡ [] → to_come k rest ≡ to_come_with k (physical_lines k.number (cut is_lf rest))
to_come-fresh k rest e = ap (λ t. to_come_with k (physical_lines k.number (cut is_lf (t ++ rest)))) e

pub line_goes_on : (j k : Unfolder) (line : List ℕ) (r : Result Bool StreamFault) → list_any is_lf j.partial.items ≡ false → list_any is_lf line ≡ false → k.number ≡ j.number + 1 → k.partial.items ≡ []
    → r ≡ Ok false → TakesLine (λ more. to_come_with j ((j.number, without_last 13 (j.partial.items ++ line)) ∷ more)) r k → (rest : List ℕ) → to_come j (line ++ 10 ∷ rest) ≡ to_come k rest
line_goes_on j k line r p q n e is h rest =
    let goes : TakesLine (λ more. to_come_with j ((j.number, without_last 13 (j.partial.items ++ line)) ∷ more)) (Ok false) k = rw is at h in
    before_line j k.number line rest p q n ∙ goes (physical_lines k.number (cut is_lf rest)) ∙ sym (to_come-fresh k rest e)

pub line_Ends : (j : Unfolder) (line : List ℕ) (fault : StreamFault) → list_any is_lf j.partial.items ≡ false → list_any is_lf line ≡ false
    → ((more : List Line) → FailsAtOnce fault (to_come_with j ((j.number, without_last 13 (j.partial.items ++ line)) ∷ more))) → (rest : List ℕ) → FailsAtOnce fault (to_come j (line ++ 10 ∷ rest))
line_Ends j line fault p q h rest = subst (FailsAtOnce fault) (sym (before_line j (j.number + 1) line rest p q refl)) (h _)

ends_block : {V : Type 0} (items : V → List Line) (j k m : Unfolder) (line : List ℕ) (o : Option V) → list_any is_lf j.partial.items ≡ false → list_any is_lf line ≡ false → m.number ≡ j.number + 1
    → m.partial.items ≡ [] → ((more : List Line) → to_come_with j ((j.number, without_last 13 (j.partial.items ++ line)) ∷ more) ≡ after_block k more)
    → ((more : List Line) → MatchOption o (after_block k more ≡ to_come_with m more) (λ block. after_block k more ≡ then_rest (items block) (to_come_with m more)))
    → MatchOption o ((rest : List ℕ) → to_come j (line ++ 10 ∷ rest) ≡ to_come m rest)
    (λ block. (rest : List ℕ) → to_come j (line ++ 10 ∷ rest) ≡ then_rest (items block) (to_come m rest))
ends_block items j k m line None p q n f h g =
    λ rest. before_line j m.number line rest p q n ∙ h (physical_lines m.number (cut is_lf rest)) ∙ g (physical_lines m.number (cut is_lf rest)) ∙ sym (to_come-fresh m rest f)
ends_block items j k m line (Some block) p q n f h g =
    λ rest. before_line j m.number line rest p q n ∙ h (physical_lines m.number (cut is_lf rest)) ∙ g (physical_lines m.number (cut is_lf rest)) ∙ ap (then_rest (items block)) (sym (to_come-fresh m rest f))

pub line_ends_block : {V : Type 0} (items : V → List Line) (j k m : Unfolder) (line : List ℕ) (r : Result Bool StreamFault) (o : Option V) → list_any is_lf j.partial.items ≡ false
    → list_any is_lf line ≡ false → m.number ≡ j.number + 1 → m.partial.items ≡ [] → r ≡ Ok true
    → TakesLine (λ more. to_come_with j ((j.number, without_last 13 (j.partial.items ++ line)) ∷ more)) r k
    → ((more : List Line) → MatchOption o (after_block k more ≡ to_come_with m more) (λ block. after_block k more ≡ then_rest (items block) (to_come_with m more)))
    → MatchOption o ((rest : List ℕ) → to_come j (line ++ 10 ∷ rest) ≡ to_come m rest)
    (λ block. (rest : List ℕ) → to_come j (line ++ 10 ∷ rest) ≡ then_rest (items block) (to_come m rest))
line_ends_block items j k m line r o p q n f is h g =
    let ends : TakesLine (λ more. to_come_with j ((j.number, without_last 13 (j.partial.items ++ line)) ∷ more)) (Ok true) k = rw is at h in
    ends_block items j k m line o p q n f ends g

-- ---- a chunk and the text after it

pub piece_first : (rest text after : List ℕ) → Some (text, after) ≡ cut_at 10 rest → (more : List ℕ) → rest ++ more ≡ text ++ 10 ∷ (after ++ more)
piece_first rest text after e more = ap (λ t. t ++ more) (cut_at-text 10 rest text after e).0 ∙ append_assoc text (10 ∷ after) more

pub length-piece : (rest text after : List ℕ) → Some (text, after) ≡ cut_at 10 rest → length after + 1 ≤ length rest
length-piece rest text after e = omega (arith, ap length (cut_at-text 10 rest text after e).0, length-append text (10 ∷ after))

-- what is left of a chunk is its end, and the prefix before it was taken
pub front_more : (j k : Unfolder) (piece rest line after : List ℕ) → Some (line, after) ≡ cut_at 10 rest → (front : List ℕ) × (piece ≡ front ++ rest) × ((text : List ℕ) → to_come j (front ++ text) ≡ to_come k text)
    → (parts : List ℕ → Remainder) → ((text : List ℕ) → to_come k (line ++ 10 ∷ text) ≡ parts text)
    → (front : List ℕ) × (piece ≡ front ++ after) × ((text : List ℕ) → to_come j (front ++ text) ≡ parts text)
front_more j k piece rest line after e h parts next =
    let whole : rest ≡ (line ++ 10 ∷ []) ++ after = (cut_at-text 10 rest line after e).0 ∙ sym (append_assoc line (10 ∷ []) after) in (
      h.0 ++ (line ++ 10 ∷ []),
      h.1 ∙ ap (λ t. h.0 ++ t) whole ∙ sym (append_assoc h.0 (line ++ 10 ∷ []) after),
      λ text. ap (to_come j) (append_assoc h.0 (line ++ 10 ∷ []) text) ∙ h.2 ((line ++ 10 ∷ []) ++ text) ∙ ap (to_come k) (append_assoc line (10 ∷ []) text) ∙ next text,
    )
