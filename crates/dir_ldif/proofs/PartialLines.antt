-- Lemmas on a physical line that has not ended, and comes in parts.
use Rattle.std.proofs.Common.{◌≡◌, ℕ, ◌+◌, ◌⊎◌, Bool, true, false, eqb, nat_lt, if◌then◌else◌, List, [], ◌∷◌, ◌++◌, length, drop, refl, sym, ap, subst, ⊎_elim, inl, inr, ◌∙◌, append_assoc, append-nil, length-append, None, Some, arith}
use Rattle.std.specs.List.{list_any, onto_first}
use Rattle.std.proofs.lemmas.Bool.{eqb-true}
use Rattle.std.proofs.lemmas.Bool.Decides.{nat_tests}
use Rattle.dir_ldif.specs.declared.faults.StreamFault.{StreamFault}
use Rattle.dir_ldif.specs.declared.faults.StreamFault.TheVariants.{LineTooLong}
use Rattle.dir_ldif.specs.declared.reader.unfolder.Unfolder.{Unfolder}
use Rattle.dir_ldif.specs.Bytes.{is_empty, begins_with, without_last}
use Rattle.dir_ldif.specs.LogicalLines.{Line, cut, is_lf, is_long, logical_lines, physical_lines}
use Rattle.dir_ldif.specs.Remainder.{FailsAtOnce, fails, remainder_from}
use Rattle.dir_ldif.specs.declared.reader.marks.Marks.{Marks}
use Rattle.dir_ldif.specs.Reader.Unfolding.{to_come}
use Rattle.dir_ldif.specs.Inside.Bounds.{may_be_continued}
use Rattle.dir_ldif.proofs.BytesLemmas.{true_or_false, without_last-append}
use Rattle.dir_ldif.proofs.LogicalLineLemmas.{logical_lines-apart, logical_lines-continued, partial_first, remainder_from-long, some_of_kept_line}
use Rattle.dir_ldif.proofs.NoLongLine.{neither}

-- ---- two parts without a final CR

pub part_text : (front back : List ℕ) → eqb (length back) 0 ≡ false → front ++ without_last 13 back ≡ without_last 13 (front ++ back)
part_text front [] e = absurd (cc)
part_text front (y ∷ ys) e = sym (without_last-append 13 front y ys)

pub part_first : (front back : List ℕ) → eqb (length front) 0 ≡ false → eqb (length back) 0 ≡ false → begins_with 32 front ≡ begins_with 32 (without_last 13 (front ++ back))
part_first [] back e f = absurd (cc)
part_first (x ∷ xs) back e f = ap (begins_with 32) (part_text (x ∷ xs) back f)

-- ---- the first byte, and the last

pub first_stays : (x : ℕ) (xs : List ℕ) → begins_with 32 (without_last 13 (x ∷ xs)) ≡ eqb x 32
first_stays x [] =
    ⊎_elim
    (λ (yes : eqb x 13 ≡ true). let same : x ≡ 13 = eqb-true x 13 yes in rw same refl)
    (λ (no : eqb x 13 ≡ false). rw no refl)
    (true_or_false (eqb x 13))
first_stays x (y ∷ ys) = refl

-- a final CR is left out, if there is one
one_cr : (xs : List ℕ) → (without_last 13 xs ≡ xs) ⊎ (xs ≡ without_last 13 xs ++ 13 ∷ [])
one_cr [] = inl refl
one_cr (x ∷ []) =
    ⊎_elim
    (λ (yes : eqb x 13 ≡ true). let same : x ≡ 13 = eqb-true x 13 yes in inr (rw same refl))
    (λ (no : eqb x 13 ≡ false). inl (rw no refl))
    (true_or_false (eqb x 13))
one_cr (x ∷ y ∷ ys) =
    ⊎_elim
    (λ (e : without_last 13 (y ∷ ys) ≡ y ∷ ys). inl (ap (λ t. x ∷ t) e))
    (λ (e : y ∷ ys ≡ without_last 13 (y ∷ ys) ++ 13 ∷ []). inr (ap (λ t. x ∷ t) e))
    (one_cr (y ∷ ys))

-- more text leaves the prefix as it is
front_stays : (xs ys : List ℕ) → (rest : List ℕ) × (without_last 13 (xs ++ ys) ≡ without_last 13 xs ++ rest)
front_stays xs [] = ([], ap (without_last 13) (append-nil xs) ∙ sym (append-nil (without_last 13 xs)))
front_stays xs (y ∷ ys) =
    let whole = without_last-append 13 xs y ys in
    ⊎_elim
    (λ (e : without_last 13 xs ≡ xs). (without_last 13 (y ∷ ys), whole ∙ ap (λ t. t ++ without_last 13 (y ∷ ys)) (sym e)))
    (λ (e : xs ≡ without_last 13 xs ++ 13 ∷ []). (13 ∷ without_last 13 (y ∷ ys), whole ∙ ap (λ t. t ++ without_last 13 (y ∷ ys)) e ∙ append_assoc (without_last 13 xs) (13 ∷ []) (without_last 13 (y ∷ ys))))
    (one_cr xs)

-- ---- pieces between LFs

abbrev first_piece : List (List ℕ) → List ℕ
first_piece [] = []
first_piece (p ∷ ps) = p

abbrev more_pieces : List (List ℕ) → List (List ℕ)
more_pieces [] = []
more_pieces (p ∷ ps) = ps

onto_pieces : (x : ℕ) (ps : List (List ℕ)) → onto_first x ps ≡ (x ∷ first_piece ps) ∷ more_pieces ps
onto_pieces x [] = refl
onto_pieces x (p ∷ ps) = refl

cut_over : (x : ℕ) (xs ys : List ℕ) → list_any is_lf (x ∷ xs) ≡ false → cut is_lf (x ∷ (xs ++ ys)) ≡ (x ∷ (xs ++ first_piece (cut is_lf ys))) ∷ more_pieces (cut is_lf ys)
cut_over x [] ys e =
    ⊎_elim
    (λ (yes : eqb x 10 ≡ true). let never : true ≡ false = rw yes at e in cc)
    (λ (no : eqb x 10 ≡ false). rw no (onto_pieces x (cut is_lf ys)))
    (true_or_false (eqb x 10))
cut_over x (z ∷ zs) ys e =
    ⊎_elim
    (λ (yes : eqb x 10 ≡ true). let never : true ≡ false = rw yes at e in cc)
    (λ (no : eqb x 10 ≡ false). let rest : list_any is_lf (z ∷ zs) ≡ false = rw no at e in rw no (ap (onto_first x) (cut_over z zs ys rest)))
    (true_or_false (eqb x 10))

-- ---- a line that grows by what continues it

-- after a space, the first part of a physical line may go over to the line before
rest_after : (front rest : List ℕ) → (rest ≡ [] → without_last 13 (32 ∷ front) ≡ 32 ∷ front)
    → drop 1 (without_last 13 (32 ∷ (front ++ rest))) ≡ front ++ drop 1 (without_last 13 (32 ∷ rest))
rest_after front [] h = ap (λ t. drop 1 (without_last 13 (32 ∷ t))) (append-nil front) ∙ ap (drop 1) (h refl) ∙ sym (append-nil front)
rest_after front (y ∷ ys) h = ap (drop 1) (without_last-append 13 (32 ∷ front) y ys)

some_front : (xs ys : List ℕ) → is_empty xs ≡ false → is_empty (xs ++ ys) ≡ false
some_front [] ys e = cc
some_front (x ∷ xs) ys e = refl

module _ (m : Marks) (begun : Bool) (block : List Line) (last : Line) (n : ℕ) where
  grows : (front held text : List ℕ) → is_empty last.1 ≡ false → list_any is_lf (32 ∷ front) ≡ false → (first_piece (cut is_lf (held ++ text)) ≡ [] → without_last 13 (32 ∷ front) ≡ 32 ∷ front)
      → remainder_from m begun block (logical_lines (last ∷ physical_lines n (cut is_lf (32 ∷ (front ++ (held ++ text)))))) ≡ remainder_from m begun block (logical_lines ((last.0, last.1 ++ front) ∷ physical_lines n (cut is_lf (32 ∷ (held ++ text)))))
  grows front held text some lacks h =
      let p = first_piece (cut is_lf (held ++ text)) in
      let ps = physical_lines (n + 1) (more_pieces (cut is_lf (held ++ text))) in
      let long = without_last 13 (32 ∷ (front ++ p)) in
      let short = without_last 13 (32 ∷ p) in
      let one : logical_lines (last ∷ physical_lines n (cut is_lf (32 ∷ (front ++ (held ++ text))))) ≡ logical_lines ((last.0, last.1 ++ drop 1 long) ∷ ps) =
      ap (λ t. logical_lines (last ∷ physical_lines n t)) (cut_over 32 front (held ++ text) lacks) ∙ logical_lines-continued last n long ps some (first_stays 32 (front ++ p)) in
      let two : logical_lines ((last.0, last.1 ++ front) ∷ physical_lines n (cut is_lf (32 ∷ (held ++ text)))) ≡ logical_lines ((last.0, (last.1 ++ front) ++ drop 1 short) ∷ ps) =
      ap (λ t. logical_lines ((last.0, last.1 ++ front) ∷ physical_lines n t)) (cut_over 32 [] (held ++ text) refl) ∙ logical_lines-continued (last.0, last.1 ++ front) n short ps (some_front last.1 front some) (first_stays 32 p) in
      let same : last.1 ++ drop 1 long ≡ (last.1 ++ front) ++ drop 1 short = ap (λ t. last.1 ++ t) (rest_after front p h) ∙ sym (append_assoc last.1 front (drop 1 short)) in
      ap (remainder_from m begun block) (one ∙ ap (λ t. logical_lines ((last.0, t) ∷ ps)) same ∙ sym two)

  -- the whole line is its first part and what is held back
  grows_by : (line front held text : List ℕ) → is_empty last.1 ≡ false → list_any is_lf line ≡ false → line ≡ (32 ∷ front) ++ held → (first_piece (cut is_lf (held ++ text)) ≡ [] → without_last 13 (32 ∷ front) ≡ 32 ∷ front)
      → remainder_from m begun block (logical_lines (last ∷ physical_lines n (cut is_lf (line ++ text)))) ≡ remainder_from m begun block (logical_lines ((last.0, last.1 ++ front) ∷ physical_lines n (cut is_lf (32 ∷ (held ++ text)))))
  grows_by line front held text some lacks e h =
      let lacks_all : list_any is_lf ((32 ∷ front) ++ held) ≡ false = ap (list_any is_lf) (sym e) ∙ lacks in
      let lacks_front : list_any is_lf (32 ∷ front) ≡ false = front_lacks (32 ∷ front) held lacks_all in
      ap (λ t. remainder_from m begun block (logical_lines (last ∷ physical_lines n (cut is_lf (t ++ text))))) e ∙ ap (λ t. remainder_from m begun block (logical_lines (last ∷ physical_lines n (cut is_lf t)))) (append_assoc (32 ∷ front) held text) ∙ grows front held text some lacks_front h
    where
      front_lacks : (xs ys : List ℕ) → list_any is_lf (xs ++ ys) ≡ false → list_any is_lf xs ≡ false
      front_lacks [] ys e = refl
      front_lacks (x ∷ xs) ys e = let both = neither (is_lf x) (list_any is_lf (xs ++ ys)) e in rw (both.0, front_lacks xs ys both.1) refl

  -- the same of a line without its final CR
  grown : (line front : List ℕ) (has_cr : Bool) (text : List ℕ) → is_empty last.1 ≡ false → list_any is_lf line ≡ false → 32 ∷ front ≡ without_last 13 line → has_cr ≡ nat_lt (length (32 ∷ front)) (length line)
      → remainder_from m begun block (logical_lines (last ∷ physical_lines n (cut is_lf (line ++ text))))
      ≡ remainder_from m begun block (logical_lines ((last.0, last.1 ++ front) ∷ physical_lines n (cut is_lf ((if has_cr then 32 ∷ 13 ∷ [] else 32 ∷ []) ++ text))))
  grown line front has_cr text some lacks e t =
      ⊎_elim
      (λ (whole : without_last 13 line ≡ line).
      let all : line ≡ 32 ∷ front = sym (e ∙ whole) in
      let no : has_cr ≡ false = t ∙ ap (λ v. nat_lt (length (32 ∷ front)) (length v)) all ∙ not_below (length (32 ∷ front)) in
      rw no (grows_by line front [] text some lacks (all ∙ sym (append-nil (32 ∷ front))) (λ _. ap (without_last 13) (sym all) ∙ sym e)))
      (λ (more : line ≡ without_last 13 line ++ 13 ∷ []).
      let all : line ≡ (32 ∷ front) ++ 13 ∷ [] = more ∙ ap (λ v. v ++ 13 ∷ []) (sym e) in
      let yes : has_cr ≡ true = t ∙ ap (λ v. nat_lt (length (32 ∷ front)) (length v)) all ∙ below (32 ∷ front) in
      rw yes (grows_by line front (13 ∷ []) text some lacks all (λ none. absurd (held_some text none))))
      (one_cr line)
    where
      not_below : (m : ℕ) → nat_lt m m ≡ false
      not_below m = grind (arith, nat_tests)

      below : (xs : List ℕ) → nat_lt (length xs) (length (xs ++ 13 ∷ [])) ≡ true
      below xs = let one : length (xs ++ 13 ∷ []) ≡ length xs + 1 = length-append xs (13 ∷ []) in grind (arith, nat_tests)

      held_some : (text : List ℕ) → first_piece (cut is_lf (13 ∷ text)) ≡ [] → ⊥
      held_some text e = let some : 13 ∷ first_piece (cut is_lf text) ≡ [] = ap first_piece (sym (onto_pieces 13 (cut is_lf text))) ∙ e in cc

-- a line was taken over as far as it goes, and a space stays in hand, with the CR that may be the final one
pub grown_to_come : (m : Marks) (begun : Bool) (block : List Line) (last : Line) (n : ℕ) (line shown : List ℕ) (has_cr : Bool) (k : Unfolder) → may_be_continued (Some last) ≡ true → list_any is_lf line ≡ false
    → shown ≡ without_last 13 line → begins_with 32 shown ≡ true → has_cr ≡ nat_lt (length shown) (length line)
    → k.marks ≡ m → k.begun ≡ begun → k.block.items ≡ block → k.number ≡ n → k.last ≡ Some (last.0, last.1 ++ drop 1 shown) → k.partial.items ≡ (if has_cr then 32 ∷ 13 ∷ [] else 32 ∷ [])
    → (text : List ℕ) → remainder_from m begun block (logical_lines (last ∷ physical_lines n (cut is_lf (line ++ text)))) ≡ to_come k text
grown_to_come m begun block last n line [] has_cr k kept lacks e space t a b c i l p text = cc
grown_to_come m begun block last n line (x ∷ front) has_cr k kept lacks e space t a b c i l p text =
    let same : x ≡ 32 = eqb-true x 32 space in
    let shown : 32 ∷ front ≡ without_last 13 line = ap (λ v. v ∷ front) (sym same) ∙ e in
    rw (a, b, c, i, l, p) (grown m begun block last n line front has_cr text (some_of_kept_line last kept) lacks shown t)

-- ---- a line that is too long

longer_stays : (m : ℕ) (xs ys : List ℕ) → is_long (m, xs) ≡ true → is_long (m, xs ++ ys) ≡ true
longer_stays m xs ys e = let whole : length (xs ++ ys) ≡ length xs + length ys = length-append xs ys in grind (arith, nat_tests)

-- a line that is too long with what continues it ends the text
pub grown_long : (m : Marks) → m.is_over ≡ false → (begun : Bool) (block : List Line) (last : Line) (n : ℕ) (shown text : List ℕ) (more : List Line) → may_be_continued (Some last) ≡ true → begins_with 32 shown ≡ true → is_long (last.0, last.1 ++ drop 1 shown) ≡ true
    → remainder_from m begun block (logical_lines (last ∷ (n, shown ++ text) ∷ more)) ≡ fails LineTooLong
grown_long m going begun block last n [] text more kept space long = cc
grown_long m going begun block last n (x ∷ xs) text more kept space long =
    let longer : is_long (last.0, last.1 ++ (xs ++ text)) ≡ true = ap (λ t. is_long (last.0, t)) (sym (append_assoc last.1 xs text)) ∙ longer_stays last.0 (last.1 ++ xs) text long in
    ap (remainder_from m begun block) (logical_lines-continued last n ((x ∷ xs) ++ text) more (some_of_kept_line last kept) space) ∙ remainder_from-long m going begun block last.0 (last.1 ++ (xs ++ text)) (logical_lines more) longer

-- a fault of a line with all that may continue it is one of the text
pub grown_Ends : (fault : StreamFault) (m : Marks) (begun : Bool) (block : List Line) (last : Line) (n : ℕ) (line shown : List ℕ) → list_any is_lf line ≡ false → is_empty line ≡ false → shown ≡ without_last 13 line
    → ((text : List ℕ) → (n : ℕ) → (more : List Line) → FailsAtOnce fault (remainder_from m begun block (logical_lines (last ∷ (n, shown ++ text) ∷ more))))
    → (text : List ℕ) → FailsAtOnce fault (remainder_from m begun block (logical_lines (last ∷ physical_lines n (cut is_lf (line ++ text)))))
grown_Ends fault m begun block last n line shown lacks some e h text =
    let f = partial_first n line text lacks some in
    let stays = front_stays line f.0 in
    let whole : without_last 13 (line ++ f.0) ≡ shown ++ stays.0 = stays.1 ∙ ap (λ t. t ++ stays.0) (sym e) in
    subst (λ t. FailsAtOnce fault (remainder_from m begun block (logical_lines (last ∷ t)))) (sym (f.2 ∙ ap (λ t. (n, t) ∷ f.1) whole)) (h stays.0 n f.1)

-- ---- a line that continues none

apart_after : (last : Line) (n : ℕ) (line text : List ℕ) → list_any is_lf line ≡ false → is_empty line ≡ false → begins_with 32 (without_last 13 line) ≡ false
    → logical_lines (last ∷ physical_lines n (cut is_lf (line ++ text))) ≡ last ∷ logical_lines (physical_lines n (cut is_lf (line ++ text)))
apart_after last n [] text lacks some space = cc
apart_after last n (x ∷ xs) text lacks some space =
    let f = partial_first n (x ∷ xs) text lacks refl in
    let other : begins_with 32 (without_last 13 ((x ∷ xs) ++ f.0)) ≡ false = first_stays x (xs ++ f.0) ∙ sym (first_stays x xs) ∙ space in
    rw f.2 (logical_lines-apart last n (without_last 13 ((x ∷ xs) ++ f.0)) f.1 other)

-- the line before it is closed
pub closed_before : (m m' : Marks) (begun begun' : Bool) (block block' : List Line) (last : Line) (n i : ℕ) (line : List ℕ) → list_any is_lf line ≡ false → is_empty line ≡ false → begins_with 32 (without_last 13 line) ≡ false
    → ((more : List Line) → remainder_from m begun block (last ∷ more) ≡ remainder_from m' begun' block' more) → i ≡ n
    → (text : List ℕ) → remainder_from m begun block (logical_lines (last ∷ physical_lines n (cut is_lf (line ++ text)))) ≡ remainder_from m' begun' block' (logical_lines (physical_lines i (cut is_lf (line ++ text))))
closed_before m m' begun begun' block block' last n i line lacks some space closed same text =
    let rest = logical_lines (physical_lines n (cut is_lf (line ++ text))) in
    ap (remainder_from m begun block) (apart_after last n line text lacks some space) ∙ closed rest ∙ ap (λ k. remainder_from m' begun' block' (logical_lines (physical_lines k (cut is_lf (line ++ text))))) (sym same)

pub apart_Ends : (fault : StreamFault) (m : Marks) (begun : Bool) (block : List Line) (last : Line) (n : ℕ) (line : List ℕ) → list_any is_lf line ≡ false → is_empty line ≡ false → begins_with 32 (without_last 13 line) ≡ false
    → ((more : List Line) → FailsAtOnce fault (remainder_from m begun block (last ∷ more)))
    → (text : List ℕ) → FailsAtOnce fault (remainder_from m begun block (logical_lines (last ∷ physical_lines n (cut is_lf (line ++ text)))))
apart_Ends fault m begun block last n line lacks some space h text =
    subst (λ t. FailsAtOnce fault (remainder_from m begun block t)) (sym (apart_after last n line text lacks some space)) (h (logical_lines (physical_lines n (cut is_lf (line ++ text)))))

-- ---- a chunk after what is in hand

pub rest_some : (j : Unfolder) (last : Line) (front piece : List ℕ) → j.last ≡ Some last → front ≡ j.partial.items
    → (text : List ℕ) → to_come j (piece ++ text) ≡ remainder_from j.marks j.begun j.block.items (logical_lines (last ∷ physical_lines j.number (cut is_lf ((front ++ piece) ++ text))))
rest_some j last front piece is e text = rw (is, e) (ap (λ t. remainder_from j.marks j.begun j.block.items (logical_lines (last ∷ physical_lines j.number (cut is_lf t)))) (sym (append_assoc j.partial.items piece text)))

pub rest_none : (j : Unfolder) (front piece : List ℕ) → j.last ≡ None → front ≡ j.partial.items
    → (text : List ℕ) → to_come j (piece ++ text) ≡ remainder_from j.marks j.begun j.block.items (logical_lines (physical_lines j.number (cut is_lf ((front ++ piece) ++ text))))
rest_none j front piece is e text = rw (is, e) (ap (λ t. remainder_from j.marks j.begun j.block.items (logical_lines (physical_lines j.number (cut is_lf t)))) (sym (append_assoc j.partial.items piece text)))
