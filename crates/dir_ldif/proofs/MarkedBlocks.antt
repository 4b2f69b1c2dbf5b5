-- What a reader that counts groups has left of a text of marked groups.
use Rattle.std.proofs.Common.{◌≡◌, ℕ, zero, suc, ◌+◌, ◌<◌, ◌≤◌, ◌^◌, Bool, true, false, not, eqb, nat_lt, drop, List, [], ◌∷◌, ◌++◌, length, map, min, take, refl, sym, ap, subst, ◌∙◌, append_assoc, append-nil, if◌then◌else◌, Some, Ok, arith}
use Rattle.std.specs.List.{flat_map}
use Rattle.std.proofs.lemmas.Bool.Decides.{nat_tests}
use Rattle.dir_ldif.specs.declared.reader.marks.Marks.{Marks}
use Rattle.dir_ldif.specs.Bytes.{is_empty}
use Rattle.dir_ldif.specs.LineText.{folded_line}
use Rattle.dir_ldif.specs.LogicalLines.{Line, cut, is_lf, logical_lines, physical_lines}
use Rattle.dir_ldif.specs.Marks.{after_comment, after_due, after_mark, ignored, may_have_records}
use Rattle.dir_ldif.specs.MarkText.{mark_line, mark_of}
use Rattle.dir_ldif.specs.Remainder.{Remainder, after_marks, done, holds, remainder_from, then_rest}
use Rattle.std.specs.Bool.{⊤}
use Rattle.std.specs.Str.{bytes_eq}
use Rattle.std.specs.List.{onto_first}
use Rattle.dir_ldif.proofs.FoldedLines.{apart}
use Rattle.dir_ldif.proofs.MarkLines.{mark_is_mark, mark_reads, mark_short}
use Rattle.dir_ldif.proofs.PartialLines.{first_stays}
use Rattle.dir_ldif.proofs.WrittenBlocks.{AllBlocks, AllGood, apart-lines, block_reads, block_text, blocks_text, good_kept, good_short, good_some, texts}

-- blocks before what follows them
abbrev pub blocks_before : List (List Line) → Remainder → Remainder
blocks_before [] left = left
blocks_before (block ∷ blocks) left = holds block (blocks_before blocks left)

then_rest-some : (block : List Line) (lines : List (List ℕ)) (left : Remainder) → texts block ≡ lines → is_empty lines ≡ false → then_rest block left ≡ holds block left
then_rest-some [] lines left e some = let none : [] ≡ lines = e in let never : true ≡ false = ap is_empty none ∙ some in cc
then_rest-some (line ∷ block) lines left e some = refl

if_true : {A : Type 0} (v : Bool) (x y : A) → v ≡ true → (if v then x else y) ≡ x
if_true v x y e = rw e refl

if_false : {A : Type 0} (v : Bool) (x y : A) → v ≡ false → (if v then x else y) ≡ y
if_false v x y e = rw e refl

module _ (m : Marks) (going : m.is_over ≡ false) (may : may_have_records m ≡ true) where
  block_left : (block held : List Line) (n : ℕ) (rest : List Line) → AllGood (texts block) → remainder_from m true held (block ++ (n, []) ∷ rest) ≡ then_rest (held ++ block) (remainder_from m true [] rest)
  block_left [] held n rest g = if_false m.is_over _ _ going ∙ ap (λ t. then_rest t (remainder_from m true [] rest)) (sym (append-nil held))
  block_left (line ∷ lines) held n rest g =
      if_false m.is_over _ _ going ∙ if_false _ _ _ (good_short line.0 line.1 g.0) ∙ if_false _ _ _ (good_kept line.0 line.1 g.0) ∙ if_false _ _ _ (good_some line.1 g.0) ∙ if_true _ _ _ may
      ∙ block_left lines (held ++ line ∷ []) n rest g.1 ∙ ap (λ t. then_rest t (remainder_from m true [] rest)) (append_assoc held (line ∷ []) lines)

  -- the blocks of a group, and what follows them
  pub group_left : (all : List (List (List ℕ))) (rest : List ℕ) (i : ℕ) → AllBlocks all
      → (blocks : List (List Line)) × (j : ℕ) × (map texts blocks ≡ all)
      × (remainder_from m true [] (logical_lines (physical_lines i (cut is_lf (blocks_text all ++ rest)))) ≡ blocks_before blocks (remainder_from m true [] (logical_lines (physical_lines j (cut is_lf rest)))))
  group_left [] rest i g = ([], i, refl, refl)
  group_left (lines ∷ others) rest i g =
      let here = block_reads lines (blocks_text others ++ rest) i g.0 in
      let later = group_left others rest (here.1 + 1) g.2 in
      let good : AllGood (texts here.0) = subst AllGood (sym here.2) g.0 in
      let after = logical_lines (physical_lines (here.1 + 1) (cut is_lf (blocks_text others ++ rest))) in (
        here.0 ∷ later.0,
        later.1,
        ap (λ t. t ∷ map texts later.0) here.2 ∙ ap (λ t. lines ∷ t) later.2,
        ap (λ t. remainder_from m true [] (logical_lines (physical_lines i (cut is_lf t)))) (append_assoc (block_text lines) (blocks_text others) rest)
            ∙ ap (remainder_from m true []) here.3 ∙ block_left here.0 [] here.1 after good ∙ then_rest-some here.0 lines (remainder_from m true [] after) here.2 g.1 ∙ ap (holds here.0) later.3,
      )

-- blocks continue nothing
pub apart-blocks : (all : List (List (List ℕ))) (rest : List ℕ) → AllBlocks all → apart (cut is_lf rest) ≡ true → apart (cut is_lf (blocks_text all ++ rest)) ≡ true
apart-blocks [] rest g a = a
apart-blocks (lines ∷ others) rest g a =
    ap (λ t. apart (cut is_lf t)) (append_assoc (block_text lines) (blocks_text others) rest ∙ append_assoc (flat_map folded_line lines) (10 ∷ []) (blocks_text others ++ rest))
    ∙ apart-lines lines (10 ∷ (blocks_text others ++ rest)) g.0 refl

-- ---- marks

bytes_same : (xs : List ℕ) → bytes_eq xs xs ≡ true
bytes_same [] = refl
bytes_same (x ∷ xs) = let here : eqb x x ≡ true = grind (arith, nat_tests) in rw here (bytes_same xs)

over_lines : (m : Marks) (lines : List Line) → m.is_over ≡ true → remainder_from m true [] lines ≡ done m.passed
over_lines m [] e = refl
over_lines m (line ∷ lines) e = if_true m.is_over _ _ e

-- a comment continues nothing
apart-onto : (pieces : List (List ℕ)) → apart (onto_first 35 pieces) ≡ true
apart-onto [] = refl
apart-onto (p ∷ ps) = ap not (first_stays 35 p)

apart-sharp : (rest : List ℕ) → apart (cut is_lf (35 ∷ rest)) ≡ true
apart-sharp rest = apart-onto (cut is_lf rest)

-- the marks of a reader that has passed so many, and wants so many more
abbrev pub up_at : ℕ → ℕ → Marks
up_at passed left = record { groups = Some (passed + left); passed = passed; is_over = false }

-- a mark stands where a block may begin
mark_left : (m : Marks) (n i : ℕ) (lines : List Line) → m.is_over ≡ false → remainder_from m true [] ((i, mark_of n) ∷ lines) ≡ after_marks (λ m'. remainder_from m' true [] lines) (after_comment m (mark_of n))
mark_left m n i lines going = if_false m.is_over _ _ going ∙ if_false _ _ _ (mark_short n i)

due : (m : Marks) (groups n : ℕ) → n ≡ m.passed + 1 → 0 < n → n ≤ 2 ^ 64 → after_mark (Some groups) m (mark_of n) ≡ Ok (after_due groups m)
due m groups n is some fits =
    if_false _ _ _ (ap not (mark_is_mark n some fits)) ∙ if_true _ _ _ (subst (λ k. bytes_eq (mark_of n) (mark_of k) ≡ true) is (bytes_same (mark_of n)))

-- the text of the lines of groups, each after its mark
abbrev pub marked_lines : ℕ → List (List (List (List ℕ))) → List ℕ
marked_lines n [] = []
marked_lines n (group ∷ groups) = mark_line n ++ (blocks_text group ++ marked_lines (n + 1) groups)

abbrev pub AllGroups : List (List (List (List ℕ))) → Type 0
AllGroups [] = ⊤
AllGroups (group ∷ groups) = AllBlocks group × AllGroups groups

apart-marked : (n : ℕ) (groups : List (List (List (List ℕ)))) → apart (cut is_lf (marked_lines n groups)) ≡ true
apart-marked n [] = refl
apart-marked n (group ∷ groups) = apart-sharp (drop 1 (mark_line n) ++ (blocks_text group ++ marked_lines (n + 1) groups))

blocks_append : (one other : List (List Line)) (left : Remainder) → blocks_before one (blocks_before other left) ≡ blocks_before (one ++ other) left
blocks_append [] other left = refl
blocks_append (b ∷ bs) other left = ap (holds b) (blocks_append bs other left)

map_append : (one other : List (List Line)) → map texts (one ++ other) ≡ map texts one ++ map texts other
map_append [] other = refl
map_append (b ∷ bs) other = ap (λ t. texts b ∷ t) (map_append bs other)

count_none : (p l : ℕ) → p ≡ p + min l 0
count_none p l = omega arith

count_zero : (p n : ℕ) → p ≡ p + min 0 n
count_zero p n = omega arith

pub groups_left : (passed left : ℕ) (groups : List (List (List (List ℕ)))) (i : ℕ) → AllGroups groups → passed + left < 2 ^ 64
    → (found : List (List Line)) × (map texts found ≡ flat_map (λ g. g) (take left groups))
    × (remainder_from (up_at passed left) true [] (logical_lines (physical_lines i (cut is_lf (marked_lines (passed + 1) groups)))) ≡ blocks_before found (done (passed + min left (length groups))))
groups_left passed zero [] i g fits = ([], refl, ap done (count_none passed zero))
groups_left passed (suc left) [] i g fits = ([], refl, ap done (count_none passed (suc left)))
groups_left passed zero (group ∷ groups) i g fits =
    let n = passed + 1 in
    let rest = blocks_text group ++ marked_lines (n + 1) groups in
    let m = up_at passed zero in
    let lines = logical_lines (physical_lines (i + 1) (cut is_lf rest)) in
    let last : after_due (passed + zero) m ≡ record m { is_over = true } = if_false (nat_lt passed (passed + zero)) _ _ (grind (arith, nat_tests)) in (
      [],
      refl,
      ap (remainder_from m true []) (mark_reads n i rest (apart-blocks group (marked_lines (n + 1) groups) g.0 (apart-marked (n + 1) groups)))
          ∙ mark_left m n i lines refl
          ∙ ap (after_marks (λ m'. remainder_from m' true [] lines)) (due m (passed + zero) n refl (omega arith) (omega (arith, fits)) ∙ ap Ok last)
          ∙ over_lines (record m { is_over = true }) lines refl ∙ ap done (count_zero passed (suc (length groups))),
    )
groups_left passed (suc left) (group ∷ groups) i g fits =
    let n = passed + 1 in
    let rest = blocks_text group ++ marked_lines (n + 1) groups in
    let m = up_at passed (suc left) in
    let next : Marks = up_at (passed + 1) left in
    let lines = logical_lines (physical_lines (i + 1) (cut is_lf rest)) in
    let one_more : (passed + 1) + left ≡ passed + suc left = omega arith in
    let passes : after_due (passed + suc left) m ≡ next = if_true (nat_lt passed (passed + suc left)) _ _ (grind (arith, nat_tests)) ∙ ap (λ k. record { groups = Some k; passed = passed + 1; is_over = false }) (sym one_more) in
    let here = group_left next refl (grind (arith, nat_tests)) group (marked_lines (n + 1) groups) (i + 1) g.0 in
    let later = groups_left (passed + 1) left groups here.1 g.1 (omega (arith, fits)) in (
      here.0 ++ later.0,
      map_append here.0 later.0 ∙ ap (λ t. t ++ map texts later.0) here.2 ∙ ap (λ t. group ++ t) later.1,
      ap (remainder_from m true []) (mark_reads n i rest (apart-blocks group (marked_lines (n + 1) groups) g.0 (apart-marked (n + 1) groups)))
          ∙ mark_left m n i lines refl
          ∙ ap (after_marks (λ m'. remainder_from m' true [] lines)) (due m (passed + suc left) n refl (omega arith) (omega (arith, fits)) ∙ ap Ok passes)
          ∙ here.3 ∙ ap (blocks_before here.0) later.2 ∙ blocks_append here.0 later.0 _ ∙ ap (λ k. blocks_before (here.0 ++ later.0) (done k)) (count passed left (length groups)),
    )
  where
    count : (p l n : ℕ) → (p + 1) + min l n ≡ p + min (suc l) (suc n)
    count p l n = omega arith

-- where marks are comments, the blocks of all groups are left
pub groups_passed_over : (n : ℕ) (groups : List (List (List (List ℕ)))) (i : ℕ) → AllGroups groups
    → (found : List (List Line)) × (map texts found ≡ flat_map (λ g. g) groups)
    × (remainder_from ignored true [] (logical_lines (physical_lines i (cut is_lf (marked_lines n groups)))) ≡ blocks_before found (done 0))
groups_passed_over n [] i g = ([], refl, refl)
groups_passed_over n (group ∷ groups) i g =
    let rest = blocks_text group ++ marked_lines (n + 1) groups in
    let lines = logical_lines (physical_lines (i + 1) (cut is_lf rest)) in
    let here = group_left ignored refl refl group (marked_lines (n + 1) groups) (i + 1) g.0 in
    let later = groups_passed_over (n + 1) groups here.1 g.1 in (
      here.0 ++ later.0,
      map_append here.0 later.0 ∙ ap (λ t. t ++ map texts later.0) here.2 ∙ ap (λ t. group ++ t) later.1,
      ap (remainder_from ignored true []) (mark_reads n i rest (apart-blocks group (marked_lines (n + 1) groups) g.0 (apart-marked (n + 1) groups)))
          ∙ mark_left ignored n i lines refl ∙ here.3 ∙ ap (blocks_before here.0) later.2 ∙ blocks_append here.0 later.0 _,
    )
