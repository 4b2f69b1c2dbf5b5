-- The text of marked groups reads back.
use Rattle.std.proofs.Common.{◌≡◌, ℕ, zero, suc, ◌+◌, ◌<◌, ◌^◌, true, false, List, [], ◌∷◌, ◌++◌, length, map, min, take, codes, refl, sym, ap, ◌∙◌, Some, Ok, arith}
use Rattle.std.specs.List.{flat_map}
use Rattle.dir_names.specs.declared.schema.TypeRow.{TypeRow}
use Rattle.dir_ldif.specs.declared.reader.marks.Marks.{Marks}
use Rattle.dir_ldif.specs.declared.records.Record.{Record}
use Rattle.dir_ldif.specs.LogicalLines.{Line, cut, is_lf, lines_of, logical_lines, physical_lines, with_first_line}
use Rattle.dir_ldif.specs.MarkedGroups.{AreSoundGroups, MarkedGroupsReadBack, MarksAreKnown, marked_groups, marked_text}
use Rattle.dir_ldif.specs.MarkText.{mark_line}
use Rattle.dir_ldif.specs.Marks.{ignored, up_to}
use Rattle.dir_ldif.specs.Records.{Found, all_found, answers_on, marks_up_to, read_up_to, records_of, records_up_to}
use Rattle.dir_ldif.specs.Remainder.{Remainder, blocks_in, done, fails, holds, marks_in, remainder_from}
use Rattle.dir_ldif.specs.RoundTrip.{without_line}
use Rattle.dir_ldif.specs.SoundRecords.{AreLegalAndSound}
use Rattle.dir_ldif.proofs.MarkedBlocks.{AllGroups, blocks_before, groups_left, groups_passed_over, marked_lines, up_at}
use Rattle.dir_ldif.proofs.RemainderLemmas.{remainder_is_blocks}
use Rattle.dir_ldif.proofs.RoundTrip.{answers-back, good_all, records-text}
use Rattle.dir_ldif.proofs.WrittenBlocks.{blocks_text, texts, with_first_line-empty}
use Rattle.dir_ldif.proofs.WrittenRecords.{record_lines}

abbrev group_lines : List Record → List (List (List ℕ))
group_lines group = map record_lines group

-- ---- the text, and its groups

marked-text : (n : ℕ) (groups : List (List Record)) → marked_text n groups ≡ marked_lines n (map group_lines groups)
marked-text n [] = refl
marked-text n (group ∷ groups) =
    ap (λ t. mark_line n ++ (t ++ marked_text (n + 1) groups)) (records-text group) ∙ ap (λ t. mark_line n ++ (blocks_text (group_lines group) ++ t)) (marked-text (n + 1) groups)

count_same : (groups : List (List Record)) → length (map group_lines groups) ≡ length groups
count_same [] = refl
count_same (group ∷ groups) = ap suc (count_same groups)

all_groups : (rows : List TypeRow) (groups : List (List Record)) → AreSoundGroups rows groups → AllGroups (map group_lines groups)
all_groups rows [] h = tt
all_groups rows (group ∷ groups) h = (good_all rows group h.0, all_groups rows groups h.1)

both_sound : (rows : List TypeRow) (one other : List Record) → AreLegalAndSound rows one → AreLegalAndSound rows other → AreLegalAndSound rows (one ++ other)
both_sound rows [] other h k = k
both_sound rows (r ∷ rs) other h k = (h.0, h.1, both_sound rows rs other h.2 k)

all_sound : (rows : List TypeRow) (groups : List (List Record)) → AreSoundGroups rows groups → AreLegalAndSound rows (flat_map (λ g. g) groups)
all_sound rows [] h = tt
all_sound rows (group ∷ groups) h = both_sound rows group (flat_map (λ g. g) groups) h.0 (all_sound rows groups h.1)

first_groups : (rows : List TypeRow) (k : ℕ) (groups : List (List Record)) → AreSoundGroups rows groups → AreSoundGroups rows (take k groups)
first_groups rows zero groups h = tt
first_groups rows (suc k) [] h = tt
first_groups rows (suc k) (group ∷ groups) h = (h.0, first_groups rows k groups h.1)

lines_append : (one other : List Record) → map record_lines (one ++ other) ≡ map record_lines one ++ map record_lines other
lines_append [] other = refl
lines_append (r ∷ rs) other = ap (λ t. record_lines r ∷ t) (lines_append rs other)

lines_joined : (groups : List (List Record)) → flat_map (λ g. g) (map group_lines groups) ≡ map record_lines (flat_map (λ g. g) groups)
lines_joined [] = refl
lines_joined (group ∷ groups) = ap (λ t. group_lines group ++ t) (lines_joined groups) ∙ sym (lines_append group (flat_map (λ g. g) groups))

first_lines : (k : ℕ) (groups : List (List Record)) → take k (map group_lines groups) ≡ map group_lines (take k groups)
first_lines zero groups = refl
first_lines (suc k) [] = refl
first_lines (suc k) (group ∷ groups) = ap (λ t. group_lines group ∷ t) (first_lines k groups)

none_more : (n : ℕ) → 0 + n ≡ n
none_more n = omega arith

-- ---- what is left to be read

blocks_are : (found : List (List Line)) (n : ℕ) → blocks_in (blocks_before found (done n)) ≡ map (λ (b : List Line). Ok b) found
blocks_are [] n = refl
blocks_are (block ∷ found) n = ap (λ t. Ok block ∷ t) (blocks_are found n)

marks_are : (found : List (List Line)) (n : ℕ) → marks_in (blocks_before found (done n)) ≡ Some n
marks_are [] n = refl
marks_are (block ∷ found) n = marks_are found n

-- the records of these blocks
answers_are : (rows : List TypeRow) (records : List Record) (found : List (List Line)) (n : ℕ) (left : Remainder) → left ≡ blocks_before found (done n) → map texts found ≡ map record_lines records → AreLegalAndSound rows records
    → map without_line (answers_on rows (blocks_in left)) ≡ map (λ (r : Record). Ok (Ok r)) records
answers_are rows records found n left is same sound =
    ap (λ t. map without_line (answers_on rows (blocks_in t))) is ∙ ap (λ t. map without_line (answers_on rows t)) (blocks_are found n) ∙ answers-back rows records found same sound

-- the version line comes first
after_version : (m : Marks) (text : List ℕ) → m.is_over ≡ false → remainder_from m false [] (lines_of (codes "version: 1\n\n" ++ text)) ≡ remainder_from m true [] (logical_lines (physical_lines 3 (cut is_lf text)))
after_version m text going =
    let rest = logical_lines (physical_lines 3 (cut is_lf text)) in
    ap (λ t. remainder_from m false [] (with_first_line (1, codes "version: 1") t)) (with_first_line-empty 2 rest) ∙ rw (going) refl

module _ (rows : List TypeRow) (groups : List (List Record)) (sound : AreSoundGroups rows groups) where
  abbrev all : List (List (List (List ℕ)))
  all = map group_lines groups

  begins : (m : Marks) → m.is_over ≡ false → remainder_from m false [] (lines_of (marked_groups groups)) ≡ remainder_from m true [] (logical_lines (physical_lines 3 (cut is_lf (marked_lines 1 all))))
  begins m going = ap (λ t. remainder_from m false [] (lines_of (codes "version: 1\n\n" ++ t))) (marked-text 1 groups) ∙ after_version m (marked_lines 1 all) going

  all_read : map without_line (records_of rows (marked_groups groups)) ≡ map (λ (r : Record). Ok (Ok r)) (flat_map (λ g. g) groups)
  all_read =
      let found = groups_passed_over 1 all 3 (all_groups rows groups sound) in
      ap (λ t. map without_line (answers_on rows t)) (sym (remainder_is_blocks false [] (lines_of (marked_groups groups))))
      ∙ answers_are rows (flat_map (λ g. g) groups) found.0 0 (remainder_from ignored false [] (lines_of (marked_groups groups))) (begins ignored refl ∙ found.2) (found.1 ∙ lines_joined groups) (all_sound rows groups sound)

  module _ (k : ℕ) (fits : k < 2 ^ 64) where
    first_left : (found : List (List Line)) × (map texts found ≡ flat_map (λ g. g) (take k all)) × (remainder_from (up_to k) false [] (lines_of (marked_groups groups)) ≡ blocks_before found (done (min k (length groups))))
    first_left =
        let found = groups_left 0 k all 3 (all_groups rows groups sound) (omega (arith, fits)) in (
          found.0,
          found.1,
          ap (λ n. remainder_from (up_to n) false [] (lines_of (marked_groups groups))) (sym (none_more k)) ∙ begins (up_at 0 k) refl ∙ found.2
              ∙ ap (λ n. blocks_before found.0 (done n)) (none_more (min k (length all))) ∙ ap (λ n. blocks_before found.0 (done (min k n))) (count_same groups),
        )

    first_read : map without_line (records_up_to rows k (marked_groups groups)) ≡ map (λ (r : Record). Ok (Ok r)) (flat_map (λ g. g) (take k groups))
    first_read =
        let same : map texts first_left.0 ≡ map record_lines (flat_map (λ g. g) (take k groups)) = first_left.1 ∙ ap (λ t. flat_map (λ g. g) t) (first_lines k groups) ∙ lines_joined (take k groups) in
        answers_are rows (flat_map (λ g. g) (take k groups)) first_left.0 (min k (length groups)) (remainder_from (up_to k) false [] (lines_of (marked_groups groups))) first_left.2 same (all_sound rows (take k groups) (first_groups rows k groups sound))

    marks_read : marks_up_to k (marked_groups groups) ≡ Some (min k (length groups))
    marks_read = ap marks_in first_left.2 ∙ marks_are first_left.0 (min k (length groups))

pub groups-read : MarkedGroupsReadBack
groups-read rows groups sound = (all_read rows groups sound, λ k fits. (first_read rows groups sound k fits, marks_read rows groups sound k fits))

-- ---- the marks of a text that ends in no fault

marks_of : (rows : List TypeRow) (left : Remainder) (found : List Found) → answers_on rows (blocks_in left) ≡ all_found found → (n : ℕ) × (marks_in left ≡ Some n)
marks_of rows (done n) found is = (n, refl)
marks_of rows (fails fault) [] is = absurd (cc)
marks_of rows (fails fault) (f ∷ found) is = absurd (cc)
marks_of rows (holds block left) [] is = absurd (cc)
marks_of rows (holds block left) (f ∷ found) is = marks_of rows left found (cc)

pub marks-known : MarksAreKnown
marks-known rows groups text found is = marks_of rows (read_up_to groups text) found is
