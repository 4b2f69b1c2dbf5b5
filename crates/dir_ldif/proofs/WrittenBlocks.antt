-- The written lines of records read back as their blocks.
use Rattle.std.proofs.Common.{◌≡◌, ℕ, ◌+◌, ◌≤◌, true, false, not, eqb, List, [], ◌∷◌, ◌++◌, length, map, refl, sym, ap, subst, ◌∙◌, append_assoc, append-nil, Ok, arith}
use Rattle.std.specs.Bool.{⊤}
use Rattle.std.specs.List.{list_any, flat_map}
use Rattle.std.proofs.lemmas.Bool.Decides.{nat_tests}
use Rattle.dir_ldif.specs.declared.reader.version.Version.TheVariants.{Absent}
use Rattle.dir_ldif.specs.Bytes.{is_empty, begins_with, without_last, is_line_break}
use Rattle.dir_ldif.specs.LogicalLines.{Line, cut, is_comment, is_lf, is_long, logical_lines, physical_lines, with_first_line}
use Rattle.dir_ldif.specs.Blocks.{BlockResult, block_then, blocks_from, version_of}
use Rattle.dir_ldif.specs.LineText.{folded_line}
use Rattle.dir_ldif.proofs.FoldedLines.{front, more, cut-folded_line, front-lacks, without_last-lacks, apart, line_reads}

-- a line of a record: some bytes without LF and CR, the first of which is no space and no `#`
abbrev pub Good : List ℕ → Type 0
Good [] = ⊥
Good (c ∷ cs) = (list_any is_line_break (c ∷ cs) ≡ false) × (eqb c 32 ≡ false) × (eqb c 35 ≡ false) × (length (c ∷ cs) ≤ 2097152)

abbrev pub AllGood : List (List ℕ) → Type 0
AllGood [] = ⊤
AllGood (line ∷ lines) = Good line × AllGood lines

abbrev pub texts : List Line → List (List ℕ)
texts block = map (λ (l : Line). l.1) block

apart-good : (line rest : List ℕ) → Good line → apart (cut is_lf (folded_line line ++ rest)) ≡ true
unfolding front more
apart-good [] rest g = absurd g
apart-good (c ∷ cs) rest g =
    let first : without_last 13 (c ∷ front 75 cs) ≡ c ∷ front 75 cs = without_last-lacks (c ∷ front 75 cs) (front-lacks 76 (c ∷ cs) g.0) in
    ap apart (cut-folded_line 76 (c ∷ cs) rest g.0) ∙ ap (λ t. not (begins_with 32 t)) first ∙ ap not g.1

pub apart-lines : (lines : List (List ℕ)) (rest : List ℕ) → AllGood lines → apart (cut is_lf rest) ≡ true → apart (cut is_lf (flat_map folded_line lines ++ rest)) ≡ true
apart-lines [] rest g a = a
apart-lines (line ∷ lines) rest g a =
    ap (λ t. apart (cut is_lf t)) (append_assoc (folded_line line) (flat_map folded_line lines) rest) ∙ apart-good line (flat_map folded_line lines ++ rest) g.0

-- the lines of a block read back
lines_read : (lines : List (List ℕ)) (rest : List ℕ) (n : ℕ) → AllGood lines → apart (cut is_lf rest) ≡ true
    → (block : List Line) × (m : ℕ) × (texts block ≡ lines) × (logical_lines (physical_lines n (cut is_lf (flat_map folded_line lines ++ rest))) ≡ block ++ logical_lines (physical_lines m (cut is_lf rest)))
lines_read [] rest n g a = ([], n, refl, refl)
lines_read ([] ∷ lines) rest n g a = absurd g.0
lines_read ((c ∷ cs) ∷ lines) rest n g a =
    let after = flat_map folded_line lines ++ rest in
    let here = line_reads c cs after n g.0.0 (apart-lines lines rest g.1 a) in
    let later = lines_read lines rest here.0 g.1 a in (
      (n, c ∷ cs) ∷ later.0,
      later.1,
      ap (λ t. (c ∷ cs) ∷ t) later.2,
      ap (λ t. logical_lines (physical_lines n (cut is_lf t))) (append_assoc (folded_line (c ∷ cs)) (flat_map folded_line lines) rest) ∙ here.1 ∙ ap (λ t. (n, c ∷ cs) ∷ t) later.3,
    )

pub with_first_line-empty : (n : ℕ) (rest : List Line) → with_first_line (n, []) rest ≡ (n, []) ∷ rest
with_first_line-empty n [] = refl
with_first_line-empty n (r ∷ rs) = refl

abbrev pub block_text : List (List ℕ) → List ℕ
block_text lines = flat_map folded_line lines ++ 10 ∷ []

-- a block and its empty line
pub block_reads : (lines : List (List ℕ)) (rest : List ℕ) (n : ℕ) → AllGood lines
    → (block : List Line) × (m : ℕ) × (texts block ≡ lines) × (logical_lines (physical_lines n (cut is_lf (block_text lines ++ rest))) ≡ block ++ (m, []) ∷ logical_lines (physical_lines (m + 1) (cut is_lf rest)))
block_reads lines rest n g =
    let r = lines_read lines (10 ∷ rest) n g refl in (
      r.0,
      r.1,
      r.2,
      ap (λ t. logical_lines (physical_lines n (cut is_lf t))) (append_assoc (flat_map folded_line lines) (10 ∷ []) rest) ∙ r.3 ∙ ap (λ t. r.0 ++ t) (with_first_line-empty r.1 (logical_lines (physical_lines (r.1 + 1) (cut is_lf rest)))),
    )

-- ---- blocks

pub good_short : (n : ℕ) (text : List ℕ) → Good text → is_long (n, text) ≡ false
good_short n [] g = absurd g
good_short n (c ∷ cs) g = let within : length (c ∷ cs) ≤ 2097152 = g.3 in grind (arith, nat_tests)

pub good_kept : (n : ℕ) (text : List ℕ) → Good text → is_comment (n, text) ≡ false
good_kept n [] g = absurd g
good_kept n (c ∷ cs) g = g.2

pub good_some : (text : List ℕ) → Good text → is_empty text ≡ false
good_some [] g = absurd g
good_some (c ∷ cs) g = refl

-- a block that has begun, and the empty line after it
pub block_parts : (block held : List Line) (n : ℕ) (rest : List Line) → AllGood (texts block) → blocks_from true held (block ++ (n, []) ∷ rest) ≡ block_then (held ++ block) (blocks_from true [] rest)
block_parts [] held n rest g = ap (λ t. block_then t (blocks_from true [] rest)) (sym (append-nil held))
block_parts (line ∷ lines) held n rest g =
    rw (good_short line.0 line.1 g.0, good_kept line.0 line.1 g.0, good_some line.1 g.0)
    (block_parts lines (held ++ line ∷ []) n rest g.1 ∙ ap (λ t. block_then t (blocks_from true [] rest)) (append_assoc held (line ∷ []) lines))

-- the same where it begins the text
pub first_parts : (line : Line) (lines : List Line) (n : ℕ) (rest : List Line) → AllGood (texts (line ∷ lines)) → version_of line.1 ≡ Absent
    → blocks_from false [] ((line ∷ lines) ++ (n, []) ∷ rest) ≡ Ok (line ∷ lines) ∷ blocks_from true [] rest
first_parts line lines n rest g v =
    rw (good_short line.0 line.1 g.0, good_kept line.0 line.1 g.0, good_some line.1 g.0, v) (block_parts lines (line ∷ []) n rest g.1)

-- a list of blocks, each with lines
abbrev pub AllBlocks : List (List (List ℕ)) → Type 0
AllBlocks [] = ⊤
AllBlocks (lines ∷ others) = AllGood lines × (is_empty lines ≡ false) × AllBlocks others

pub block_then-some : (block : List Line) (lines : List (List ℕ)) (rest : List BlockResult) → texts block ≡ lines → is_empty lines ≡ false → block_then block rest ≡ Ok block ∷ rest
block_then-some [] lines rest e some = let none : [] ≡ lines = e in let never : true ≡ false = ap is_empty none ∙ some in cc
block_then-some (line ∷ block) lines rest e some = refl

abbrev pub blocks_text : List (List (List ℕ)) → List ℕ
blocks_text blocks = flat_map block_text blocks

pub blocks_read : (all : List (List (List ℕ))) (n : ℕ) → AllBlocks all
    → (blocks : List (List Line)) × (map texts blocks ≡ all) × (blocks_from true [] (logical_lines (physical_lines n (cut is_lf (blocks_text all)))) ≡ map (λ (b : List Line). Ok b) blocks)
blocks_read [] n g = ([], refl, refl)
blocks_read (lines ∷ others) n g =
    let here = block_reads lines (blocks_text others) n g.0 in
    let later = blocks_read others (here.1 + 1) g.2 in
    let good : AllGood (texts here.0) = subst AllGood (sym here.2) g.0 in
    let rest = logical_lines (physical_lines (here.1 + 1) (cut is_lf (blocks_text others))) in (
      here.0 ∷ later.0,
      ap (λ t. t ∷ map texts later.0) here.2 ∙ ap (λ t. lines ∷ t) later.1,
      ap (blocks_from true []) here.3 ∙ block_parts here.0 [] here.1 rest good ∙ block_then-some here.0 lines (blocks_from true [] rest) here.2 g.1 ∙ ap (λ t. Ok here.0 ∷ t) later.2,
    )
