-- Blocks of written lines read back.
use Rattle.std.proofs.Common.{◌≡◌, ℕ, ◌+◌, ◌≤◌, All, true, false, not, ◌&&◌, eqb, List, [], ◌∷◌, ◌++◌, length, map, codes, refl, sym, ap, subst, ◌∙◌, Ok}
use Rattle.std.specs.List.{list_any}
use Rattle.std.specs.Str.{str_eq_ignore_ascii_case}
use Rattle.std.proofs.lemmas.List.Folds.{flat_map-map}
use Rattle.std.proofs.lemmas.List.Elements.{All-head, All-tail}
use Rattle.base64.specs.GeneralPurpose.{IsBytes}
use Rattle.dir_ldif.specs.declared.reader.version.Version.TheVariants.{Absent}
use Rattle.dir_ldif.specs.AttrVal.{attrval_of}
use Rattle.dir_ldif.specs.Blocks.{blocks_from, blocks_of, version_of, version_of_cut, version_word}
use Rattle.dir_ldif.specs.Bytes.{is_empty, cut_at}
use Rattle.dir_ldif.specs.LineText.{folded_line, line_of}
use Rattle.dir_ldif.specs.LogicalLines.{Line, cut, is_lf, logical_lines, physical_lines, with_first_line}
use Rattle.dir_ldif.specs.RoundTrip.{ends_name}
use Rattle.dir_ldif.specs.WrittenBlocks.{IsWritable, IsWritableBlock, Parts, ReadsAsBlocks, WrittenBlocksReadBack, begins_with_version, is_line_name, parts_of, written_block, written_blocks}
use Rattle.dir_ldif.proofs.WrittenBlocks.{AllBlocks, AllGood, Good, block_text, blocks_text, block_reads, blocks_read, first_parts, texts, with_first_line-empty}
use Rattle.dir_ldif.proofs.WrittenLines.{and_first, and_second, attrval_of-line, cut_at-name, if_false, line-clean, name-colon, name-end, not_so, tail_of, value_spec-tail}

-- ---- a line

-- what a name with which a line can begin lacks
name-allowed : (b : ℕ) (name : List ℕ) → is_line_name (b ∷ name) ≡ true → list_any ends_name (b ∷ name) ≡ false
name-allowed b name e = not_so (list_any ends_name (b ∷ name)) (and_second (not (eqb b 32) && not (eqb b 35)) (not (list_any ends_name (b ∷ name))) e)

name-first : (b : ℕ) (name : List ℕ) → is_line_name (b ∷ name) ≡ true → (not (eqb b 32) && not (eqb b 35)) ≡ true
name-first b name e = and_first (not (eqb b 32) && not (eqb b 35)) (not (list_any ends_name (b ∷ name))) e

good-line : (name value : List ℕ) → is_line_name name ≡ true → length (line_of name value) ≤ 2097152 → Good (line_of name value)
good-line [] value e whole = cc
good-line (b ∷ name) value e whole = (
  line-clean (b ∷ name) value (name-end (b ∷ name) (name-allowed b name e)),
  not_so (eqb b 32) (and_first (not (eqb b 32)) (not (eqb b 35)) (name-first b name e)),
  not_so (eqb b 35) (and_second (not (eqb b 32)) (not (eqb b 35)) (name-first b name e)),
  whole,
)

line-back : (name value : List ℕ) → is_line_name name ≡ true → IsBytes value → length value ≤ 1048576 → attrval_of (line_of name value) ≡ Ok (name, value)
line-back [] value e bytes short = cc
line-back (b ∷ name) value e bytes short = attrval_of-line b name value (name-colon (b ∷ name) (name-allowed b name e)) bytes short

-- a line of another name is no version line
no-version : (name value : List ℕ) → is_line_name name ≡ true → str_eq_ignore_ascii_case name version_word ≡ false → version_of (line_of name value) ≡ Absent
no-version [] value e other = cc
no-version (b ∷ name) value e other =
    ap (λ t. version_of_cut (cut_at 58 ((b ∷ name) ++ t))) (value_spec-tail value) ∙ ap version_of_cut (cut_at-name (b ∷ name) (tail_of value) (name-colon (b ∷ name) (name-allowed b name e)))
    ∙ if_false _ _ _ other

-- ---- the lines of blocks

-- the lines, unfolded
abbrev lines_in : List Parts → List (List ℕ)
lines_in block = map (λ (line : Parts). line_of line.0 line.1) block

good-lines : (block : List Parts) → All IsWritable block → AllGood (lines_in block)
good-lines [] w = tt
good-lines (line ∷ lines) w =
    let here = All-head IsWritable line lines w in
    (good-line line.0 line.1 here.name here.whole, good-lines lines (All-tail IsWritable line lines w))

some-lines : (block : List Parts) → is_empty block ≡ false → is_empty (lines_in block) ≡ false
some-lines [] some = some
some-lines (line ∷ lines) some = refl

good-blocks : (blocks : List (List Parts)) → All IsWritableBlock blocks → AllBlocks (map lines_in blocks)
good-blocks [] w = tt
good-blocks (block ∷ blocks) w =
    let here = All-head IsWritableBlock block blocks w in
    (good-lines block here.1, some-lines block here.0, good-blocks blocks (All-tail IsWritableBlock block blocks w))

-- the text of blocks is that of their lines
block-text : (block : List Parts) → written_block block ≡ block_text (lines_in block)
block-text block = ap (λ t. t ++ 10 ∷ []) (sym (flat_map-map folded_line (λ (line : Parts). line_of line.0 line.1) block))

blocks-text : (blocks : List (List Parts)) → written_blocks blocks ≡ blocks_text (map lines_in blocks)
blocks-text [] = refl
blocks-text (block ∷ blocks) = ap (λ t. t ++ written_blocks blocks) (block-text block) ∙ ap (λ t. block_text (lines_in block) ++ t) (blocks-text blocks)

-- ---- what is read

lines-back : (block : List Parts) (found : List Line) → texts found ≡ lines_in block → All IsWritable block → map (λ (l : Line). attrval_of l.1) found ≡ map (λ (line : Parts). Ok line) block
lines-back [] [] e w = refl
lines-back [] (l ∷ ls) e w = cc
lines-back (line ∷ lines) [] e w = cc
lines-back (line ∷ lines) (l ∷ ls) e w =
    let text : l.1 ≡ line_of line.0 line.1 = cc in
    let rest : texts ls ≡ lines_in lines = cc in
    let here = All-head IsWritable line lines w in
    ap (λ t. t ∷ map (λ (k : Line). attrval_of k.1) ls) (ap attrval_of text ∙ line-back line.0 line.1 here.name here.bytes here.value)
    ∙ ap (λ t. Ok line ∷ t) (lines-back lines ls rest (All-tail IsWritable line lines w))

blocks-back : (blocks : List (List Parts)) (found : List (List Line)) → map texts found ≡ map lines_in blocks → All IsWritableBlock blocks
    → map parts_of (map (λ (b : List Line). Ok b) found) ≡ map (λ (block : List Parts). Ok (map (λ (line : Parts). Ok line) block)) blocks
blocks-back [] [] e w = refl
blocks-back [] (f ∷ fs) e w = cc
blocks-back (block ∷ blocks) [] e w = cc
blocks-back (block ∷ blocks) (f ∷ fs) e w =
    let here : texts f ≡ lines_in block = cc in
    let rest : map texts fs ≡ map lines_in blocks = cc in
    ap (λ t. Ok t ∷ map parts_of (map (λ (b : List Line). Ok b) fs)) (lines-back block f here (All-head IsWritableBlock block blocks w).1)
    ∙ ap (λ t. Ok (map (λ (line : Parts). Ok line) block) ∷ t) (blocks-back blocks fs rest (All-tail IsWritableBlock block blocks w))

-- the first block, whose first line is no version line
first-block : (line : Parts) (lines : List Parts) (found : List Line) (n : ℕ) (rest : List Line) → texts found ≡ lines_in (line ∷ lines) → All IsWritable (line ∷ lines)
    → str_eq_ignore_ascii_case line.0 version_word ≡ false → blocks_from false [] (found ++ (n, []) ∷ rest) ≡ Ok found ∷ blocks_from true [] rest
first-block line lines [] n rest e w other = cc
first-block line lines (l ∷ ls) n rest e w other =
    let text : l.1 ≡ line_of line.0 line.1 = cc in
    first_parts l ls n rest (subst AllGood (sym e) (good-lines (line ∷ lines) w)) (ap version_of text ∙ no-version line.0 line.1 (All-head IsWritable line lines w).name other)

plain-read : (blocks : List (List Parts)) → All IsWritableBlock blocks → begins_with_version blocks ≡ false → ReadsAsBlocks (blocks_text (map lines_in blocks)) blocks
plain-read [] w other = refl
plain-read ([] ∷ blocks) w other = let never : true ≡ false = (All-head IsWritableBlock [] blocks w).0 in cc
plain-read ((line ∷ lines) ∷ blocks) w other =
    let block = line ∷ lines in
    let others = map lines_in blocks in
    let writable = (All-head IsWritableBlock block blocks w).1 in
    let here = block_reads (lines_in block) (blocks_text others) 1 (good-lines block writable) in
    let later = blocks_read others (here.1 + 1) (good-blocks blocks (All-tail IsWritableBlock block blocks w)) in
    let rest = logical_lines (physical_lines (here.1 + 1) (cut is_lf (blocks_text others))) in
    let found : blocks_of (blocks_text (map lines_in (block ∷ blocks))) ≡ map (λ (b : List Line). Ok b) (here.0 ∷ later.0) =
    ap (blocks_from false []) here.3 ∙ first-block line lines here.0 here.1 rest here.2 writable other ∙ ap (λ t. Ok here.0 ∷ t) later.2 in
    ap (map parts_of) found ∙ blocks-back (block ∷ blocks) (here.0 ∷ later.0) (ap (λ t. t ∷ map texts later.0) here.2 ∙ ap (λ t. lines_in block ∷ t) later.1) w

version-read : (blocks : List (List Parts)) → All IsWritableBlock blocks → ReadsAsBlocks (codes "version: 1\n\n" ++ blocks_text (map lines_in blocks)) blocks
version-read blocks w =
    let all = map lines_in blocks in
    let later = blocks_read all 3 (good-blocks blocks w) in
    let rest = logical_lines (physical_lines 3 (cut is_lf (blocks_text all))) in
    let found : blocks_of (codes "version: 1\n\n" ++ blocks_text all) ≡ map (λ (b : List Line). Ok b) later.0 =
    ap (λ t. blocks_from false [] (with_first_line (1, codes "version: 1") t)) (with_first_line-empty 2 rest) ∙ later.2 in
    ap (map parts_of) found ∙ blocks-back blocks later.0 later.1 w

pub written_blocks-read : WrittenBlocksReadBack
written_blocks-read blocks w = (
  subst (λ t. ReadsAsBlocks (codes "version: 1\n\n" ++ t) blocks) (sym (blocks-text blocks)) (version-read blocks w),
  λ other. subst (λ t. ReadsAsBlocks t blocks) (sym (blocks-text blocks)) (plain-read blocks w other),
)
