-- The blocks of a text, found from line to line, are those of the definition that takes all its lines at once.
use Rattle.std.proofs.Common.{◌≡◌, true, false, List, [], ◌∷◌, ◌++◌, refl, sym, ap, ⊎_elim, ◌∙◌, append_assoc, append-nil, Err}
use Rattle.std.specs.List.{list_any, onto_first}
use Rattle.dir_ldif.specs.declared.faults.StreamFault.TheVariants.{LineTooLong, BadVersion}
use Rattle.dir_ldif.specs.declared.reader.version.Version.{Version}
use Rattle.dir_ldif.specs.declared.reader.version.Version.TheVariants.{Absent, One, Other}
use Rattle.dir_ldif.specs.Bytes.{is_empty}
use Rattle.dir_ldif.specs.LogicalLines.{Line, cut, lines_of, is_comment, is_long}
use Rattle.dir_ldif.specs.Blocks.{BlockResult, block_then, by_version, blocks_from, version_of}
use Rattle.dir_ldif.specs.BlocksAtOnce.{TextsAreBlocks, lines_before_long, body_blocks, ended_pieces, is_blank, nonempty_blocks, onto_first_piece, blocks_at_once, without_comments}
use Rattle.dir_ldif.proofs.BytesLemmas.{true_or_false}
use Rattle.dir_ldif.proofs.NoLongLine.{neither}

-- ---- a block in hand, and the pieces after it

abbrev with_block : List Line → List (List Line) → List (List Line)
with_block block [] = block ∷ []
with_block block (piece ∷ pieces) = (block ++ piece) ∷ pieces

abbrev with_ended : List Line → List (List Line) → List (List Line)
with_ended block [] = []
with_ended block (piece ∷ pieces) = (block ++ piece) ∷ pieces

with_block-none : (pieces : List (List Line)) → nonempty_blocks (with_block [] pieces) ≡ nonempty_blocks pieces
with_block-none [] = refl
with_block-none (piece ∷ pieces) = refl

with_ended-none : (pieces : List (List Line)) → with_ended [] pieces ≡ pieces
with_ended-none [] = refl
with_ended-none (piece ∷ pieces) = refl

with_block-onto : (block : List Line) (line : Line) (pieces : List (List Line)) → with_block (block ++ line ∷ []) pieces ≡ with_block block (onto_first line pieces)
with_block-onto block line [] = refl
with_block-onto block line (piece ∷ pieces) = ap (λ b. b ∷ pieces) (append_assoc block (line ∷ []) piece)

with_ended-onto : (block : List Line) (line : Line) (pieces : List (List Line)) → with_ended (block ++ line ∷ []) pieces ≡ with_ended block (onto_first_piece line pieces)
with_ended-onto block line [] = refl
with_ended-onto block line (piece ∷ pieces) = ap (λ b. b ∷ pieces) (append_assoc block (line ∷ []) piece)

give_blocks : (block : List Line) (pieces : List (List Line)) → block_then block (nonempty_blocks pieces) ≡ nonempty_blocks (block ∷ pieces)
give_blocks [] pieces = refl
give_blocks (line ∷ block) pieces = refl

give_ended : (block : List Line) (pieces : List (List Line)) (end : List BlockResult) → block_then block (nonempty_blocks pieces ++ end) ≡ nonempty_blocks (block ∷ pieces) ++ end
give_ended [] pieces end = refl
give_ended (line ∷ block) pieces end = refl

-- ---- after the version line

abbrev seen : List Line → List Line
seen lines = without_comments (lines_before_long lines)

-- no line is too long
whole : (block lines : List Line) → list_any is_long lines ≡ false → blocks_from true block lines ≡ nonempty_blocks (with_block block (cut is_blank (seen lines)))
whole block [] short = give_blocks block []
whole block (line ∷ rest) short =
    let both = neither (is_long line) (list_any is_long rest) short in
    rw both.0 (
    ⊎_elim
    (λ (yes : is_comment line ≡ true). rw yes (whole block rest both.1))
    (λ (other : is_comment line ≡ false).
    rw other (⊎_elim
    (λ (empty : is_empty line.1 ≡ true).
    rw empty (ap (block_then block) (whole [] rest both.1 ∙ with_block-none (cut is_blank (seen rest))) ∙ give_blocks block (cut is_blank (seen rest)) ∙ ap (λ b. nonempty_blocks (b ∷ cut is_blank (seen rest))) (sym (append-nil block))))
    (λ (some : is_empty line.1 ≡ false). rw some (whole (block ++ line ∷ []) rest both.1 ∙ ap nonempty_blocks (with_block-onto block line (cut is_blank (seen rest)))))
    (true_or_false (is_empty line.1))))
    (true_or_false (is_comment line))
    )

-- a line is too long
cut_short : (block lines : List Line) → list_any is_long lines ≡ true → blocks_from true block lines ≡ nonempty_blocks (with_ended block (ended_pieces is_blank (seen lines))) ++ Err LineTooLong ∷ []
cut_short block [] long = cc
cut_short block (line ∷ rest) long =
    ⊎_elim
    (λ (yes : is_long line ≡ true). rw yes refl)
    (λ (short : is_long line ≡ false).
    let after : list_any is_long rest ≡ true = rw short at long in
    rw short (⊎_elim
    (λ (yes : is_comment line ≡ true). rw yes (cut_short block rest after))
    (λ (other : is_comment line ≡ false).
    rw other (⊎_elim
    (λ (empty : is_empty line.1 ≡ true).
    rw empty (ap (block_then block) (cut_short [] rest after ∙ ap (λ ps. nonempty_blocks ps ++ Err LineTooLong ∷ []) (with_ended-none (ended_pieces is_blank (seen rest)))) ∙ give_ended block (ended_pieces is_blank (seen rest)) (Err LineTooLong ∷ [])
    ∙ ap (λ b. nonempty_blocks (b ∷ ended_pieces is_blank (seen rest)) ++ Err LineTooLong ∷ []) (sym (append-nil block))))
    (λ (some : is_empty line.1 ≡ false). rw some (cut_short (block ++ line ∷ []) rest after ∙ ap (λ ps. nonempty_blocks ps ++ Err LineTooLong ∷ []) (with_ended-onto block line (ended_pieces is_blank (seen rest)))))
    (true_or_false (is_empty line.1))))
    (true_or_false (is_comment line))))
    (true_or_false (is_long line))

rest_parts : (lines : List Line) → blocks_from true [] lines ≡ body_blocks (list_any is_long lines) (seen lines)
rest_parts lines =
    ⊎_elim
    (λ (long : list_any is_long lines ≡ true). rw long (cut_short [] lines long ∙ ap (λ ps. nonempty_blocks ps ++ Err LineTooLong ∷ []) (with_ended-none (ended_pieces is_blank (seen lines)))))
    (λ (short : list_any is_long lines ≡ false). rw short (whole [] lines short ∙ with_block-none (cut is_blank (seen lines))))
    (true_or_false (list_any is_long lines))

first_parts : (line : Line) (lines : List Line) → is_blank line ≡ false → blocks_from true (line ∷ []) lines ≡ body_blocks (list_any is_long lines) (line ∷ seen lines)
first_parts line lines some =
    ⊎_elim
    (λ (long : list_any is_long lines ≡ true). rw (long, some) (cut_short (line ∷ []) lines long ∙ ap (λ ps. nonempty_blocks ps ++ Err LineTooLong ∷ []) (with_ended-onto [] line (ended_pieces is_blank (seen lines)) ∙ with_ended-none (onto_first_piece line (ended_pieces is_blank (seen lines))))))
    (λ (short : list_any is_long lines ≡ false). rw (short, some) (whole (line ∷ []) lines short ∙ ap nonempty_blocks (with_block-onto [] line (cut is_blank (seen lines))) ∙ with_block-none (onto_first line (cut is_blank (seen lines)))))
    (true_or_false (list_any is_long lines))

-- ---- from the start

by_version-same : (v : Version) (a a' b b' : List BlockResult) → a ≡ a' → b ≡ b' → by_version v a b (Err BadVersion ∷ []) ≡ by_version v a' b' (Err BadVersion ∷ [])
by_version-same Absent a a' b b' p q = p
by_version-same One a a' b b' p q = q
by_version-same Other a a' b b' p q = refl

lines_said : (lines : List Line) → blocks_from false [] lines ≡ blocks_at_once lines
lines_said [] = refl
lines_said (line ∷ rest) =
    ⊎_elim
    (λ (yes : is_long line ≡ true). rw yes refl)
    (λ (short : is_long line ≡ false).
    rw short (⊎_elim
    (λ (yes : is_comment line ≡ true). rw yes (lines_said rest))
    (λ (other : is_comment line ≡ false).
    rw other (⊎_elim
    (λ (empty : is_empty line.1 ≡ true). rw empty (lines_said rest))
    (λ (some : is_empty line.1 ≡ false).
    rw some (by_version-same (version_of line.1) (blocks_from true (line ∷ []) rest) (body_blocks (list_any is_long rest) (line ∷ seen rest)) (blocks_from true [] rest) (body_blocks (list_any is_long rest) (seen rest))
    (first_parts line rest some) (rest_parts rest)))
    (true_or_false (is_empty line.1))))
    (true_or_false (is_comment line))))
    (true_or_false (is_long line))

pub texts-said : TextsAreBlocks
texts-said text = lines_said (lines_of text)
