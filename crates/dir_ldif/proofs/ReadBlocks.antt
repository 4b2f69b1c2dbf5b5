-- Lemmas on the blocks of a text that is read at once.
use Rattle.std.proofs.Common.{◌≡◌, ℕ, Bool, true, false, if◌then◌else◌, List, [], ◌∷◌, ◌++◌, refl, sym, ap, ◌∙◌, append-nil, Ok, Err}
use Rattle.dir_ldif.specs.declared.faults.StreamFault.{StreamFault}
use Rattle.dir_ldif.specs.declared.faults.StreamFault.TheVariants.{LineTooLong, Read, Memory, Ended, TooManyTurns, BadVersion, BadMark}
use Rattle.dir_ldif.specs.declared.reader.version.Version.{Version}
use Rattle.dir_ldif.specs.declared.reader.version.Version.TheVariants.{Absent, One, Other}
use Rattle.dir_ldif.specs.Bytes.{is_empty}
use Rattle.dir_ldif.specs.LogicalLines.{Line, is_comment, is_long, lines_of}
use Rattle.dir_ldif.specs.Blocks.{BlockResult, BlocksEndIn, EndsAtOnce, all_blocks, block_then, blocks_from, blocks_of, by_version, version_of}

-- ---- the faults in which a text can end

abbrev is_long_line : StreamFault → Bool
is_long_line LineTooLong = true
is_long_line Read = false
is_long_line Memory = false
is_long_line Ended = false
is_long_line TooManyTurns = false
is_long_line BadVersion = false
is_long_line BadMark = false

abbrev is_long_or_version : StreamFault → Bool
is_long_or_version LineTooLong = true
is_long_or_version BadVersion = true
is_long_or_version Read = false
is_long_or_version Memory = false
is_long_or_version Ended = false
is_long_or_version TooManyTurns = false
is_long_or_version BadMark = false

-- blocks, after which a line may be too long
abbrev ends_after_blocks : List BlockResult → Bool
ends_after_blocks [] = true
ends_after_blocks (Ok block ∷ rest) = ends_after_blocks rest
ends_after_blocks (Err fault ∷ rest) = is_long_line fault

-- the same, or at once a version other than 1
abbrev ends_as_text : List BlockResult → Bool
ends_as_text [] = true
ends_as_text (Ok block ∷ rest) = ends_after_blocks rest
ends_as_text (Err fault ∷ rest) = is_long_or_version fault

long-or_version : (fault : StreamFault) → is_long_line fault ≡ true → is_long_or_version fault ≡ true
long-or_version LineTooLong e = refl
long-or_version Read e = cc
long-or_version Memory e = cc
long-or_version Ended e = cc
long-or_version TooManyTurns e = cc
long-or_version BadVersion e = cc
long-or_version BadMark e = cc

blocks-as_text : (blocks : List BlockResult) → ends_after_blocks blocks ≡ true → ends_as_text blocks ≡ true
blocks-as_text [] e = refl
blocks-as_text (Ok block ∷ rest) e = e
blocks-as_text (Err fault ∷ rest) e = long-or_version fault e

ends-then : (block : List Line) (rest : List BlockResult) → ends_after_blocks rest ≡ true → ends_after_blocks (block_then block rest) ≡ true
ends-then [] rest e = e
ends-then (line ∷ lines) rest e = e

true_if : {A : Type 0} (f : A → Bool) (v : Bool) (x y : A) → f x ≡ true → f y ≡ true → f (if v then x else y) ≡ true
true_if f true x y p q = p
true_if f false x y p q = q

-- once a text has begun
ends-begun : (block lines : List Line) → ends_after_blocks (blocks_from true block lines) ≡ true
ends-begun block [] = ends-then block [] refl
ends-begun block (line ∷ rest) =
    true_if ends_after_blocks (is_long line) _ _ refl
    (true_if ends_after_blocks (is_comment line) _ _ (ends-begun block rest)
    (true_if ends_after_blocks (is_empty line.1) _ _ (ends-then block _ (ends-begun [] rest)) (ends-begun (block ++ line ∷ []) rest)))

ends-version : (v : Version) (x y : List BlockResult) → ends_after_blocks x ≡ true → ends_after_blocks y ≡ true → ends_as_text (by_version v x y (Err BadVersion ∷ [])) ≡ true
ends-version Absent x y p q = blocks-as_text x p
ends-version One x y p q = blocks-as_text y q
ends-version Other x y p q = refl

ends-lines : (lines : List Line) → ends_as_text (blocks_from false [] lines) ≡ true
ends-lines [] = refl
ends-lines (line ∷ rest) =
    true_if ends_as_text (is_long line) _ _ refl
    (true_if ends_as_text (is_comment line) _ _ (ends-lines rest)
    (true_if ends_as_text (is_empty line.1) _ _ (ends-lines rest) (ends-version (version_of line.1) _ _ (ends-begun (line ∷ []) rest) (ends-begun [] rest))))

after-blocks : (fault : StreamFault) (blocks : List (List Line)) → ends_after_blocks (all_blocks blocks ++ Err fault ∷ []) ≡ is_long_line fault
after-blocks fault [] = refl
after-blocks fault (block ∷ blocks) = after-blocks fault blocks

-- a text ends in no mark, where marks are comments
no_mark : (text : List ℕ) (blocks : List (List Line)) → blocks_of text ≡ all_blocks blocks ++ Err BadMark ∷ [] → ⊥
no_mark text [] e = let never : true ≡ false = sym (ends-lines (lines_of text)) ∙ ap ends_as_text e in cc
no_mark text (block ∷ blocks) e = let never : true ≡ false = sym (ends-lines (lines_of text)) ∙ ap ends_as_text e ∙ after-blocks BadMark blocks in cc

-- no block comes before a version other than 1
version_first : (text : List ℕ) (blocks : List (List Line)) → blocks_of text ≡ all_blocks blocks ++ Err BadVersion ∷ [] → blocks_of text ≡ Err BadVersion ∷ []
version_first text [] e = e
version_first text (block ∷ blocks) e = let never : true ≡ false = sym (ends-lines (lines_of text)) ∙ ap ends_as_text e ∙ after-blocks BadVersion blocks in cc

-- ---- how a text ends

whole : (text : List ℕ) (blocks : List (List Line)) (left right : List BlockResult) → blocks_of (text ++ []) ≡ all_blocks blocks ++ left → left ≡ right → blocks_of text ≡ all_blocks blocks ++ right
whole text blocks left right inv e = ap blocks_of (sym (append-nil text)) ∙ inv ∙ ap (λ t. all_blocks blocks ++ t) e

-- what is left of a text after some blocks ends in this fault
pub blocks_end_in : (fault : StreamFault) (text : List ℕ) (blocks : List (List Line)) (left : List BlockResult) → blocks_of (text ++ []) ≡ all_blocks blocks ++ left → EndsAtOnce fault left → BlocksEndIn fault text
blocks_end_in LineTooLong text blocks left inv e = (blocks, whole text blocks left (Err LineTooLong ∷ []) inv e)
blocks_end_in BadVersion text blocks left inv e = version_first text blocks (whole text blocks left (Err BadVersion ∷ []) inv e)
blocks_end_in BadMark text blocks left inv e = no_mark text blocks (whole text blocks left (Err BadMark ∷ []) inv e)
blocks_end_in Memory text blocks left inv e = tt
blocks_end_in Read text blocks left inv e = absurd e
blocks_end_in Ended text blocks left inv e = absurd e
blocks_end_in TooManyTurns text blocks left inv e = absurd e
