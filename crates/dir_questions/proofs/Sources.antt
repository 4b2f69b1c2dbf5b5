-- What is read of a text of questions; and that what was read of a source, to its end or past what questions may have, is read so of all that it gives.
use Rattle.std.proofs.Common.{◌≡◌, ◌⊎◌, inl, inr, ℕ, ◌+◌, ◌<◌, ◌≤◌, Bool, true, false, cond, nat_lt, List, [], ◌∷◌, ◌++◌, length, map, Option, Some, None, Result, Ok, Err, refl, sym, ap, subst, ◌∙◌, arith, Vec, Global}
use Rattle.std.specs.Io.KnownBytes.{Consumes, IsAtEnd}
use Rattle.std.specs.Prelude.{IfSome}
use Rattle.std.proofs.lemmas.Bool.Decides.{nat_tests}
use Rattle.std.proofs.lemmas.List.{append-nil, length-append}
use Rattle.dir_names.specs.declared.schema.TypeRow.{TypeRow}
use Rattle.dir_names.specs.Results.{and_then}
use Rattle.dir_ldif.specs.declared.faults.StreamFault.{StreamFault}
use Rattle.dir_ldif.specs.declared.faults.StreamFault.TheVariants as stream
use Rattle.dir_ldif.specs.Blocks.{BlockResult, BlocksEndIn, all_blocks, blocks_of}
use Rattle.dir_ldif.specs.LogicalLines.{Line}
use Rattle.dir_ldif.specs.declared.reader.unfolder.Line as code
use Rattle.dir_questions.specs.declared.fault.QuestionsFault.{QuestionsFault}
use Rattle.dir_questions.specs.declared.fault.QuestionsFault.TheVariants as fault
use Rattle.dir_questions.specs.Inside.Reading.{lines_fault}
use Rattle.dir_questions.specs.Questions.{QuestionBlock, collect, question_blocks, read_block, read_lines, whole_text}
use Rattle.dir_questions.specs.declared.reading.Block as reading
use Rattle.dir_questions.specs.Reading.{block_in}
use Rattle.dir_questions.specs.Runs.{AsksThese, HasLines, HasNoLines, IsReadAs}
use Rattle.dir_questions.proofs.Collecting.{collect-map}

-- ---- lengths

longer : (xs text ys : List ℕ) → xs ≡ text ++ ys → 16777216 < length text → nat_lt 16777216 (length xs) ≡ true
longer xs text ys e h =
    let n : length xs ≡ length text + length ys = ap length e ∙ length-append text ys in
    grind (arith, nat_tests)

long : (text : List ℕ) → 16777216 < length text → nat_lt 16777216 (length text) ≡ true
long text h = grind (arith, nat_tests)

short : (text : List ℕ) → length text ≤ 16777216 → nat_lt 16777216 (length text) ≡ false
short text h = grind (arith, nat_tests)

-- ---- the blocks of a text

abbrev of_blocks : List TypeRow → List BlockResult → Result (List QuestionBlock) QuestionsFault
of_blocks rows blocks = and_then (whole_text blocks) (read_lines rows)

abbrev by_length : List TypeRow → List ℕ → Bool → Result (List QuestionBlock) QuestionsFault
by_length rows text b = cond b (Err fault.TooLong) (and_then (whole_text (blocks_of text)) (read_lines rows))

pub is_too_long : (rows : List TypeRow) (text : List ℕ) → 16777216 < length text → question_blocks rows text ≡ Err fault.TooLong
is_too_long rows text h = ap (by_length rows text) (long text h)

all_whole : (blocks : List (List Line)) → whole_text (all_blocks blocks) ≡ Ok blocks
all_whole [] = refl
all_whole (b ∷ bs) = ap (λ (r : Result (List (List Line)) QuestionsFault). and_then r (λ rest. Ok (b ∷ rest))) (all_whole bs)

not_whole : (blocks : List (List Line)) (why : StreamFault) → whole_text (all_blocks blocks ++ Err why ∷ []) ≡ Err (fault.Stream why)
not_whole [] why = refl
not_whole (b ∷ bs) why = ap (λ (r : Result (List (List Line)) QuestionsFault). and_then r (λ rest. Ok (b ∷ rest))) (not_whole bs why)

-- the lines are those of a text that was read whole
pub are_lines : (rows : List TypeRow) (text : List ℕ) (lines : List (List Line)) → length text ≤ 16777216 → blocks_of text ≡ all_blocks lines → question_blocks rows text ≡ read_lines rows lines
are_lines rows text lines h is =
    ap (by_length rows text) (short text h) ∙ ap (of_blocks rows) is ∙ ap (λ (r : Result (List (List Line)) QuestionsFault). and_then r (read_lines rows)) (all_whole lines)

at_end : (rows : List TypeRow) (text : List ℕ) (blocks : List (List Line)) (why : StreamFault) → length text ≤ 16777216 → blocks_of text ≡ all_blocks blocks ++ Err why ∷ [] → question_blocks rows text ≡ Err (fault.Stream why)
at_end rows text blocks why h is =
    ap (by_length rows text) (short text h) ∙ ap (of_blocks rows) is ∙ ap (λ (r : Result (List (List Line)) QuestionsFault). and_then r (read_lines rows)) (not_whole blocks why)

too_many : (text : List ℕ) → length text ≤ 16777216 → 9007199254732800 < length text → ⊥
too_many text h e = omega arith

-- ---- what was read of a source

-- what it gave, to its end or past what questions may have, is read so as all that it gives
as_all : (known after : Option (List ℕ)) (text : List ℕ) (wanted : List TypeRow → Result (List QuestionBlock) QuestionsFault) → Consumes known after text → (16777216 < length text) ⊎ IsAtEnd after
    → ((rows : List TypeRow) → question_blocks rows text ≡ wanted rows) → IsReadAs known wanted
as_all None after text wanted e ended f = tt
as_all (Some xs) None text wanted e ended f = absurd e
as_all (Some xs) (Some ys) text wanted e (inl h) f = λ rows. ap (by_length rows xs) (longer xs text ys e h) ∙ sym (is_too_long rows text h) ∙ f rows
as_all (Some xs) (Some ys) text wanted e (inr h) f = λ rows. ap (question_blocks rows) (e ∙ ap (λ rest. text ++ rest) h ∙ append-nil text) ∙ f rows

-- the blocks of lines of a text
pub has_lines : (known after : Option (List ℕ)) (text : List ℕ) (lines : List (List Line)) → Consumes known after text → (16777216 < length text) ⊎ IsAtEnd after
    → length text ≤ 16777216 → blocks_of text ≡ all_blocks lines → HasLines known lines
has_lines known after text lines consumed ended h is = as_all known after text (λ rows. read_lines rows lines) consumed ended (λ rows. are_lines rows text lines h is)

-- a text that is too long
pub too_long : (known after : Option (List ℕ)) (failures failures' : ℕ) (text : List ℕ) → Consumes known after text → (16777216 < length text) ⊎ IsAtEnd after → 16777216 < length text
    → HasNoLines known failures failures' fault.TooLong
too_long known after failures failures' text consumed ended h = as_all known after text (λ rows. Err fault.TooLong) consumed ended (λ rows. is_too_long rows text h)

-- a text that ends in a fault
pub no_lines : (known after : Option (List ℕ)) (failures failures' : ℕ) (text : List ℕ) (why : StreamFault) → Consumes known after text → (16777216 < length text) ⊎ IsAtEnd after
    → length text ≤ 16777216 → BlocksEndIn why text → HasNoLines known failures failures' (lines_fault why)
no_lines known after failures failures' text stream.LineTooLong consumed ended h e =
    as_all known after text (λ rows. Err (fault.Stream stream.LineTooLong)) consumed ended (λ rows. at_end rows text e.0 stream.LineTooLong h e.1)
no_lines known after failures failures' text stream.BadVersion consumed ended h e =
    as_all known after text (λ rows. Err (fault.Stream stream.BadVersion)) consumed ended (λ rows. at_end rows text [] stream.BadVersion h e)
no_lines known after failures failures' text stream.TooManyTurns consumed ended h e = absurd (too_many text h e)
no_lines known after failures failures' text stream.Memory consumed ended h e = tt
no_lines known after failures failures' text stream.BadMark consumed ended h e = absurd e
no_lines known after failures failures' text stream.Read consumed ended h e = absurd e
no_lines known after failures failures' text stream.Ended consumed ended h e = absurd e

-- ---- under some types

pub under : (rows : List TypeRow) (text : Option (List ℕ)) (wanted : List TypeRow → Result (List QuestionBlock) QuestionsFault) → IsReadAs text wanted → IfSome text (λ text. question_blocks rows text ≡ wanted rows)
under rows None wanted h = tt
under rows (Some text) wanted h = h rows

pub under_as : (rows : List TypeRow) (text : Option (List ℕ)) (wanted : List TypeRow → Result (List QuestionBlock) QuestionsFault) (asked : Result (List QuestionBlock) QuestionsFault) → IsReadAs text wanted → wanted rows ≡ asked
    → IfSome text (λ text. question_blocks rows text ≡ asked)
under_as rows text wanted asked h is = subst (λ (r : Result (List QuestionBlock) QuestionsFault). IfSome text (λ text. question_blocks rows text ≡ r)) is (under rows text wanted h)

-- what the blocks of lines ask, the text asks
pub lines_ask : (rows : List TypeRow) (text : Option (List ℕ)) (lines : List (Vec code.Line Global)) (asked : Result (List QuestionBlock) QuestionsFault) → HasLines text (map (λ block. block.items) lines)
    → collect (λ (block : Vec code.Line Global). read_block rows block.items) lines ≡ asked → IfSome text (λ text. question_blocks rows text ≡ asked)
lines_ask rows text lines asked h is =
    under_as rows text (λ rows. read_lines rows (map (λ block. block.items) lines)) asked h (collect-map (read_block rows) (λ (block : Vec code.Line Global). block.items) lines ∙ is)

-- as they are where they were read of a vector, and are given as one
pub asks_these : (rows : List TypeRow) (text : Option (List ℕ)) (lines seen : List (Vec code.Line Global)) (blocks given : List reading.Block) → HasLines text (map (λ block. block.items) lines) → seen ≡ lines
    → collect (λ (block : Vec code.Line Global). read_block rows block.items) seen ≡ Ok (map block_in blocks) → given ≡ blocks → AsksThese rows text (map block_in given)
asks_these rows text lines seen blocks given has same is slice =
    lines_ask rows text lines (Ok (map block_in given)) has
    (ap (collect (λ (block : Vec code.Line Global). read_block rows block.items)) (sym same) ∙ is ∙ ap (λ (bs : List reading.Block). Ok (map block_in bs)) (sym slice))
