-- Lemmas on the records of a text.
use Rattle.std.proofs.Common.{◌≡◌, ℕ, true, false, List, [], ◌∷◌, ◌++◌, refl, sym, ap, ◌∙◌, append-nil, Ok}
use Rattle.dir_names.specs.declared.schema.TypeRow.{TypeRow}
use Rattle.dir_ldif.specs.declared.faults.StreamFault.{StreamFault}
use Rattle.dir_ldif.specs.declared.faults.StreamFault.TheVariants.{LineTooLong, Read, Memory, Ended, TooManyTurns, BadVersion, BadMark}
use Rattle.dir_ldif.specs.Bytes.{is_empty}
use Rattle.dir_ldif.specs.LogicalLines.{Line}
use Rattle.dir_ldif.specs.Blocks.{BlockResult, EndsAtOnce, block_then}
use Rattle.dir_ldif.specs.Records.{Found, Answer, found_of, answers_on, records_of, all_found, EndsIn}

-- the text ends in a fault after what was found
pub ends_in : (fault : StreamFault) (rows : List TypeRow) (text : List ℕ) (found : List Found) (parts : List BlockResult) → records_of rows (text ++ []) ≡ all_found found ++ answers_on rows parts
    → EndsAtOnce fault parts → EndsIn fault rows text
ends_in LineTooLong rows text found parts inv e =
    (found, ap (records_of rows) (sym (append-nil text)) ∙ inv ∙ ap (λ p. all_found found ++ answers_on rows p) e)
ends_in BadVersion rows text found parts inv e =
    (found, ap (records_of rows) (sym (append-nil text)) ∙ inv ∙ ap (λ p. all_found found ++ answers_on rows p) e)
ends_in BadMark rows text found parts inv e =
    (found, ap (records_of rows) (sym (append-nil text)) ∙ inv ∙ ap (λ p. all_found found ++ answers_on rows p) e)
ends_in Memory rows text found parts inv e = tt
ends_in Read rows text found parts inv e = absurd e
ends_in Ended rows text found parts inv e = absurd e
ends_in TooManyTurns rows text found parts inv e = absurd e

-- a block before other blocks
pub answers_on-block_then : (rows : List TypeRow) (block : List Line) (parts : List BlockResult) → is_empty block ≡ false → answers_on rows (block_then block parts) ≡ Ok (found_of rows block) ∷ answers_on rows parts
answers_on-block_then rows [] parts e = cc
answers_on-block_then rows (line ∷ lines) parts e = refl

pub answers_on-give-none : (rows : List TypeRow) (block : List Line) (parts : List BlockResult) → is_empty block ≡ true → answers_on rows (block_then block parts) ≡ answers_on rows parts
answers_on-give-none rows [] parts e = refl
answers_on-give-none rows (line ∷ lines) parts e = cc

all_found-more : (found : List Found) (f : Found) (rest : List Answer) → all_found found ++ Ok f ∷ rest ≡ all_found (found ++ f ∷ []) ++ rest
all_found-more [] f rest = refl
all_found-more (g ∷ gs) f rest = ap (λ t. Ok g ∷ t) (all_found-more gs f rest)

-- one record more was found
pub found_more : (rows : List TypeRow) (wanted : List Answer) (found more : List Found) (block : List Line) (old new : List BlockResult) → wanted ≡ all_found found ++ answers_on rows old → old ≡ block_then block new
    → is_empty block ≡ false → more ≡ found ++ found_of rows block ∷ [] → wanted ≡ all_found more ++ answers_on rows new
found_more rows wanted found more block old new inv e some grown =
    rw grown (inv ∙ ap (λ p. all_found found ++ answers_on rows p) e ∙ ap (λ t. all_found found ++ t) (answers_on-block_then rows block new some) ∙ all_found-more found (found_of rows block) (answers_on rows new))

-- the last block has no line
pub found_all : (rows : List TypeRow) (text : List ℕ) (found : List Found) (block : List Line) (old : List BlockResult) → records_of rows (text ++ []) ≡ all_found found ++ answers_on rows old → old ≡ block_then block []
    → is_empty block ≡ true → records_of rows text ≡ all_found found
found_all rows text found block old inv e none =
    ap (records_of rows) (sym (append-nil text)) ∙ inv ∙ ap (λ p. all_found found ++ answers_on rows p) e ∙ ap (λ t. all_found found ++ t) (answers_on-give-none rows block [] none) ∙ append-nil (all_found found)

-- the last block was found
pub found_last : (rows : List TypeRow) (text : List ℕ) (found more : List Found) (block : List Line) (old : List BlockResult) → records_of rows (text ++ []) ≡ all_found found ++ answers_on rows old → old ≡ block_then block []
    → is_empty block ≡ false → more ≡ found ++ found_of rows block ∷ [] → records_of rows text ≡ all_found more
found_last rows text found more block old inv e some grown =
    ap (records_of rows) (sym (append-nil text)) ∙ found_more rows (records_of rows (text ++ [])) found more block old [] inv e some grown ∙ append-nil (all_found more)
