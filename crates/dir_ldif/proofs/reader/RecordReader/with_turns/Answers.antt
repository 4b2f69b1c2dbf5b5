use Rattle.std.proofs.Common.{◌≡◌, ◌++◌, ℕ, List, false, [], sym, ap, subst, ◌∙◌, Option, None, Some, refl}
use Rattle.std.specs.Option.{option_map}
use Rattle.dir_ldif.specs.LogicalLines.{lines_of}
use Rattle.dir_ldif.specs.Records.{answers_on, records_of}
use Rattle.dir_ldif.specs.Reader.Answers.{answers_at}
use Rattle.dir_ldif.specs.Reader.Unfolding.{blocks_to_come}
use Rattle.dir_ldif.specs.Blocks.{blocks_of}
use Rattle.dir_ldif.specs.Remainder.{blocks_in, remainder_from}
use Rattle.dir_ldif.proofs.RemainderLemmas.{remainder_is_blocks}
use Rattle.dir_ldif.proofs.reader.RecordReader.with_turns.Goals as goal

map_same : {A : Type 0} (f h : List ℕ → A) (o : Option (List ℕ)) → ((text : List ℕ) → f text ≡ h text) → option_map f o ≡ option_map h o
map_same f h None e = refl
map_same f h (Some text) e = ap Some (e text)

pub returns-clause-ahead : goal.returns-clause-ahead
returns-clause-ahead g c =
    let core = c.in_ok-new.field-0 in
    let rows = c.args.schema.now in
    let blocks : (text : List ℕ) → blocks_to_come core.unfolder text ≡ blocks_of text =
    λ text. ap blocks_in (c.in_ok-new.ensures.text text) ∙ ap (λ m. blocks_in (remainder_from m false [] (lines_of text))) c.ignored.ensures ∙ remainder_is_blocks false [] (lines_of text) in
    (c.in_ok-new.ensures.fresh, λ text. ap (answers_on rows) (blocks text))

pub returns-clause-answers : goal.returns-clause-answers
returns-clause-answers g c =
    let core = c.in_ok-new.field-0 in
    let rows = c.args.schema.now in
    let left = g.R.Source.left c.args.source in
    let blocks : (text : List ℕ) → blocks_to_come core.unfolder text ≡ blocks_of text =
    λ text. ap blocks_in (c.in_ok-new.ensures.text text) ∙ ap (λ m. blocks_in (remainder_from m false [] (lines_of text))) c.ignored.ensures ∙ remainder_is_blocks false [] (lines_of text) in
    subst (λ p. option_map (answers_at p rows core) left ≡ option_map (records_of rows) left) (sym c.in_ok-new.ensures.place)
    (map_same _ _ left (λ text. ap (λ h. answers_on rows (blocks_to_come core.unfolder (h ++ text))) c.in_ok-new.ensures.fresh ∙ ap (answers_on rows) (blocks text)))
