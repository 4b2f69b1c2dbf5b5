use Rattle.std.proofs.Common.{◌≡◌, ◌+◌, ◌<◌, List, [], ◌∷◌, ◌++◌, Result, Ok, drop, get_or, length, map, ap, sym, ◌∙◌, rules, Vec, Global}
use Rattle.std.proofs.lemmas.List.{drop_more, map-append}
use Rattle.dir_ldif.specs.declared.reader.unfolder.Line.{Line}
use Rattle.dir_questions.specs.declared.fault.QuestionsFault.{QuestionsFault}
use Rattle.dir_questions.specs.Reading.{block_in}
use Rattle.dir_questions.specs.Questions.{QuestionBlock, collect, read_block}
use Rattle.dir_questions.proofs.Collecting.{after, one_more}
use Rattle.dir_questions.proofs.reading.read_questions.Goals as goal

pub loop-lines-preserved : goal.loop-lines-preserved
loop-lines-preserved c =
    let blocks = c.args.blocks.now in
    let i = c.loop-lines.lines-index in
    let item = c.lines-item.result in
    let b = c.in_ok-read_block.field-0 in
    let before : List QuestionBlock = map block_in c.loop-lines.found.items in
    let f : Vec Line Global → Result QuestionBlock QuestionsFault = λ lines. read_block c.args.schema.now lines.items in
    let reads : f item ≡ Ok (block_in b) = search rules in
    let inside : i < length blocks = search rules in
    let here : get_or blocks i item ≡ item = search rules in
    let step : drop i blocks ≡ item ∷ drop (i + 1) blocks = drop_more blocks i item inside ∙ ap (λ x. x ∷ drop (i + 1) blocks) here in
    let found : c.push.new.self.items ≡ c.loop-lines.found.items ++ b ∷ [] = c.in_ok-push.ensures.items in
    let more : map block_in c.push.new.self.items ≡ before ++ block_in b ∷ [] = ap (map block_in) found ∙ map-append block_in c.loop-lines.found.items (b ∷ []) in
    c.loop-lines.invariant
    ∙ ap (λ rest. after before (collect f rest)) step
    ∙ one_more f before item (drop (i + 1) blocks) (block_in b) reads
    ∙ ap (λ ys. after ys (collect f (drop (i + 1) blocks))) (sym more)
