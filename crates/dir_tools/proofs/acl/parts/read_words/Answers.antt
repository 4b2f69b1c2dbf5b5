use Rattle.std.proofs.Common.{◌≡◌, ◌+◌, ◌∷◌, ◌++◌, [], None, Some, ap, drop, map, option_map, sym, ◌∙◌, arith}
use Rattle.std.proofs.lemmas.Grind.{common_steps}
use Rattle.std.proofs.lemmas.List.{map-append}
use Rattle.dir_tools.specs.AccessReport.{Word, word_of, words_from}
use Rattle.dir_tools.specs.Inside.Asking.{word_in}
use Rattle.dir_tools.proofs.AccessParts.{after_words, words_stop, words_turn}
use Rattle.dir_tools.proofs.acl.parts.read_words.Goals as goal

pub returns-in-None : goal.returns-in-None
returns-in-None c =
    let rows = c.args.schema.now in
    let is : word_of rows c.index-texts-i.result ≡ None = sym (c.in_ok-word.ensures ∙ ap (word_of rows) c.as_slice.ensures) ∙ ap (option_map word_in) c.in-None.is in
    words_stop rows (map word_in c.loop-i.words.items) c.args.texts.now c.loop-i.i c.index-texts-i.result _ c.loop-i.invariant c.loop-i-test.true c.index-texts-i.is is

pub loop-i-preserved : goal.loop-i-preserved
loop-i-preserved c =
    let rows = c.args.schema.now in
    let texts = c.args.texts.now in
    let i = c.loop-i.i in
    let word : Word = word_in c.in-Some.word in
    let is : word_of rows c.index-texts-i.result ≡ Some word = sym (c.in_ok-word.ensures ∙ ap (word_of rows) c.as_slice.ensures) ∙ ap (option_map word_in) c.in-Some.is in
    let more : map word_in c.push-in-Some.new.self.items ≡ map word_in c.loop-i.words.items ++ word ∷ [] = ap (map word_in) c.in_ok-push-in-Some.ensures.items ∙ map-append word_in c.loop-i.words.items (c.in-Some.word ∷ []) in
    words_turn rows (map word_in c.loop-i.words.items) texts i c.index-texts-i.result word _ c.loop-i.invariant c.loop-i-test.true c.index-texts-i.is is
    ∙ ap (λ b. after_words b (words_from rows (i + 1 + 1) (drop (i + 1) texts))) (sym more)

pub returns : goal.returns
returns c = grind (arith, common_steps)
