use Rattle.std.proofs.Common.{◌≡◌, ℕ, ◌<◌, ◌==◌, List, [], ◌∷◌, ◌++◌, cond, length, take, drop, ap, sym, ◌∙◌, append_assoc, rules}
use Rattle.std.proofs.lemmas.List.{take_rest}
use Rattle.dir_names.specs.Inside.TidyRuns.{tidy_len}
use Rattle.dir_names.specs.ValueKeys.Spaces.{without_leading_spaces, without_extra_spaces}
use Rattle.dir_names.proofs.Words.{all_words, begins_with_word, next_run, next_shorter}
use Rattle.dir_names.proofs.value.spaces.put_words.Goals as goal

regroup : (a b c d : List ℕ) → a ++ (b ++ (c ++ d)) ≡ ((a ++ b) ++ c) ++ d
regroup a b c d = simp append_assoc

pub loop-rest-init : goal.loop-rest-init
loop-rest-init c =
    let text = c.args.text.now in
    let first : c.without_leading_spaces-rest.result.now ≡ without_leading_spaces text = search rules in
    rw first (begins_with_word text, ap (λ l. c.args.out.now.items ++ l) (all_words text))

pub loop-rest-smaller : goal.loop-rest-smaller
loop-rest-smaller c =
    let rest = c.loop-rest.rest.now in
    let at : c.tidy_len-end.result ≡ tidy_len rest = search rules in
    let next : c.without_leading_spaces-rest-in-loop-rest.result.now ≡ without_leading_spaces (drop c.tidy_len-end.result rest) = c.without_leading_spaces-rest-in-loop-rest.ensures ∙ ap without_leading_spaces (take_rest rest _) in
    let some : 0 < length rest = search rules in
    next_shorter rest _ _ c.loop-rest.invariant.0 some at next

pub loop-rest-preserved : goal.loop-rest-preserved
loop-rest-preserved c =
    let rest = c.loop-rest.rest.now in
    let at : c.tidy_len-end.result ≡ tidy_len rest = search rules in
    let next : c.without_leading_spaces-rest-in-loop-rest.result.now ≡ without_leading_spaces (drop c.tidy_len-end.result rest) = c.without_leading_spaces-rest-in-loop-rest.ensures ∙ ap without_leading_spaces (take_rest rest _) in
    let word : c.put_run.new.out.items ≡ c.loop-rest.out.items ++ take c.tidy_len-end.result rest = search rules in
    let space = cond (length c.without_leading_spaces-rest-in-loop-rest.result.now == 0) [] (32 ∷ []) in
    let put : c.put_space_before.new.out.items ≡ c.put_run.new.out.items ++ space = search rules in
    let all = put ∙ ap (λ l. l ++ space) word in (
      rw next (begins_with_word (drop c.tidy_len-end.result rest)),
      c.loop-rest.invariant.1
          ∙ ap (λ l. c.loop-rest.out.items ++ l) (next_run rest _ _ c.loop-rest.invariant.0 at next)
          ∙ regroup c.loop-rest.out.items (take c.tidy_len-end.result rest) space _
          ∙ ap (λ l. l ++ without_extra_spaces c.without_leading_spaces-rest-in-loop-rest.result.now) (sym all),
    )
