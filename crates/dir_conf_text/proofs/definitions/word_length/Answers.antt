use Rattle.std.proofs.Common.{◌≡◌, ◌≤◌, ap, length, sym, subst, unwrap_or, ◌∙◌, rules}
use Rattle.std.specs.List.{position_or_len}
use Rattle.dir_names.specs.Trimming.{is_blank}
use Rattle.dir_conf_text.proofs.FirstPlaces.{place_or_length, place_within}
use Rattle.dir_conf_text.proofs.definitions.word_length.Goals as goal

place : (c : goal.After-unwrap_or) → c.unwrap_or.result ≡ position_or_len is_blank c.args.text.now
place c =
    let text = c.args.text.now in
    let value : c.unwrap_or.result ≡ unwrap_or c.first_blank.result (length text) = search rules in
    value ∙ ap (λ o. unwrap_or o (length text)) c.first_blank.ensures ∙ place_or_length is_blank text

pub returns-clause-place : goal.returns-clause-place
returns-clause-place c = place c

pub returns-clause-bound : goal.returns-clause-bound
returns-clause-bound c = subst (λ n. n ≤ length c.args.text.now) (sym (place c)) (place_within is_blank c.args.text.now)
