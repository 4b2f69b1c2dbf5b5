use Rattle.std.proofs.Common.{◌≡◌, [], ap, sym, ◌∙◌, rules}
use Rattle.dir_names.specs.ValueKeys.Spaces.{without_extra_spaces, without_leading_spaces}
use Rattle.dir_names.proofs.Words.{all_words}
use Rattle.dir_names.proofs.value.spaces.copy_without_extra_spaces.Goals as goal

pub returns : goal.returns
returns c =
    let rest : c.without_leading_spaces-rest.result.now ≡ without_leading_spaces c.args.text.now = search rules in
    let all : without_extra_spaces c.args.text.now ≡ without_extra_spaces c.without_leading_spaces-rest.result.now = all_words c.args.text.now ∙ ap without_extra_spaces (sym rest) in
    let empty : c.in_ok-out.out.items ≡ [] = search rules in
    rw all (rw empty at c.in_ok-put_words.ensures)
