use Rattle.std.proofs.Common.{◌≡◌, ◌++◌, arith, rules}
use Rattle.std.proofs.lemmas.Grind.{common_steps}
use Rattle.dir_names.specs.ValueKeys.Spaces.{without_extra_spaces}
use Rattle.dir_names.proofs.LowercaseKeys.{lowercase_words}
use Rattle.dir_names.proofs.value.pushed.put_squeezed.Goals as goal

pub returns : goal.returns
returns c =
    let put : c.put_words.new.out.items ≡ c.args.text.now.items ++ without_extra_spaces c.args.value.now = search rules in
    let lower = lowercase_words c.args.value.now in
    grind (arith, common_steps, lower, put)
