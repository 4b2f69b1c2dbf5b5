use Rattle.std.proofs.Common.{◌≡◌, ◌∷◌, true, rules, arith}
use Rattle.std.proofs.lemmas.Grind.{common_steps}
use Rattle.std.specs.Option.{option_copied}
use Rattle.std.specs.Str.{str_to_ascii_lowercase}
use Rattle.dir_names.specs.Inside.Left.{parts_left}
use Rattle.dir_names.specs.Descriptions.{is_option}
use Rattle.dir_names.specs.Orders.{bytes_cmp}
use Rattle.dir_names.specs.Sorted.{with_member}
use Rattle.dir_names.proofs.OptionLemmas.{keeps_more}
use Rattle.dir_names.proofs.attribute.options.OptionSet.read.Goals as goal

pub loop-rest-preserved : goal.loop-rest-preserved
loop-rest-preserved c =
    let parted : parts_left 59 (option_copied c.loop-rest.rest) ≡ c.split_once.result.0.now ∷ parts_left 59 (option_copied c.split_once.result.1) = search rules in
    let sound : is_option c.split_once.result.0.now ≡ true = search rules in
    let put : c.insert_option.new.options.items ≡ with_member bytes_cmp (str_to_ascii_lowercase c.split_once.result.0.now) c.loop-rest.options.items = search rules in
    keeps_more _ _ _ _ _ _ parted sound put c.loop-rest.invariant

pub loop-rest-smaller : goal.loop-rest-smaller
loop-rest-smaller c = grind (arith, common_steps)
