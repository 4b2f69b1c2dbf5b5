use Rattle.std.proofs.Common.{◌≡◌, true, false, not, [], ◌∷◌, ◌++◌, rules}
use Rattle.std.specs.Prelude.{◌==◌}
use Rattle.std.specs.List.{list_all}
use Rattle.dir_names.specs.Names.Printing.{is_special}
use Rattle.dir_names.proofs.PlainNames.{plain_rest}
use Rattle.dir_names.proofs.name.printing.is_plain_rest.Goals as goal

pub returns-then-not-is_special : goal.returns-then-not-is_special
returns-then-not-is_special c e =
    let parted : c.args.rest.now ≡ c.in-Some.middle.now ++ c.in-Some.last.now ∷ [] = search rules in
    let space : (c.in-Some.last.now == 32) ≡ false = search rules in
    let special : is_special c.in-Some.last.now ≡ false = search rules in
    let plain : list_all (λ b. not (is_special b)) c.in-Some.middle.now ≡ true = search rules in
    plain_rest c.args.rest.now c.in-Some.middle.now c.in-Some.last.now parted space special plain
