use Rattle.std.proofs.Common.{◌≡◌, ◌==◌, false, sym, ◌∙◌}
use Rattle.std.specs.List.{list_any}
use Rattle.dir_names.proofs.Tidy.{no_space-tidy}
use Rattle.dir_names.proofs.value.spaces.has_no_extra_space.Goals as goal

pub returns-then-not-contains : goal.returns-then-not-contains
returns-then-not-contains c =
    let none : list_any (λ b. b == 32) c.args.text.now ≡ false = sym c.contains.ensures.value ∙ c.if-not-contains.true in
    λ _. no_space-tidy c.args.text.now none
