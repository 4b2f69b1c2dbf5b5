use Rattle.std.proofs.Common.{rules, not}
use Rattle.std.specs.Prelude.{◌==◌, ◌||◌}
use Rattle.std.proofs.lemmas.Fn.{filter_same}
use Rattle.dir_names.proofs.value.spaces.without_spaces_and_hyphens.Goals as goal

pub returns : goal.returns
returns c = filter_same _ (λ b. not (b == 32 || b == 45)) _ (λ x b f called. search rules) _ _ c.retain.ensures.filtered
