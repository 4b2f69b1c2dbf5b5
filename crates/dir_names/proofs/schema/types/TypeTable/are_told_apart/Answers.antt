use Rattle.std.proofs.Common.{◌≡◌, true, subst}
use Rattle.dir_names.specs.Types.Adding.{is_table}
use Rattle.dir_names.proofs.schema.types.TypeTable.are_told_apart.Goals as goal

pub returns : goal.returns
returns c = subst (λ rows. is_table rows ≡ true) c.self.view_is c.self.invariant.1
