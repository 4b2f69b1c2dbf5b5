use Rattle.std.proofs.Common.{Ok, ap, sym, ◌∙◌}
use Rattle.dir_names.proofs.ShortKeys.{no_undialed}
use Rattle.dir_names.proofs.value.pushed.way_to_dialed.Goals as goal

pub returns-else-has_undialed : goal.returns-else-has_undialed
returns-else-has_undialed c = ap Ok (no_undialed c.args.value.now (sym c.has_undialed.ensures ∙ c.if-has_undialed.false))
