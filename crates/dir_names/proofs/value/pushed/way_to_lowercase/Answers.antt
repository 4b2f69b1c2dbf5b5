use Rattle.std.proofs.Common.{Ok, ap, sym, ◌∙◌}
use Rattle.dir_names.proofs.ShortKeys.{no_capital}
use Rattle.dir_names.proofs.value.pushed.way_to_lowercase.Goals as goal

pub returns-else-has_capital : goal.returns-else-has_capital
returns-else-has_capital c = ap Ok (no_capital c.args.value.now (sym c.has_capital.ensures ∙ c.if-has_capital.false))
