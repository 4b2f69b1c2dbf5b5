use Rattle.std.proofs.Common.{sym, ◌∙◌}
use Rattle.dir_tree.specs.Inside.Searches.{sought_key}
use Rattle.dir_tree.proofs.BelowAll.{after_values}
use Rattle.dir_tree.proofs.search.are_below.Goals as goal

pub returns-else-is_empty : goal.returns-else-is_empty
returns-else-is_empty c is = after_values (sought_key c.args.sought.now) c.args.items.now c.requires (λ e. sym (c.ends_below.ensures e) ∙ is)
