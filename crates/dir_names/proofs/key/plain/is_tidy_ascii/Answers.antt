use Rattle.std.proofs.Common.{sym, ◌∙◌}
use Rattle.dir_names.proofs.LowercaseKeys.{case_key, ia5_key}
use Rattle.dir_names.proofs.key.plain.is_tidy_ascii.Goals as goal

pub returns-clause-case : goal.returns-clause-case
returns-clause-case c e = case_key c.args.value.now c.if-is_empty.ensures (sym c.are_unmarked.ensures ∙ c.if-not-are_unmarked.false) (c.has_no_extra_space.ensures e)

pub returns-clause-ia5 : goal.returns-clause-ia5
returns-clause-ia5 c e = ia5_key c.args.value.now c.if-is_empty.ensures (sym c.are_unmarked.ensures ∙ c.if-not-are_unmarked.false) (c.has_no_extra_space.ensures e)
