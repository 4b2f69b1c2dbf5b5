use Rattle.std.proofs.Common.{◌≡◌, map, drop}
use Rattle.dir_names.specs.Inside.Rows.{named_rule}
use Rattle.dir_names.specs.Types.Adding.{rule_listed}
use Rattle.dir_names.proofs.schema.rules.listed.Given as goal

abbrev pub invariant-loop-rule : goal.invariant-loop-rule
invariant-loop-rule l = rule_listed (map named_rule (drop l.rule-index l.rules)) l.word ≡ rule_listed (map named_rule l.rules) l.word
