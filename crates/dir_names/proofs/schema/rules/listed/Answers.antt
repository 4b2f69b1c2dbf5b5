use Rattle.std.proofs.Common.{[], sym, ◌∙◌, rules}
use Rattle.dir_names.proofs.ListedRules.{first_is, first_is_not}
use Rattle.dir_names.specs.declared.schema.Rule.TheVariants.{Octet}
use Rattle.dir_names.specs.declared.schema.rules.NamedRule.{NamedRule}
use Rattle.dir_names.proofs.schema.rules.listed.Goals as goal

no_rule : NamedRule
no_rule = record { name = record { ref_ptr = (0, 0); now = [] }; rule = Octet }

pub returns-then-eq_ignore_ascii_case : goal.returns-then-eq_ignore_ascii_case
returns-then-eq_ignore_ascii_case c = sym (first_is c.args.word.now c.args.rules.now c.loop-rule.rule-index _ c.loop-rule-test.true (search rules)) ∙ c.loop-rule.invariant

pub loop-rule-preserved : goal.loop-rule-preserved
unfolding no_rule
loop-rule-preserved c = sym (first_is_not c.args.word.now c.args.rules.now c.loop-rule.rule-index no_rule c.loop-rule-test.true (search rules)) ∙ c.loop-rule.invariant
