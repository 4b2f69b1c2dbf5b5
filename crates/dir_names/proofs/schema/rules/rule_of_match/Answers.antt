use Rattle.std.proofs.Common.{◌≡◌, None, Option, Some, ap, ◌∙◌, unwrap_or, refl, rules}
use Rattle.dir_names.specs.declared.schema.Rule.{Rule}
use Rattle.dir_names.specs.declared.schema.Rule.TheVariants.{Octet}
use Rattle.dir_names.specs.Types.Adding.{equality_rules, or_octet, rule_listed}
use Rattle.dir_names.proofs.schema.rules.rule_of_match.Goals as goal

or_else : (o : Option Rule) → unwrap_or o Octet ≡ or_octet o
or_else (Some rule) = refl
or_else None = refl

pub returns : goal.returns
unfolding equality_rules
returns c =
    let found : c.listed.result ≡ rule_listed equality_rules c.args.word.now = search rules in
    let value : c.unwrap_or.result ≡ unwrap_or c.listed.result Octet = search rules in
    value ∙ or_else c.listed.result ∙ ap or_octet found
