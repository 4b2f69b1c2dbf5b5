-- Rules for questions about one target.
use Rattle.std.specs.Prelude.{◌≡◌}
use Rattle.std.specs.Option.{option_copied}
use Rattle.dir_names.specs.Keys.{DnKeys}
use Rattle.dir_tree.specs.Content.{StoredAttributes}
use Rattle.dir_acl.specs.declared.access.target_rules.TargetRules.{TargetRules}
use Rattle.dir_acl.specs.Inside.Fakes.{attributes_of}

-- the rules are for questions about this target, with these attributes
abbrev pub IsRulesFor : DnKeys → StoredAttributes → TargetRules → Type 0
IsRulesFor target attributes rules = (rules.target.now ≡ target) × (attributes_of (option_copied rules.entry) ≡ attributes)
