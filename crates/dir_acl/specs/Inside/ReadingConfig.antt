-- The states of the readers of a configuration as their definitions have them.
use Rattle.dir_acl.specs.declared.config.Config.{Config}
use Rattle.dir_acl.specs.declared.config.access_rules.Place.{Place}
use Rattle.dir_acl.specs.declared.config.access_rules.Place.TheVariants as place
use Rattle.dir_acl.specs.declared.config.directives.Settings.{Settings}
use Rattle.dir_acl.specs.Config as config
use Rattle.dir_acl.specs.Config.AccessRules as rules
use Rattle.dir_acl.specs.Rules.{Configuration, restriction_of, rule_of, rules_of}
use Rattle.std.specs.Prelude.{map}

abbrev pub place_of : Place → rules.Place
place_of place.BeforeTo = rules.before_to
place_of place.BeforeWhat = rules.before_what
place_of (place.InWhat whats) = rules.in_what (map restriction_of whats.items)
place_of (place.BeforeWho rule) = rules.before_who (rule_of rule)
place_of (place.InWho rule whos) = rules.in_who (rule_of rule) whos.items
place_of (place.AfterAccess rule whos edit) = rules.after_access (rule_of rule) whos.items edit
place_of (place.AfterControl rule) = rules.after_control (rule_of rule)

abbrev pub settings_of : Settings → config.Settings
settings_of settings = record {
  has_database = settings.has_database;
  is_passed_over = settings.is_passed_over;
  suffix = settings.suffix;
  root = settings.root;
  rules = rules_of settings.rules.items;
}

abbrev pub configuration_of : Config → Configuration
configuration_of config = record { suffix = config.suffix; root = config.root; rules = rules_of config.rules.items }
