-- Whether there was a rule, as the settings so far tell it.
use Rattle.std.specs.Prelude.{Bool, true, false, List, [], ◌∷◌}
use Rattle.dir_acl.specs.Rules.{AccessRule}

abbrev pub has_rules : List AccessRule → Bool
has_rules [] = false
has_rules (rule ∷ rules) = true
