use Rattle.std.proofs.Common.{◌≡◌, ℕ, List, Option, Some, None, Bor, Ok}
use Rattle.std.specs.Prelude.{IfSome}
use Rattle.std.specs.Option.{option_copied}
use Rattle.dir_acl.specs.declared.access.Rule.{Rule}
use Rattle.dir_acl.specs.Config.AccessRules.{access_rule_of}
use Rattle.dir_acl.specs.Inside.ClearLists.{AreSilent, HasClearLists}
use Rattle.dir_acl.specs.Inside.NotedTypes.{noted_by}
use Rattle.dir_acl.specs.Notes.Supertypes.{NotedTypes}
use Rattle.dir_acl.specs.Rules.{rule_of}
use Rattle.dir_acl.proofs.ClearLists.{words_silent}
use Rattle.dir_acl.proofs.note.words.with_rule.Goals as goal

are_silent : (types : NotedTypes) (n : ℕ) (words : List (Option (List ℕ))) (rule : Option (Bor Rule)) → HasClearLists types (option_copied rule)
    → IfSome rule (λ (rule : Bor Rule). access_rule_of types.rows words ≡ Ok (rule_of rule.now)) → AreSilent types n words
are_silent types n words None clear read = absurd clear
are_silent types n words (Some rule) clear read = words_silent types n (rule_of rule.now) clear words read

pub with_words-requires : goal.with_words-requires
with_words-requires c = λ is. are_silent (noted_by c.args.types.now) c.args.line c.args.words.now c.args.rule (c.has_clear_lists.ensures is) c.requires
