use Rattle.std.proofs.Common.{◌≡◌, ℕ, ◌-◌, true, List, Option, Ok, Bor, length, sym, ap, ◌∙◌, subst}
use Rattle.std.specs.Prelude.{IfSome}
use Rattle.std.specs.List.{slice_get}
use Rattle.dir_names.specs.declared.schema.TypeRow.{TypeRow}
use Rattle.dir_acl.specs.declared.access.Rule.{Rule}
use Rattle.dir_acl.specs.Config.{after_line, at_line}
use Rattle.dir_acl.specs.Config.AccessRules.{access_rule_of}
use Rattle.dir_acl.specs.Inside.NotedTypes.{noted_by}
use Rattle.dir_acl.specs.Inside.ReadingConfig.{settings_of}
use Rattle.dir_acl.specs.Notes.{after_keyword, is_rule}
use Rattle.dir_acl.specs.Rules.{rule_of}
use Rattle.dir_acl.proofs.NotedLines.{rule_read}
use Rattle.dir_acl.proofs.note.lines.after_noted_line.Goals as goal

pub with_notes_on_line-requires : goal.with_notes_on_line-requires
with_notes_on_line-requires c =
    let rules : List Rule = c.in_ok-settings.settings.rules.items in
    subst
    (λ (words : List (Option (List ℕ))).
    is_rule c.args.noted.settings.is_passed_over words ≡ true → IfSome c.last.result (λ (rule : Bor Rule). access_rule_of c.args.types.now.schema.now (after_keyword words) ≡ Ok (rule_of rule.now)))
    (sym c.words.ensures)
    (rule_read (noted_by c.args.types.now) (settings_of c.args.noted.settings) c.args.line.now.number c.args.line.now.said c.in_ok-settings.settings c.last.result
    (ap (λ (rows : List TypeRow). at_line c.args.line.now.number (after_line rows (settings_of c.args.noted.settings) c.args.line.now.said)) (sym c.schema.ensures) ∙ c.in_ok-settings.ensures)
    (c.last.ensures.value ∙ ap (λ (rules : List Rule). slice_get rules (length rules - 1)) c.deref.ensures.value))
