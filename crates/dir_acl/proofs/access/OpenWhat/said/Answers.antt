use Rattle.std.proofs.Common.{cond, List, sym, ap, ◌∙◌}
use Rattle.std.specs.List.{list_any}
use Rattle.dir_acl.specs.declared.access.Asked.{Asked}
use Rattle.dir_acl.specs.declared.access.OpenWhat.{OpenWhat}
use Rattle.dir_acl.specs.declared.open_rules.Verdict.{Verdict}
use Rattle.dir_acl.specs.declared.open_rules.Verdict.TheVariants.{Holds, Open}
use Rattle.dir_acl.specs.Bounds.{open_what_says}
use Rattle.dir_acl.specs.Decision.{is_asked}
use Rattle.dir_acl.specs.Inside.Requests.{question_of}
use Rattle.dir_acl.specs.Rules.{open_restriction_of}
use Rattle.dir_acl.proofs.access.OpenWhat.said.Goals as goal

pub returns-in-Types : goal.returns-in-Types
returns-in-Types c =
    c.said_by_items.ensures
    ∙ ap (λ (items : List Asked). cond (list_any (λ item. is_asked item c.args.request.now.asked) items) Holds c.said_of_attributes.result) c.deref.ensures.value
    ∙ ap (λ (otherwise : Verdict). cond (list_any (λ item. is_asked item c.args.request.now.asked) c.in-Types.items.items) Holds otherwise) c.said_of_attributes.ensures
    ∙ ap (λ (what : OpenWhat). open_what_says (question_of c.args.request.now) (open_restriction_of what)) (sym c.in-Types.is)

pub returns-in-Classes : goal.returns-in-Classes
returns-in-Classes c =
    c.said_by_items-in-Classes.ensures
    ∙ ap (λ (items : List Asked). cond (list_any (λ item. is_asked item c.args.request.now.asked) items) Holds Open) c.deref-in-Classes.ensures.value
    ∙ ap (λ (what : OpenWhat). open_what_says (question_of c.args.request.now) (open_restriction_of what)) (sym c.in-Classes.is)
