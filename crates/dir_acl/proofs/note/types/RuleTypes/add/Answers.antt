use Rattle.std.proofs.Common.{◌≡◌, Bool, true, false, cond, Option, Some, None, Result, Ok, Err, refl, sym, ap, ◌∙◌}
use Rattle.std.specs.Prelude.{◌&&◌, ◌||◌}
use Rattle.std.specs.BTreeSet.{contains}
use Rattle.dir_names.specs.Attr.{Attr}
use Rattle.dir_names.specs.Orders.{attr_cmp, attr_cmp_ties, attr_eq}
use Rattle.dir_acl.specs.declared.fault.ConfigCause.{ConfigCause}
use Rattle.dir_acl.specs.Notes.Supertypes.{is_named, type_named}
use Rattle.dir_acl.proofs.note.types.RuleTypes.add.Goals as goal

-- one more: it, or what there was
one_more : (is was : Bool) → cond is true was ≡ (was || is)
one_more true true = refl
one_more true false = refl
one_more false true = refl
one_more false false = refl

abbrev in_ok : Result (Option Attr) ConfigCause → Option Attr
in_ok (Ok attr) = attr
in_ok (Err cause) = None

pub returns-in_ok-insert-in-Some-clause-types : goal.returns-in_ok-insert-in-Some-clause-types
returns-in_ok-insert-in-Some-clause-types c =
    let was : Attr → Bool = contains attr_cmp c.args.self.now.supertypes in
    let named : type_named c.args.self.now.schema.now c.args.spelling.now ≡ Some c.in-Some.attr = ap in_ok c.in_ok-attr.ensures ∙ c.in-Some.is in (
      refl,
      λ attr.
          c.in_ok-insert-in-Some.ensures.updates.0 attr
          ∙ ap (λ b. cond b true (was attr)) (sym (attr_cmp_ties c.in-Some.attr attr))
          ∙ one_more (attr_eq c.in-Some.attr attr) (was attr)
          ∙ ap (λ known. was attr || (known && attr_eq c.in-Some.attr attr)) c.if-knows.ensures
          ∙ ap (λ (o : Option Attr). was attr || is_named c.args.self.now.schema.now attr o) (sym named),
    )
