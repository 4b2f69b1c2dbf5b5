use Rattle.std.proofs.Common.{◌≡◌, true, false, Some, refl, sym, subst, true≢false}
use Rattle.dir_names.specs.Below.{is_at_or_below}
use Rattle.dir_names.specs.Keys.{IsAtOrBelow}
use Rattle.dir_change.proofs.Conditions.{below_false, below_true}
use Rattle.dir_tools.proofs.AccessParts.{looked_up, made_up, outside}
use Rattle.dir_tools.proofs.acl.find_target.Goals as goal

pub returns-then-not-at_or_below-clause-none : goal.returns-then-not-at_or_below-clause-none
returns-then-not-at_or_below-clause-none g c =
    let d = g.D.Directory.state c.args.directory.now in
    let base = c.args.base.now in
    let out : is_at_or_below base d.suffix ≡ false = below_false base d.suffix (λ h. true≢false (sym (c.if-not-at_or_below.ensures.1 (subst (λ z. IsAtOrBelow base z) (sym c.suffix.ensures.key) h)))) in
    (refl, outside c.args.fake d base out)

pub returns-then-fake-clause-ok : goal.returns-then-fake-clause-ok
returns-then-fake-clause-ok g c =
    let d = g.D.Directory.state c.args.directory.now in
    let base = c.args.base.now in
    let inside : is_at_or_below base d.suffix ≡ true = below_true base d.suffix (subst (λ z. IsAtOrBelow base z) c.suffix.ensures.key (c.if-not-at_or_below.ensures.0 refl)) in
    made_up c.args.fake d base inside c.if-fake.true

pub returns-in-Some-clause-ok : goal.returns-in-Some-clause-ok
returns-in-Some-clause-ok g c =
    let d = g.D.Directory.state c.args.directory.now in
    let base = c.args.base.now in
    let inside : is_at_or_below base d.suffix ≡ true = below_true base d.suffix (subst (λ z. IsAtOrBelow base z) c.suffix.ensures.key (c.if-not-at_or_below.ensures.0 refl)) in
    looked_up c.args.fake d base inside c.if-fake.false (Some c.in-Some.entry.now) (sym c.in-Some.ensures)
