use Rattle.std.proofs.Common.{◌≡◌, true, false, not, is_some, Some, Ok, sym, ap, ◌∙◌, true≢false}
use Rattle.dir_names.specs.Below.{is_at_or_below}
use Rattle.dir_tree.specs.Dir.{entry_at}
use Rattle.dir_change.specs.Refusals.{unless}
use Rattle.dir_change.specs.Rename.{superior_at, superior_key}
use Rattle.dir_change.specs.declared.result_code.ResultCode.TheVariants.{NoSuchObject, UnwillingToPerform}
use Rattle.dir_change.proofs.Conditions.{below_false, below_true, copied_none, copied_some}
use Rattle.dir_change.proofs.rename.superior.Goals as goal

pub returns-then-at_or_below-clause-refused : goal.returns-then-at_or_below-clause-refused
returns-then-at_or_below-clause-refused g c =
    let d = g.D.Directory.state c.args.directory.now in
    let named : superior_key c.args.schema.now c.args.key.now c.args.newsuperior.now ≡ Some c.in-Some.superior = sym c.in_ok-superior.ensures.ok ∙ c.in-Some.is in
    let below : is_at_or_below c.in-Some.superior c.args.key.now ≡ true = below_true c.in-Some.superior c.args.key.now (c.at_or_below.ensures.0 c.if-at_or_below.true) in
    ap (superior_at d c.args.key.now) named ∙ ap (λ b. unless b UnwillingToPerform (unless (not (is_some (entry_at d c.in-Some.superior))) NoSuchObject (Ok c.in-Some.superior))) below

pub returns-then-is_none-clause-refused : goal.returns-then-is_none-clause-refused
returns-then-is_none-clause-refused g c =
    let d = g.D.Directory.state c.args.directory.now in
    let named : superior_key c.args.schema.now c.args.key.now c.args.newsuperior.now ≡ Some c.in-Some.superior = sym c.in_ok-superior.ensures.ok ∙ c.in-Some.is in
    let below : is_at_or_below c.in-Some.superior c.args.key.now ≡ false = below_false c.in-Some.superior c.args.key.now (λ below. true≢false (sym (c.at_or_below.ensures.1 below) ∙ c.if-at_or_below.false)) in
    let missing : is_some (entry_at d c.in-Some.superior) ≡ false = ap is_some (sym c.get.ensures) ∙ copied_none c.get.result c.if-is_none.ensures in
    ap (superior_at d c.args.key.now) named ∙ (λ i. unless (below i) UnwillingToPerform (unless (not (missing i)) NoSuchObject (Ok c.in-Some.superior)))

pub returns-clause-ok : goal.returns-clause-ok
returns-clause-ok g c =
    let d = g.D.Directory.state c.args.directory.now in
    let named : superior_key c.args.schema.now c.args.key.now c.args.newsuperior.now ≡ Some c.in-Some.superior = sym c.in_ok-superior.ensures.ok ∙ c.in-Some.is in
    let below : is_at_or_below c.in-Some.superior c.args.key.now ≡ false = below_false c.in-Some.superior c.args.key.now (λ below. true≢false (sym (c.at_or_below.ensures.1 below) ∙ c.if-at_or_below.false)) in
    let there : is_some (entry_at d c.in-Some.superior) ≡ true = ap is_some (sym c.get.ensures) ∙ copied_some c.get.result c.if-is_none.ensures in
    ap (superior_at d c.args.key.now) named ∙ (λ i. unless (below i) UnwillingToPerform (unless (not (there i)) NoSuchObject (Ok c.in-Some.superior)))
