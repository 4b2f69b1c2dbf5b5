use Rattle.std.proofs.Common.{ap, ◌∙◌, true≢false, Result, Ok, Err, OnOk, IfOk, IsOk, sym, subst}
use Rattle.dir_tree.specs.WellFormed.{Each}
use Rattle.dir_change.specs.Operation.{step_at}
use Rattle.dir_change.specs.Runs.{group_at}
use Rattle.dir_change.specs.SoundChange.{IsSoundChange}
use Rattle.dir_change.specs.Undo.{IsUndo}
use Rattle.dir_change.proofs.StaysWellFormed.{step_keeps}
use Rattle.dir_change.proofs.StaysWithinLimits.{group_sound, step_within}
use Rattle.dir_change.proofs.Undoing.{groups_undo}
use Rattle.dir_change.proofs.operation.apply.Goals as goal

-- what holds of an accepted change's group, from what is known of it
if_both : {A E P : Type 0} {Q R : A → Type 0} → (r : Result A E) → OnOk r P → IfOk r Q → ((x : A) → P → Q x → R x) → IfOk r R
if_both (Ok x) p q f = f x p q
if_both (Err e) p q f = tt

known_of : {A E P : Type 0} → (r : Result A E) → IsOk r → OnOk r P → P
known_of (Ok x) ok p = p
known_of (Err e) ok p = absurd (true≢false (sym ok))

pub returns-clause-kept : goal.returns-clause-kept
returns-clause-kept g c ok well sound =
    let rows = c.args.schema.now in
    let d = g.D.Directory.state c.args.directory.now in
    let change = c.args.change.now in
    let accepted = ap (step_at rows d change) c.in_ok-key.ensures.ok ∙ known_of c.perform.result ok c.perform.ensures.ok in
    step_keeps rows d change well sound (g.D.Directory.state c.perform.new.directory) accepted

pub returns-clause-limits : goal.returns-clause-limits
returns-clause-limits g c ok within sound =
    let rows = c.args.schema.now in
    let d = g.D.Directory.state c.args.directory.now in
    let change = c.args.change.now in
    let accepted = ap (step_at rows d change) c.in_ok-key.ensures.ok ∙ known_of c.perform.result ok c.perform.ensures.ok in
    step_within rows d change within sound (g.D.Directory.state c.perform.new.directory) accepted

pub returns-clause-undoes : goal.returns-clause-undoes
returns-clause-undoes g c =
    let rows = c.args.schema.now in
    let d = g.D.Directory.state c.args.directory.now in
    let new = g.D.Directory.state c.perform.new.directory in
    let change = c.args.change.now in
    let named = c.in_ok-key.ensures.ok in
    if_both c.perform.result c.perform.ensures.ok c.perform.ensures.undo (λ undo led group well within sound.
    subst (IsUndo rows d new change) (ap (group_at rows d new change) named ∙ sym group) (groups_undo rows d new change well within sound (ap (step_at rows d change) named ∙ led)))

pub returns-clause-sound : goal.returns-clause-sound
returns-clause-sound g c =
    let rows = c.args.schema.now in
    let d = g.D.Directory.state c.args.directory.now in
    let new = g.D.Directory.state c.perform.new.directory in
    let change = c.args.change.now in
    let named = c.in_ok-key.ensures.ok in
    if_both c.perform.result c.perform.ensures.ok c.perform.ensures.undo (λ undo led group well within sound.
    subst (Each (IsSoundChange rows)) (ap (group_at rows d new change) named ∙ sym group) (group_sound rows d change well within sound new (ap (step_at rows d change) named ∙ led)))
