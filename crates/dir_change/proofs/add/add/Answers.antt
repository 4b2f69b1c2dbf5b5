use Rattle.std.proofs.Common.{◌≡◌, true, false, take, [], ◌∷◌, ◌++◌, length, IfSome, Option, Some, None, is_some, Ok, refl, sym, ap, subst, ◌∙◌, true≢false, arith}
use Rattle.std.proofs.lemmas.Result.{err_from_is_err_and}
use Rattle.dir_names.specs.Keys.{IsAtOrBelow}
use Rattle.dir_names.specs.Names.{SpelledName}
use Rattle.dir_names.specs.Below.{is_at_or_below}
use Rattle.dir_ldif.specs.declared.records.ChangeKind.TheVariants as kind
use Rattle.dir_tree.specs.Content.{Content}
use Rattle.dir_tree.specs.Dir.{entry_at, has_parent, put_entry}
use Rattle.dir_tree.specs.NewEntry.{new_entry}
use Rattle.dir_tree.specs.SpelledNames.{own_depth, own_rdns, spelled_name}
use Rattle.dir_change.specs.Operation.{IsRefused, directory_after_add, with_new_entry}
use Rattle.dir_change.specs.Refusals.{entry_or_code}
use Rattle.dir_change.specs.Undo.{name_of_parent}
use Rattle.dir_change.proofs.AfterOperations.{add_spelled, depth_fits}
use Rattle.dir_change.proofs.Conditions.{below_true, below_false, copied_none, copied_some, add_outside, add_taken, add_placed, refused_before}
use Rattle.dir_change.proofs.add.add.Goals as goal

nothing_there : (o : Option Content) → is_some o ≡ false → o ≡ None
nothing_there None h = refl
nothing_there (Some e) h = absurd (true≢false h)

some_name : (o : Option SpelledName) (x y : SpelledName) → o ≡ Some x → IfSome o (λ name. name ≡ y) → x ≡ y
some_name None x y e h = absurd (cc)
some_name (Some z) x y e h = let same : z ≡ x = cc in sym same ∙ h

pub returns-then-not-at_or_below-clause-refused : goal.returns-then-not-at_or_below-clause-refused
returns-then-not-at_or_below-clause-refused g c =
    let d = g.D.Directory.state c.args.directory.now in
    let k = c.args.key.now in
    let outside : is_at_or_below k d.suffix ≡ false = below_false k d.suffix (λ below. true≢false (sym (c.if-not-at_or_below.ensures.1 (subst (λ z. IsAtOrBelow k z) (sym c.suffix.ensures.key) below)))) in
    add_outside d k c.args.schema.now c.args.name.now c.args.lines.now outside

pub returns-then-is_some-clause-refused : goal.returns-then-is_some-clause-refused
returns-then-is_some-clause-refused g c =
    let d = g.D.Directory.state c.args.directory.now in
    let k = c.args.key.now in
    let below : is_at_or_below k d.suffix ≡ true = below_true k d.suffix (subst (λ z. IsAtOrBelow k z) c.suffix.ensures.key (c.if-not-at_or_below.ensures.0 refl)) in
    let there : is_some (entry_at d k) ≡ true = ap is_some (sym c.get.ensures) ∙ copied_some c.get.result (sym c.if-is_some.ensures) in
    add_taken d k c.args.schema.now c.args.name.now c.args.lines.now below there

pub entry_and_undo-requires : goal.entry_and_undo-requires
entry_and_undo-requires g c =
    let d = g.D.Directory.state c.args.directory.now in
    let k = c.args.key.now in
    let parent : has_parent d k ≡ true = sym c.in_ok-above.ensures.parent ∙ ap is_some c.in-Some.is in
    let above : c.in-Some.above ≡ name_of_parent d k = some_name c.in_ok-above.field-0 c.in-Some.above (name_of_parent d k) c.in-Some.is c.in_ok-above.ensures.name in
    let fits = depth_fits d c.suffix.ensures.closed k parent in
    let same_depth = ap (λ s. own_depth s k) c.suffix-2.ensures.key in
    let same_above = ap length above in
    omega (arith, fits, same_depth, same_above)

pub returns-in_err-entry-clause-refused : goal.returns-in_err-entry-clause-refused
returns-in_err-entry-clause-refused g c =
    let rows = c.args.schema.now in
    let d = g.D.Directory.state c.args.directory.now in
    let k = c.args.key.now in
    let name = c.args.name.now in
    let lines = c.args.lines.now in
    let below : is_at_or_below k d.suffix ≡ true = below_true k d.suffix (subst (λ z. IsAtOrBelow k z) c.suffix.ensures.key (c.if-not-at_or_below.ensures.0 refl)) in
    let free : is_some (entry_at d k) ≡ false = ap is_some (sym c.get.ensures) ∙ copied_none c.get.result (sym c.if-is_some.ensures) in
    let parent : has_parent d k ≡ true = sym c.in_ok-above.ensures.parent ∙ ap is_some c.in-Some.is in
    let at_place = add_placed d k rows name lines below free parent in
    let made : IsRefused c.in_err-entry.field-0.0 (entry_or_code (new_entry rows (own_rdns d.suffix k name) lines)) =
    subst (λ s. IsRefused c.in_err-entry.field-0.0 (entry_or_code (new_entry rows (own_rdns s k name) lines))) c.suffix-2.ensures.key c.in_err-entry.ensures.refused in
    let refused : IsRefused c.in_err-entry.field-0.0 (with_new_entry d k (new_entry rows (own_rdns d.suffix k name) lines)) =
    refused_before (λ e. Ok (put_entry d k e)) c.in_err-entry.field-0.0 (entry_or_code (new_entry rows (own_rdns d.suffix k name) lines)) made in
    let e = err_from_is_err_and c.from_residual-in_err-entry.result c.from_residual-in_err-entry.ensures.1 in
    rw e.1 (subst (λ r. IsRefused r (directory_after_add rows d k name lines)) (sym e.2) (subst (λ w. IsRefused c.in_err-entry.field-0.0 w) (sym at_place) refused))

pub returns-in-Ok-clause-ok : goal.returns-in-Ok-clause-ok
returns-in-Ok-clause-ok g c =
    let rows = c.args.schema.now in
    let d = g.D.Directory.state c.args.directory.now in
    let k = c.args.key.now in
    let name = c.args.name.now in
    let lines = c.args.lines.now in
    let below : is_at_or_below k d.suffix ≡ true = below_true k d.suffix (subst (λ z. IsAtOrBelow k z) c.suffix.ensures.key (c.if-not-at_or_below.ensures.0 refl)) in
    let free : is_some (entry_at d k) ≡ false = ap is_some (sym c.get.ensures) ∙ copied_none c.get.result (sym c.if-is_some.ensures) in
    let parent : has_parent d k ≡ true = sym c.in_ok-above.ensures.parent ∙ ap is_some c.in-Some.is in
    let made : new_entry rows (own_rdns d.suffix k name) lines ≡ Ok c.in_ok-entry.entry = ap (λ s. new_entry rows (own_rdns s k name) lines) (sym c.suffix-2.ensures.key) ∙ c.in_ok-entry.ensures.ok in
    add_placed d k rows name lines below free parent ∙ ap (with_new_entry d k) made ∙ ap Ok (sym c.in-Ok.ensures.ok)

pub returns-in-Ok-clause-undo : goal.returns-in-Ok-clause-undo
returns-in-Ok-clause-undo g c =
    let rows = c.args.schema.now in
    let d = g.D.Directory.state c.args.directory.now in
    let k = c.args.key.now in
    let name = c.args.name.now in
    let lines = c.args.lines.now in
    let parent : has_parent d k ≡ true = sym c.in_ok-above.ensures.parent ∙ ap is_some c.in-Some.is in
    let above : c.in-Some.above ≡ name_of_parent d k = some_name c.in_ok-above.field-0 c.in-Some.above (name_of_parent d k) c.in-Some.is c.in_ok-above.ensures.name in
    let made : new_entry rows (own_rdns d.suffix k name) lines ≡ Ok c.in_ok-entry.entry = ap (λ s. new_entry rows (own_rdns s k name) lines) (sym c.suffix-2.ensures.key) ∙ c.in_ok-entry.ensures.ok in
    let spelled : spelled_name (g.D.Directory.state c.insert.new.self) k ≡ take (own_depth d.suffix k) (own_rdns d.suffix k name) ++ c.in-Some.above =
    ap (λ z. spelled_name z k) c.in-Ok.ensures.ok
    ∙ add_spelled rows d c.suffix.ensures.closed k (own_rdns d.suffix k name) lines c.in_ok-entry.entry parent made
    ∙ ap (λ z. take (own_depth d.suffix k) (own_rdns d.suffix k name) ++ z) (sym above) in
    c.in_ok-entry.ensures.undo
    ∙ ap (λ s. record { dn = take (own_depth s k) (own_rdns s k name) ++ c.in-Some.above; kind = kind.Delete } ∷ []) c.suffix-2.ensures.key
    ∙ ap (λ n. record { dn = n; kind = kind.Delete } ∷ []) (sym spelled)

pub insert-requires-clause-free : goal.insert-requires-clause-free
insert-requires-clause-free g c =
    nothing_there (entry_at (g.D.Directory.state c.args.directory.now) c.args.key.now) (ap is_some (sym c.get.ensures) ∙ copied_none c.get.result (sym c.if-is_some.ensures))
