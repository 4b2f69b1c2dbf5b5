use Rattle.std.proofs.Common.{◌≡◌, true, false, is_some, Some, refl, sym, ap, subst, ◌∙◌, true≢false}
use Rattle.std.specs.BTreeMap.{get}
use Rattle.dir_names.specs.Keys.{IsAtOrBelow}
use Rattle.dir_names.specs.Orders.{dn_key_cmp}
use Rattle.dir_names.specs.Below.{is_at_or_below}
use Rattle.dir_tree.specs.Dir.{entry_at}
use Rattle.dir_change.proofs.Conditions.{below_false, below_true}
use Rattle.dir_tools.proofs.CopyFaults.{outside, some_there, taken_place, waits_there}
use Rattle.dir_tools.proofs.copy.loading.Loading.refusal_of_place.Goals.{then-contains_key-via-else-contains_key+then-is_taken_from_large, then-contains_key-via-then-contains_key}
use Rattle.dir_tools.proofs.copy.loading.Loading.refusal_of_place.Goals as goal

pub returns-then-not-at_or_below-clause-refused : goal.returns-then-not-at_or_below-clause-refused
returns-then-not-at_or_below-clause-refused g c rows m line name lines was =
    let d = g.D.Directory.state c.args.self.now.directory in
    let k = c.args.key.now in
    let out : is_at_or_below k m.entries.suffix ≡ false = ap (is_at_or_below k) was.0.0 ∙ below_false k d.suffix (λ h. true≢false (sym (c.if-not-at_or_below.ensures.1 (subst (λ z. IsAtOrBelow k z) (sym c.suffix.ensures.key) h)))) in
    outside rows m line name lines (Some k) k refl out

pub returns-then-contains_key-clause-refused : goal.returns-then-contains_key-clause-refused
returns-then-contains_key-clause-refused g c rows m line name lines was =
    let d = g.D.Directory.state c.args.self.now.directory in
    let waiting = get dn_key_cmp c.args.self.now.waiting in
    let k = c.args.key.now in
    let inside : is_at_or_below k m.entries.suffix ≡ true = ap (is_at_or_below k) was.0.0 ∙ below_true k d.suffix (subst (λ z. IsAtOrBelow k z) c.suffix.ensures.key (c.if-not-at_or_below.ensures.0 refl)) in
    let there : is_some (entry_at m.entries k) ≡ true = elim c.then-contains_key.branch [
      | then-contains_key-via-then-contains_key w ↦ waits_there m d waiting k was.0 (sym w.if-contains_key.ensures)
      | then-contains_key-via-else-contains_key+then-is_taken_from_large w ↦ some_there m d waiting k was.0 (w.is_taken_from_large.ensures w.if-is_taken_from_large.true)
    ] in
    taken_place rows m line name lines (Some k) k refl inside there

pub returns-clause-inside : goal.returns-clause-inside
returns-clause-inside g c none =
    let d = g.D.Directory.state c.args.self.now.directory in
    below_true c.args.key.now d.suffix (subst (λ z. IsAtOrBelow c.args.key.now z) c.suffix.ensures.key (c.if-not-at_or_below.ensures.0 refl))
