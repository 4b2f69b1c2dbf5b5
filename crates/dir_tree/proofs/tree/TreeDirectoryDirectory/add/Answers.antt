use Rattle.std.proofs.Common.{◌≡◌, [], ◌∷◌, None, Err, Ok, OnOk, Result, Some, is_some, refl, sym, ap, subst, ◌∙◌}
use Rattle.std.specs.Bool.{IsFalse, IsTrue}
use Rattle.std.specs.FinMap as fin
use Rattle.dir_tree.specs.Added.{IsNotAdded}
use Rattle.dir_tree.specs.Dir.{entry_at, has_parent, put_entry}
use Rattle.dir_tree.specs.Moves.{rest_below}
use Rattle.dir_tree.specs.Inside.TreeAdds.{IsNotAddedOn}
use Rattle.dir_tree.specs.Inside.TreePlaces.{entry_in, entry_on}
use Rattle.dir_tree.specs.Inside.Trees.{tree_dir}
use Rattle.dir_tree.proofs.TreeAdds.{added_free, added_parent, added_put, added_tree, cause_on, if_err, none_above, none_at, none_outside, suffix_has}
use Rattle.dir_tree.proofs.TreeNodes.{no_length}
use Rattle.dir_tree.proofs.TreeWrites.{Spot, on_path, suffix_key, suffix_put, tree_begun}
use Rattle.dir_tree.proofs.tree.TreeDirectoryDirectory.add.Goals as goal
use Rattle.dir_tree.proofs.tree.TreeDirectoryDirectory.add.Goals.{After-add_at}

on_ok : {A E P Q : Type 0} → (r : Result A E) → (P → Q) → OnOk r P → OnOk r Q
on_ok (Ok x) f p = f p
on_ok (Err e) f p = p

pub returns-in_default-clause-cause : goal.returns-in_default-clause-cause
returns-in_default-clause-cause c =
    let none = none_outside c.self.inside.suffix c.self.inside.root c.args.key.now c.self.invariant.closed (sym c.in_default.ensures.value) in (
      refl,
      ap (λ d. entry_at d c.args.key.now) (sym c.self.view_is) ∙ none.0,
      subst (λ d. IsFalse (has_parent d c.args.key.now)) c.self.view_is none.1,
    )

pub returns-in-Some-root-clause-cause : goal.returns-in-Some-root-clause-cause
returns-in-Some-root-clause-cause c =
    let there = on_path c.self.inside.suffix c.self.inside.root c.in-Some-root.root c.in-Some-root.is c.args.key.now c.in-Some.path.now c.in-Some.ensures.value in
    let at_root = ap (entry_on c.in-Some-root.root) (no_length c.in-Some.path.now c.in-None.ensures.cases) ∙ ap entry_in c.entry-entry.ensures in
    ap is_some (ap (λ d. entry_at d c.args.key.now) (sym c.self.view_is) ∙ there ∙ at_root)

pub invariant_of-self : goal.invariant_of-self
invariant_of-self c =
    let s = c.self.inside.suffix in
    let k = c.args.key.now in
    let same : k ≡ s = suffix_key s k c.in-Some.path.now c.in-Some.ensures.value c.in-None.ensures.cases in
    tree_begun s c.self.inside.root k same c.self.invariant c.leaf.result c.args.entry (c.leaf.ensures ∙ ap (λ e. fin.insert fin.empty [] (Some e)) c.settled-entry.ensures)
    (none_at s c.self.inside.root c.in_default-root.is k) (suffix_has s c.self.inside.root k same) c.in-Some.ensures.within_limit

pub returns-in_default-root-clause-ok : goal.returns-in_default-root-clause-ok
returns-in_default-root-clause-ok c =
    let s = c.self.inside.suffix in
    let k = c.args.key.now in
    suffix_put s c.self.inside.root k (suffix_key s k c.in-Some.path.now c.in-Some.ensures.value c.in-None.ensures.cases) c.self.invariant c.leaf.result c.args.entry (c.leaf.ensures ∙ ap (λ e. fin.insert fin.empty [] (Some e)) c.settled-entry.ensures)
    (none_at s c.self.inside.root c.in_default-root.is k)
    ∙ ap (λ d. put_entry d k c.args.entry) c.self.view_is

pub returns-in_default-root-clause-free : goal.returns-in_default-root-clause-free
returns-in_default-root-clause-free c = ap (λ d. entry_at d c.args.key.now) (sym c.self.view_is) ∙ none_at c.self.inside.suffix c.self.inside.root c.in_default-root.is c.args.key.now

pub returns-in_default-root-clause-parent : goal.returns-in_default-root-clause-parent
returns-in_default-root-clause-parent c =
    let s = c.self.inside.suffix in
    let k = c.args.key.now in
    subst (λ d. IsTrue (has_parent d k)) c.self.view_is (suffix_has s c.self.inside.root k (suffix_key s k c.in-Some.path.now c.in-Some.ensures.value c.in-None.ensures.cases))

pub returns-in_default-root-2-clause-cause : goal.returns-in_default-root-2-clause-cause
returns-in_default-root-2-clause-cause c =
    let s = c.self.inside.suffix in
    let k = c.args.key.now in (
      refl,
      ap (λ d. entry_at d k) (sym c.self.view_is) ∙ none_at s c.self.inside.root c.in_default-root-2.is k,
      subst (λ d. IsFalse (has_parent d k)) c.self.view_is
          (none_above s c.self.inside.root c.self.invariant.closed c.in_default-root-2.is k c.in-Some-split_first.first.now c.in-Some-split_first.rest.now (ap (λ path. Some path) (sym c.in-Some-split_first.ensures.cases.0) ∙ c.in-Some.ensures.value)),
    )

spot : (c : After-add_at) → Some c.in-Some.path.now ≡ rest_below c.self.inside.suffix c.args.key.now → Spot c.self.inside.suffix c.self.inside.root c.args.key.now c.in-Some-root-2.root (c.in-Some-split_first.first.now ∷ c.in-Some-split_first.rest.now)
spot c is = record { root_is = c.in-Some-root-2.is; path_is = ap (λ path. Some path) (sym c.in-Some-split_first.ensures.cases.0) ∙ is }

pub invariant_of-self-in-Some-split_first : goal.invariant_of-self-in-Some-split_first
invariant_of-self-in-Some-split_first c =
    added_tree c.self.inside.suffix c.self.inside.root c.self.invariant.closed c.args.key.now c.in-Some-root-2.root c.in-Some-split_first.first.now c.in-Some-split_first.rest.now (spot c c.in-Some.ensures.value)
    c.self.invariant c.args.entry c.add_at.new.self c.add_at.result c.add_at.ensures.ok c.add_at.ensures.free c.add_at.ensures.parent c.add_at.ensures.err c.in-Some.ensures.within_limit

pub returns-in-Some-root-2-clause-ok : goal.returns-in-Some-root-2-clause-ok
returns-in-Some-root-2-clause-ok c =
    on_ok c.add_at.result (λ (put : tree_dir c.self.inside.suffix (Some c.add_at.new.self) ≡ put_entry (tree_dir c.self.inside.suffix c.self.inside.root) c.args.key.now c.args.entry). put ∙ ap (λ d. put_entry d c.args.key.now c.args.entry) c.self.view_is)
    (added_put c.self.inside.suffix c.self.inside.root c.self.invariant.closed c.args.key.now c.in-Some-root-2.root c.in-Some-split_first.first.now c.in-Some-split_first.rest.now (spot c c.in-Some.ensures.value)
    c.self.invariant c.args.entry c.add_at.new.self c.add_at.result c.add_at.ensures.ok c.add_at.ensures.free)

pub returns-in-Some-root-2-clause-free : goal.returns-in-Some-root-2-clause-free
returns-in-Some-root-2-clause-free c =
    subst (λ d. OnOk c.add_at.result (entry_at d c.args.key.now ≡ None)) c.self.view_is
    (added_free c.self.inside.suffix c.self.inside.root c.self.invariant.closed c.args.key.now c.in-Some-root-2.root c.in-Some-split_first.first.now c.in-Some-split_first.rest.now (spot c c.in-Some.ensures.value) c.add_at.result c.add_at.ensures.free)

pub returns-in-Some-root-2-clause-parent : goal.returns-in-Some-root-2-clause-parent
returns-in-Some-root-2-clause-parent c =
    subst (λ d. OnOk c.add_at.result (IsTrue (has_parent d c.args.key.now))) c.self.view_is
    (added_parent c.self.inside.suffix c.self.inside.root c.self.invariant.closed c.args.key.now c.in-Some-root-2.root c.in-Some-split_first.first.now c.in-Some-split_first.rest.now (spot c c.in-Some.ensures.value) c.add_at.result c.add_at.ensures.parent)

pub returns-in-Some-root-2-clause-cause : goal.returns-in-Some-root-2-clause-cause
returns-in-Some-root-2-clause-cause c =
    let s = c.self.inside.suffix in
    let k = c.args.key.now in
    if_err c.add_at.result
    (λ e (why : IsNotAddedOn c.in-Some-root-2.root c.in-Some-split_first.first.now c.in-Some-split_first.rest.now c.args.entry e).
    subst (λ d. IsNotAdded d k c.args.entry e) c.self.view_is
    (cause_on s c.self.inside.root c.self.invariant.closed k c.in-Some-root-2.root c.in-Some-split_first.first.now c.in-Some-split_first.rest.now (spot c c.in-Some.ensures.value) c.args.entry e why))
    c.add_at.ensures.cause
