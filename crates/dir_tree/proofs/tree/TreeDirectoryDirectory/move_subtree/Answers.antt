use Rattle.std.proofs.Common.{◌≡◌, ◌+◌, ◌≤◌, ◌∷◌, Err, IfOk, Ok, OnErr, OnOk, Result, Some, length, is_some, sym, ap, subst, ◌∙◌, true≢false}
use Rattle.dir_names.specs.Keys.{DnKeys, parent_of}
use Rattle.dir_names.specs.Orders.{dn_key_eq_decides}
use Rattle.dir_tree.specs.Dir.{entry_at, is_there}
use Rattle.dir_tree.specs.Moves.{height_below, move_subtree, rest_below}
use Rattle.dir_tree.specs.Inside.TreePlaces.{IsMove, entry_on}
use Rattle.dir_tree.specs.Inside.Trees.{IsTree, tree_dir}
use Rattle.dir_tree.proofs.MoveLemmas.{Place, place_of}
use Rattle.dir_tree.proofs.RestBelow.{rest_of}
use Rattle.dir_tree.proofs.TreeMoves.{Moving, move_apart, move_free, move_made, move_outside, move_parent, move_same, move_there, moving, tree_moved}
use Rattle.dir_tree.proofs.TreeWrites.{below_parent, below_there, on_path, root_there}
use Rattle.dir_tree.proofs.tree.TreeDirectoryDirectory.move_subtree.Goals as goal
use Rattle.dir_tree.proofs.tree.TreeDirectoryDirectory.move_subtree.Goals.{After-node_in}

cases : {A E P Q X : Type 0} → (r : Result A E) → OnOk r P → OnErr r Q → (P → X) → (Q → X) → X
cases (Ok a) p q f g = f p
cases (Err e) p q f g = g q

on_ok : {A E P Q : Type 0} → (r : Result A E) → (P → Q) → OnOk r P → OnOk r Q
on_ok (Ok x) f p = f p
on_ok (Err e) f p = p

if_ok : {A E : Type 0} {P Q : A → Type 0} → (r : Result A E) → ((a : A) → P a → Q a) → IfOk r P → IfOk r Q
if_ok (Ok x) f p = f x p
if_ok (Err e) f p = p

-- the conditions, of the paths
ready : (c : After-node_in) → Moving c.self.inside.suffix c.node_in.result.now (c.parts_below.result.0.now ∷ c.parts_below.result.1.now) (c.parts_below-2.result.0.now ∷ c.parts_below-2.result.1.now)
ready c =
    moving c.self.inside.suffix c.self.inside.root c.node_in.result.now c.node_in.ensures.is c.self.invariant c.args.old.now c.args.new.now
    (c.parts_below.result.0.now ∷ c.parts_below.result.1.now) (c.parts_below-2.result.0.now ∷ c.parts_below-2.result.1.now) c.parts_below.ensures c.parts_below-2.ensures
    (subst (λ d. Place d c.args.old.now c.args.new.now) (sym c.self.view_is) (place_of c.args.self.now c.args.old.now c.args.new.now c.requires.there c.requires.inner c.requires.parent c.requires.place))
    (λ same. true≢false (sym ((dn_key_eq_decides c.args.old.now c.args.new.now).1 same) ∙ sym c.eq.ensures ∙ c.if-eq.false))
    (subst (λ d. length c.args.new.now + height_below d c.args.old.now ≤ 64) (sym c.self.view_is) c.requires.fits)

pub returns-then-eq-clause-ok : goal.returns-then-eq-clause-ok
returns-then-eq-clause-ok c =
    let same : c.args.old.now ≡ c.args.new.now = (dn_key_eq_decides c.args.old.now c.args.new.now).0 (sym c.eq.ensures ∙ c.if-eq.true) in
    c.replace.ensures.new ∙ move_same c.args.self.now c.args.old.now c.args.entry ∙ ap (λ new. move_subtree c.args.self.now c.args.old.now new c.args.entry) same

pub parts_below-requires : goal.parts_below-requires
parts_below-requires c =
    below_there c.self.inside.suffix c.self.inside.root c.args.old.now (ap (λ d. is_some (entry_at d c.args.old.now)) c.self.view_is ∙ c.requires.there)
    (λ same. c.requires.inner (same ∙ ap (λ d. d.suffix) c.self.view_is))

pub parts_below-requires-2 : goal.parts_below-requires-2
parts_below-requires-2 c = below_parent c.self.inside.suffix c.self.inside.root c.args.new.now (ap (λ d. is_there d (parent_of c.args.new.now)) c.self.view_is ∙ c.requires.parent)

pub node_in-requires : goal.node_in-requires
node_in-requires c = root_there c.self.inside.suffix c.self.inside.root c.args.old.now (ap (λ d. is_some (entry_at d c.args.old.now)) c.self.view_is ∙ c.requires.there)

pub move_at-requires-clause-there : goal.move_at-requires-clause-there
move_at-requires-clause-there c = move_there c.self.inside.suffix c.node_in.result.now _ _ (ready (goal.at.move_at-requires-clause-there c).After-node_in)

pub move_at-requires-clause-parent : goal.move_at-requires-clause-parent
move_at-requires-clause-parent c = move_parent c.self.inside.suffix c.node_in.result.now _ c.parts_below-2.result.0.now c.parts_below-2.result.1.now (ready (goal.at.move_at-requires-clause-parent c).After-node_in)

pub move_at-requires-clause-free : goal.move_at-requires-clause-free
move_at-requires-clause-free c = move_free c.self.inside.suffix c.node_in.result.now _ _ (ready (goal.at.move_at-requires-clause-free c).After-node_in)

pub move_at-requires-clause-outside : goal.move_at-requires-clause-outside
move_at-requires-clause-outside c = move_outside c.self.inside.suffix c.node_in.result.now _ _ (ready (goal.at.move_at-requires-clause-outside c).After-node_in)

pub move_at-requires-clause-apart : goal.move_at-requires-clause-apart
move_at-requires-clause-apart c = move_apart c.self.inside.suffix c.node_in.result.now _ _ (ready (goal.at.move_at-requires-clause-apart c).After-node_in)

pub invariant_of-self : goal.invariant_of-self
invariant_of-self c =
    cases c.move_at.result c.move_at.ensures.ok c.move_at.ensures.err
    (λ (move : IsMove c.node_in.result.now (c.parts_below.result.0.now ∷ c.parts_below.result.1.now) (c.parts_below-2.result.0.now ∷ c.parts_below-2.result.1.now) c.settled-entry.result c.move_at.new.self).
    tree_moved c.self.inside.suffix c.node_in.result.now (c.parts_below.result.0.now ∷ c.parts_below.result.1.now) (c.parts_below-2.result.0.now ∷ c.parts_below-2.result.1.now) (ready (goal.at.invariant_of-self c).After-node_in) c.settled-entry.result c.move_at.new.self move)
    (λ (same : c.move_at.new.self ≡ c.node_in.result.now). subst (IsTree c.self.inside.suffix) (c.node_in.ensures.is ∙ ap (λ m. Some m) (sym same)) c.self.invariant)

pub returns-clause-old : goal.returns-clause-old
returns-clause-old c =
    let s : DnKeys = c.self.inside.suffix in
    let path : DnKeys = c.parts_below.result.0.now ∷ c.parts_below.result.1.now in
    if_ok {P = λ e. entry_on c.node_in.result.now path ≡ Some e} {Q = λ e. entry_at c.args.self.now c.args.old.now ≡ Some e} c.move_at.result
    (λ e was.
    ap (λ d. entry_at d c.args.old.now) (sym c.self.view_is)
    ∙ on_path s c.self.inside.root c.node_in.result.now c.node_in.ensures.is c.args.old.now path (sym (ap (rest_below s) c.parts_below.ensures ∙ rest_of s path))
    ∙ was)
    c.move_at.ensures.old

pub returns-clause-ok : goal.returns-clause-ok
returns-clause-ok c =
    let s : DnKeys = c.self.inside.suffix in
    on_ok c.move_at.result
    (λ (move : IsMove c.node_in.result.now (c.parts_below.result.0.now ∷ c.parts_below.result.1.now) (c.parts_below-2.result.0.now ∷ c.parts_below-2.result.1.now) c.settled-entry.result c.move_at.new.self).
    move_made s c.node_in.result.now (c.parts_below.result.0.now ∷ c.parts_below.result.1.now) (c.parts_below-2.result.0.now ∷ c.parts_below-2.result.1.now) (ready (goal.at.returns-clause-ok c).After-node_in) c.settled-entry.result c.move_at.new.self move
    ∙ (λ i. move_subtree (tree_dir s (sym c.node_in.ensures.is i)) (sym c.parts_below.ensures i) (sym c.parts_below-2.ensures i) c.settled-entry.result)
    ∙ ap (λ d. move_subtree d c.args.old.now c.args.new.now c.settled-entry.result) c.self.view_is
    ∙ ap (move_subtree c.args.self.now c.args.old.now c.args.new.now) c.settled-entry.ensures)
    c.move_at.ensures.ok
