use Rattle.std.proofs.Common.{◌≡◌, true, [], ◌∷◌, ◌++◌, IfErr, None, OnOk, Some, length, take, is_some, sym, ap, subst, ◌∙◌}
use Rattle.std.specs.FinMap as fin
use Rattle.std.specs.Option.{option_map}
use Rattle.dir_names.specs.Keys.{DnKeys}
use Rattle.dir_tree.specs.Dir.{entry_at, has_parent, put_entry}
use Rattle.dir_tree.specs.Moves.{rest_below}
use Rattle.dir_tree.specs.Inside.Trees.{IsTree, tree_dir}
use Rattle.dir_tree.proofs.RestBelow.{rest_is, rest_of}
use Rattle.dir_tree.proofs.TreeWrites.{Spot, inner, leaf_entry, mapped_some, on_path, parent_below, parent_there, root_there, spot_grown, suffix_key, suffix_put, tree_begun, tree_grown}
use Rattle.dir_tree.proofs.tree.TreeDirectoryDirectory.insert.Goals as goal
use Rattle.dir_tree.proofs.tree.TreeDirectoryDirectory.insert.Goals.{After-node_in, After-path_below, After-split_first, In-Some, in-Ok, in-Err}

parent : (c : After-path_below) → has_parent (tree_dir c.self.inside.suffix c.self.inside.root) c.args.key.now ≡ true
parent c = subst (λ d. has_parent d c.args.key.now ≡ true) (sym c.self.view_is) c.requires.parent

free : (c : After-path_below) → entry_at (tree_dir c.self.inside.suffix c.self.inside.root) c.args.key.now ≡ None
free c = ap (λ d. entry_at d c.args.key.now) c.self.view_is ∙ c.requires.free

path_is : (c : After-split_first) → Some c.unwrap-path.result.now ≡ rest_below c.self.inside.suffix c.args.key.now
path_is c = ap (option_map (λ path. path.now)) (sym c.unwrap-path.ensures) ∙ c.path_below.ensures.value

-- the parent's entry
above : (c : In-Some) → Some c.unwrap-path.result.now ≡ rest_below c.self.inside.suffix c.args.key.now → has_parent (tree_dir c.self.inside.suffix c.self.inside.root) c.args.key.now ≡ true →
    is_some (entry_at (tree_dir c.self.inside.suffix c.self.inside.root) (c.self.inside.suffix ++ take (length c.in-Some.rest.now) (c.in-Some.first.now ∷ c.in-Some.rest.now))) ≡ true
above c is up =
    parent_there c.self.inside.suffix c.self.inside.root c.in-Some.first.now c.in-Some.rest.now c.self.invariant.closed
    (subst (λ k. has_parent (tree_dir c.self.inside.suffix c.self.inside.root) k ≡ true) (rest_is c.self.inside.suffix c.args.key.now c.unwrap-path.result.now (sym is) ∙ ap (λ path. c.self.inside.suffix ++ path) c.in-Some.ensures.cases.0) up)

spot : (c : After-node_in) → Some c.unwrap-path.result.now ≡ rest_below c.self.inside.suffix c.args.key.now → Spot c.self.inside.suffix c.self.inside.root c.args.key.now c.node_in.result.now (c.in-Some.first.now ∷ c.in-Some.rest.now)
spot c is = record { root_is = c.node_in.ensures.is; path_is = ap (λ path. Some path) (sym c.in-Some.ensures.cases.0) ∙ is }

pub unwrap-path-requires : goal.unwrap-path-requires
unwrap-path-requires c = mapped_some c.path_below.result ∙ ap is_some c.path_below.ensures.value ∙ parent_below c.self.inside.suffix c.self.inside.root c.args.key.now c.self.invariant.closed (parent (goal.at.unwrap-path-requires c).After-path_below)

pub invariant_of-self : goal.invariant_of-self
invariant_of-self c =
    tree_begun c.self.inside.suffix c.self.inside.root c.args.key.now (suffix_key c.self.inside.suffix c.args.key.now c.unwrap-path.result.now (path_is (goal.at.invariant_of-self c).After-split_first) c.in-None.ensures.cases) c.self.invariant c.leaf-leaf.result c.args.entry (c.leaf-leaf.ensures ∙ ap (λ e. fin.insert fin.empty [] (Some e)) c.settled-entry.ensures) (free (goal.at.invariant_of-self c).After-path_below) (parent (goal.at.invariant_of-self c).After-path_below) c.path_below.ensures.within_limit

pub returns-in-None-clause-ok : goal.returns-in-None-clause-ok
returns-in-None-clause-ok c =
    suffix_put c.self.inside.suffix c.self.inside.root c.args.key.now (suffix_key c.self.inside.suffix c.args.key.now c.unwrap-path.result.now (path_is (goal.at.returns-in-None-clause-ok c).After-split_first) c.in-None.ensures.cases) c.self.invariant c.leaf-leaf.result c.args.entry (c.leaf-leaf.ensures ∙ ap (λ e. fin.insert fin.empty [] (Some e)) c.settled-entry.ensures) (free (goal.at.returns-in-None-clause-ok c).After-path_below)
    ∙ ap (λ d. put_entry d c.args.key.now c.args.entry) c.self.view_is

pub node_in-requires : goal.node_in-requires
node_in-requires c = root_there c.self.inside.suffix c.self.inside.root _ (above (goal.at.node_in-requires c).In-Some (path_is (goal.at.node_in-requires c).After-split_first) (parent (goal.at.node_in-requires c).After-path_below))

pub grow_at-requires : goal.grow_at-requires
grow_at-requires c =
    let s : DnKeys = c.self.inside.suffix in
    let path : DnKeys = take (length c.in-Some.rest.now) (c.in-Some.first.now ∷ c.in-Some.rest.now) in
    ap is_some (sym (on_path s c.self.inside.root c.node_in.result.now c.node_in.ensures.is (s ++ path) path (sym (rest_of s path))))
    ∙ above (goal.at.grow_at-requires c).In-Some (path_is (goal.at.grow_at-requires c).After-split_first) (parent (goal.at.grow_at-requires c).After-path_below)

pub invariant_of-self-in-Some : goal.invariant_of-self-in-Some
invariant_of-self-in-Some c = elim c.match-grow_at.branch [
  | in-Ok w ↦
      tree_grown c.self.inside.suffix c.self.inside.root c.args.key.now c.node_in.result.now (c.in-Some.first.now ∷ c.in-Some.rest.now) (spot (goal.at.invariant_of-self-in-Some c).After-node_in (path_is (goal.at.invariant_of-self-in-Some c).After-split_first)) c.self.invariant c.grow_at.new.self c.leaf-leaf.result c.args.entry (c.leaf-leaf.ensures ∙ ap (λ e. fin.insert fin.empty [] (Some e)) c.settled-entry.ensures) w.in-Ok.ensures.ok
      (free (goal.at.invariant_of-self-in-Some c).After-path_below) (parent (goal.at.invariant_of-self-in-Some c).After-path_below) c.path_below.ensures.within_limit
  | in-Err w ↦ subst (IsTree c.self.inside.suffix) (c.node_in.ensures.is ∙ ap (λ m. Some m) (sym w.in-Err.ensures.err)) c.self.invariant
]

pub returns-after-grow_at-clause-ok : goal.returns-after-grow_at-clause-ok
returns-after-grow_at-clause-ok c = elim c.match-grow_at.branch [
  | in-Ok w ↦
      subst (λ r. OnOk r (tree_dir c.self.inside.suffix (Some c.grow_at.new.self) ≡ put_entry c.args.self.now c.args.key.now c.args.entry)) (sym w.result-is)
      (spot_grown c.self.inside.suffix c.self.inside.root c.args.key.now c.node_in.result.now (c.in-Some.first.now ∷ c.in-Some.rest.now) (spot (goal.at.returns-after-grow_at-clause-ok c).After-node_in (path_is (goal.at.returns-after-grow_at-clause-ok c).After-split_first)) c.self.invariant c.grow_at.new.self c.leaf-leaf.result c.args.entry (c.leaf-leaf.ensures ∙ ap (λ e. fin.insert fin.empty [] (Some e)) c.settled-entry.ensures) w.in-Ok.ensures.ok
      (free (goal.at.returns-after-grow_at-clause-ok c).After-path_below)
      ∙ ap (λ d. put_entry d c.args.key.now c.args.entry) c.self.view_is)
  | in-Err w ↦ subst (λ r. OnOk r (tree_dir c.self.inside.suffix (Some c.grow_at.new.self) ≡ put_entry c.args.self.now c.args.key.now c.args.entry)) (sym w.result-is) tt
]

pub returns-after-grow_at-clause-value_returned : goal.returns-after-grow_at-clause-value_returned
returns-after-grow_at-clause-value_returned c = elim c.match-grow_at.branch [
  | in-Ok w ↦ subst (λ r. IfErr r (λ e. e ≡ c.args.entry)) (sym w.result-is) tt
  | in-Err w ↦
      let same : w.unwrap.result ≡ c.leaf-leaf.result = inner (sym w.unwrap.ensures ∙ w.in-Err.ensures.value_returned) in
      subst (λ r. IfErr r (λ e. e ≡ c.args.entry)) (sym w.result-is) (leaf_entry w.unwrap.result c.args.entry w.into_entry.result (same ∙ (c.leaf-leaf.ensures ∙ ap (λ e. fin.insert fin.empty [] (Some e)) c.settled-entry.ensures)) w.into_entry.ensures)
]
