use Rattle.std.proofs.Common.{◌≡◌, true, [], ◌∷◌, Some, is_some, sym, ap, subst, ◌∙◌}
use Rattle.std.proofs.lemmas.List.{append-nil}
use Rattle.std.specs.Option.{option_map}
use Rattle.dir_tree.specs.Dir.{HasChild, entry_at, remove_entry}
use Rattle.dir_tree.specs.Moves.{rest_below}
use Rattle.dir_tree.specs.Inside.TreePlaces.{Places, entry_in, entry_on}
use Rattle.dir_tree.specs.Inside.Trees.{tree_dir}
use Rattle.dir_tree.proofs.TreeNodes.{no_length}
use Rattle.dir_tree.proofs.TreeWrites.{Spot, mapped_some, on_path, path_there, root_there, spot_cut, spot_entry, spot_there, suffix_cut, suffix_key, tree_cut, tree_emptied}
use Rattle.dir_tree.proofs.tree.TreeDirectoryDirectory.remove_leaf.Goals as goal
use Rattle.dir_tree.proofs.tree.TreeDirectoryDirectory.remove_leaf.Goals.{After-node_in, After-path_below, After-split_first}

there : (c : After-path_below) → is_some (entry_at (tree_dir c.self.inside.suffix c.self.inside.root) c.args.key.now) ≡ true
there c = ap (λ d. is_some (entry_at d c.args.key.now)) c.self.view_is ∙ c.requires.there

leaf : (c : After-path_below) → HasChild (tree_dir c.self.inside.suffix c.self.inside.root) c.args.key.now → ⊥
leaf c child = c.requires.leaf (subst (λ d. HasChild d c.args.key.now) c.self.view_is child)

path_is : (c : After-split_first) → Some c.unwrap-path.result.now ≡ rest_below c.self.inside.suffix c.args.key.now
path_is c = ap (option_map (λ path. path.now)) (sym c.unwrap-path.ensures) ∙ c.path_below.ensures.value

spot : (c : After-node_in) → Some c.unwrap-path.result.now ≡ rest_below c.self.inside.suffix c.args.key.now → Spot c.self.inside.suffix c.self.inside.root c.args.key.now c.node_in.result.now (c.in-Some.first.now ∷ c.in-Some.rest.now)
spot c is = record { root_is = c.node_in.ensures.is; path_is = ap (λ path. Some path) (sym c.in-Some.ensures.cases.0) ∙ is }

pub unwrap-path-requires : goal.unwrap-path-requires
unwrap-path-requires c = mapped_some c.path_below.result ∙ ap is_some c.path_below.ensures.value ∙ path_there c.self.inside.suffix c.self.inside.root c.args.key.now (there (goal.at.unwrap-path-requires c).After-path_below)

pub unwrap-requires : goal.unwrap-requires
unwrap-requires c = ap is_some c.take.ensures.value ∙ root_there c.self.inside.suffix c.self.inside.root c.args.key.now (there (goal.at.unwrap-requires c).After-path_below)

pub invariant_of-self : goal.invariant_of-self
invariant_of-self c =
    tree_emptied c.self.inside.suffix c.self.inside.root c.args.key.now (suffix_key c.self.inside.suffix c.args.key.now c.unwrap-path.result.now (path_is (goal.at.invariant_of-self c).After-split_first) c.in-None.ensures.cases) c.self.invariant c.take.new.self c.take.ensures.after (leaf (goal.at.invariant_of-self c).After-path_below)

pub node_in-requires : goal.node_in-requires
node_in-requires c = root_there c.self.inside.suffix c.self.inside.root c.args.key.now (there (goal.at.node_in-requires c).After-path_below)

pub cut_at-requires : goal.cut_at-requires
cut_at-requires c =
    spot_there c.self.inside.suffix c.self.inside.root c.args.key.now c.node_in.result.now (c.in-Some.first.now ∷ c.in-Some.rest.now) (spot (goal.at.cut_at-requires c).After-node_in (path_is (goal.at.cut_at-requires c).After-split_first)) (there (goal.at.cut_at-requires c).After-path_below)

pub invariant_of-self-in-Some : goal.invariant_of-self-in-Some
invariant_of-self-in-Some c =
    tree_cut c.self.inside.suffix c.self.inside.root c.args.key.now c.node_in.result.now (c.in-Some.first.now ∷ c.in-Some.rest.now) (spot (goal.at.invariant_of-self-in-Some c).After-node_in (path_is (goal.at.invariant_of-self-in-Some c).After-split_first)) c.self.invariant c.cut_at.new.self (leaf (goal.at.invariant_of-self-in-Some c).After-path_below) c.cut_at.ensures.rest

pub returns-in-None-clause-old : goal.returns-in-None-clause-old
returns-in-None-clause-old c =
    let empty : [] ≡ c.unwrap-path.result.now = sym (no_length c.unwrap-path.result.now c.in-None.ensures.cases) in
    ap (λ d. entry_at d c.args.key.now) (sym c.self.view_is)
    ∙ on_path c.self.inside.suffix c.self.inside.root c.unwrap.result (sym c.take.ensures.value ∙ c.unwrap.ensures) c.args.key.now [] (ap (λ path. Some path) empty ∙ path_is (goal.at.returns-in-None-clause-old c).After-split_first)
    ∙ ap entry_in c.into_entry.ensures

pub returns-in-None-clause-new : goal.returns-in-None-clause-new
returns-in-None-clause-new c =
    suffix_cut c.self.inside.suffix c.self.inside.root c.args.key.now (suffix_key c.self.inside.suffix c.args.key.now c.unwrap-path.result.now (path_is (goal.at.returns-in-None-clause-new c).After-split_first) c.in-None.ensures.cases) c.self.invariant c.take.new.self c.take.ensures.after (leaf (goal.at.returns-in-None-clause-new c).After-path_below)
    ∙ ap (λ d. remove_entry d c.args.key.now) c.self.view_is

pub returns-in-Some-clause-old : goal.returns-in-Some-clause-old
returns-in-Some-clause-old c =
    let m : Places = c.node_in.result.now in
    ap (λ d. entry_at d c.args.key.now) (sym c.self.view_is)
    ∙ spot_entry c.self.inside.suffix c.self.inside.root c.args.key.now m (c.in-Some.first.now ∷ c.in-Some.rest.now) (spot (goal.at.returns-in-Some-clause-old c).After-node_in (path_is (goal.at.returns-in-Some-clause-old c).After-split_first))
    ∙ ap (λ rest. entry_on m (c.in-Some.first.now ∷ rest)) (sym (append-nil c.in-Some.rest.now))
    ∙ ap entry_in (sym (c.cut_at.ensures.node []))
    ∙ ap entry_in c.into_entry-in-Some.ensures

pub returns-in-Some-clause-new : goal.returns-in-Some-clause-new
returns-in-Some-clause-new c =
    spot_cut c.self.inside.suffix c.self.inside.root c.args.key.now c.node_in.result.now (c.in-Some.first.now ∷ c.in-Some.rest.now) (spot (goal.at.returns-in-Some-clause-new c).After-node_in (path_is (goal.at.returns-in-Some-clause-new c).After-split_first)) c.self.invariant c.cut_at.new.self (leaf (goal.at.returns-in-Some-clause-new c).After-path_below) c.cut_at.ensures.rest
    ∙ ap (λ d. remove_entry d c.args.key.now) c.self.view_is
