use Rattle.std.proofs.Common.{◌≡◌, Some, true, is_some, sym, ap, ◌∙◌}
use Rattle.std.specs.FinMap as fin
use Rattle.std.specs.Option.{option_map}
use Rattle.dir_tree.specs.Dir.{entry_at, put_entry}
use Rattle.dir_tree.specs.Inside.Trees.{tree_dir}
use Rattle.dir_tree.proofs.TreeWrites.{Spot, mapped_some, path_there, root_there, spot_entry, spot_replaced, spot_there, tree_replaced}
use Rattle.dir_tree.proofs.tree.TreeDirectoryDirectory.replace.Goals as goal
use Rattle.dir_tree.proofs.tree.TreeDirectoryDirectory.replace.Goals.{After-path_below, After-node_in}

there : (c : After-path_below) → is_some (entry_at (tree_dir c.self.inside.suffix c.self.inside.root) c.args.key.now) ≡ true
there c = ap (λ d. is_some (entry_at d c.args.key.now)) c.self.view_is ∙ c.requires

spot : (c : After-node_in) → Spot c.self.inside.suffix c.self.inside.root c.args.key.now c.node_in.result.now c.unwrap-path.result.now
spot c = record { root_is = c.node_in.ensures.is; path_is = ap (option_map (λ path. path.now)) (sym c.unwrap-path.ensures) ∙ c.path_below.ensures.value }

pub unwrap-path-requires : goal.unwrap-path-requires
unwrap-path-requires c = mapped_some c.path_below.result ∙ ap is_some c.path_below.ensures.value ∙ path_there c.self.inside.suffix c.self.inside.root c.args.key.now (there (goal.at.unwrap-path-requires c).After-path_below)

pub node_in-requires : goal.node_in-requires
node_in-requires c = root_there c.self.inside.suffix c.self.inside.root c.args.key.now (there (goal.at.node_in-requires c).After-path_below)

pub replace_at-requires : goal.replace_at-requires
replace_at-requires c = spot_there c.self.inside.suffix c.self.inside.root c.args.key.now c.node_in.result.now c.unwrap-path.result.now (spot (goal.at.replace_at-requires c).After-node_in) (there (goal.at.replace_at-requires c).After-path_below)

pub invariant_of-self : goal.invariant_of-self
invariant_of-self c =
    tree_replaced c.self.inside.suffix c.self.inside.root c.args.key.now c.node_in.result.now c.unwrap-path.result.now (spot (goal.at.invariant_of-self c).After-node_in) c.self.invariant c.replace_at.new.self c.args.entry (c.replace_at.ensures.new ∙ ap (λ e. fin.insert c.node_in.result.now c.unwrap-path.result.now (Some e)) c.settled-entry.ensures) (there (goal.at.invariant_of-self c).After-path_below)

pub returns-clause-old : goal.returns-clause-old
returns-clause-old c =
    ap (λ d. entry_at d c.args.key.now) (sym c.self.view_is) ∙ spot_entry c.self.inside.suffix c.self.inside.root c.args.key.now c.node_in.result.now c.unwrap-path.result.now (spot (goal.at.returns-clause-old c).After-node_in) ∙ c.replace_at.ensures.old

pub returns-clause-new : goal.returns-clause-new
returns-clause-new c =
    spot_replaced c.self.inside.suffix c.self.inside.root c.args.key.now c.node_in.result.now c.unwrap-path.result.now (spot (goal.at.returns-clause-new c).After-node_in) c.self.invariant c.replace_at.new.self c.args.entry (c.replace_at.ensures.new ∙ ap (λ e. fin.insert c.node_in.result.now c.unwrap-path.result.now (Some e)) c.settled-entry.ensures)
    ∙ ap (λ d. put_entry d c.args.key.now c.args.entry) c.self.view_is
