use Rattle.std.proofs.Common.{◌≡◌, true, ◌++◌, length, is_some, sym, ap, ◌∙◌, arith}
use Rattle.std.specs.Option.{option_copied, option_map}
use Rattle.dir_tree.specs.Dir.{entry_at}
use Rattle.dir_tree.specs.Inside.Trees.{tree_dir}
use Rattle.dir_tree.specs.SpelledNames.{spelled_name}
use Rattle.dir_tree.specs.Inside.TreeNames.{name_in}
use Rattle.dir_tree.proofs.SpelledLemmas.{spelled_short}
use Rattle.dir_tree.proofs.TreeWrites.{Spot, mapped_some, path_there, root_there, spot_spelled, spot_there}
use Rattle.dir_tree.proofs.tree.TreeDirectoryDirectory.spelled.Goals as goal
use Rattle.dir_tree.proofs.tree.TreeDirectoryDirectory.spelled.Goals.{After-path_below, After-unwrap-root, In_ok-push_name}

there : (c : After-path_below) → is_some (entry_at (tree_dir c.self.inside.suffix c.self.inside.root) c.args.key.now) ≡ true
there c = ap (λ d. is_some (entry_at d c.args.key.now)) c.self.view_is ∙ c.requires

spot : (c : After-unwrap-root) → Spot c.self.inside.suffix c.self.inside.root c.args.key.now c.unwrap-root.result.now c.unwrap-path.result.now
spot c = record { root_is = sym c.as_ref.ensures.value ∙ ap option_copied c.unwrap-root.ensures; path_is = ap (option_map (λ path. path.now)) (sym c.unwrap-path.ensures) ∙ c.path_below.ensures.value }

pub unwrap-path-requires : goal.unwrap-path-requires
unwrap-path-requires c = mapped_some c.path_below.result ∙ ap is_some c.path_below.ensures.value ∙ path_there c.self.inside.suffix c.self.inside.root c.args.key.now (there (goal.at.unwrap-path-requires c).After-path_below)

pub unwrap-root-requires : goal.unwrap-root-requires
unwrap-root-requires c = c.as_ref.ensures.variant ∙ root_there c.self.inside.suffix c.self.inside.root c.args.key.now (there (goal.at.unwrap-root-requires c).After-path_below)

pub push_name-requires : goal.push_name-requires
push_name-requires c = spot_there c.self.inside.suffix c.self.inside.root c.args.key.now c.unwrap-root.result.now c.unwrap-path.result.now (spot (goal.at.push_name-requires c).After-unwrap-root) (there (goal.at.push_name-requires c).After-path_below)

name : (c : In_ok-push_name) → Spot c.self.inside.suffix c.self.inside.root c.args.key.now c.unwrap-root.result.now c.unwrap-path.result.now → c.push_name.new.rdns.items ≡ spelled_name (tree_dir c.self.inside.suffix c.self.inside.root) c.args.key.now
name c at =
    c.in_ok-push_name.ensures
    ∙ (λ i. c.in_ok-rdns.ensures.items i ++ name_in c.unwrap-root.result.now (c.depth-2.ensures.value i) c.unwrap-path.result.now)
    ∙ spot_spelled c.self.inside.suffix c.self.inside.root c.args.key.now c.unwrap-root.result.now c.unwrap-path.result.now at c.self.invariant.closed

pub of_rdns-requires : goal.of_rdns-requires
of_rdns-requires c =
    let same = ap length (name (goal.at.of_rdns-requires c).In_ok-push_name (spot (goal.at.of_rdns-requires c).After-unwrap-root)) in
    let short = spelled_short (tree_dir c.self.inside.suffix c.self.inside.root) c.self.invariant.closed c.args.key.now in
    let low = c.depth.ensures.within_limit in
    omega (arith, same, short, low)

pub returns : goal.returns
returns c = c.of_rdns.ensures ∙ name (goal.at.returns c).In_ok-push_name (spot (goal.at.returns c).After-unwrap-root) ∙ ap (λ d. spelled_name d c.args.key.now) c.self.view_is
