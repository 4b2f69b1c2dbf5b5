use Rattle.std.proofs.Common.{◌≤◌, [], ◌++◌, length, map, is_some, sym, ap, subst, ◌∙◌, arith, length-append}
use Rattle.dir_names.specs.Keys.{DnKeys}
use Rattle.dir_tree.specs.Dir.{IsClosed, entry_at}
use Rattle.dir_tree.specs.SpelledNames.{named_entries}
use Rattle.dir_tree.specs.Inside.TreeNames.{named_places}
use Rattle.dir_tree.specs.Inside.Trees.{tree_dir}
use Rattle.dir_tree.proofs.TreeDirs.{all_named, get_path, none_named}
use Rattle.dir_tree.proofs.tree.TreeDirectoryDirectory.walk.Goals as goal
use Rattle.dir_tree.proofs.tree.TreeDirectoryDirectory.walk.Goals.{in-Some+in_ok-walk, in_default}

pub walk-requires : goal.walk-requires
walk-requires c path there =
    let s : DnKeys = c.self.inside.suffix in
    let low : length (s ++ path) ≤ 64 = c.self.invariant.shallow (s ++ path) (ap (λ root. is_some (entry_at (tree_dir s root) (s ++ path))) c.in-Some.is ∙ ap is_some (get_path s c.in-Some.root path) ∙ there) in
    let count = length-append s path in
    let depth = c.depth.ensures.value in
    omega (arith, low, count, depth)

pub returns : goal.returns
returns c =
    let s : DnKeys = c.self.inside.suffix in
    elim c.match-self.branch [
      | in-Some+in_ok-walk w ↦
          ap (λ walk. map (λ item. (item.0, item.1.now)) walk.items) w.walk-is
          ∙ w.in_ok-walk.ensures
          ∙ (λ i. map (λ item. (item.0, item.1.now)) (c.new-walk.ensures.items i) ++ named_places w.in-Some.root (w.depth.ensures.value i) [])
          ∙ all_named s w.in-Some.root (subst (λ root. IsClosed (tree_dir s root)) w.in-Some.is c.self.invariant.closed)
          ∙ ap (λ root. named_entries (tree_dir s root)) (sym w.in-Some.is)
          ∙ ap named_entries c.self.view_is
      | in_default w ↦
          ap (λ walk. map (λ item. (item.0, item.1.now)) walk.items) w.walk-is
          ∙ ap (map (λ item. (item.0, item.1.now))) c.new-walk.ensures.items
          ∙ sym (none_named s)
          ∙ ap (λ root. named_entries (tree_dir s root)) (sym w.in_default.is)
          ∙ ap named_entries c.self.view_is
    ]
