use Rattle.std.proofs.Common.{◌≡◌, ◌++◌, IfNone, IfSome, None, Option, Some, append_assoc, refl, sym, ap, ◌∙◌}
use Rattle.dir_names.specs.Keys.{DnKeys}
use Rattle.dir_tree.specs.Dir.{entry_at}
use Rattle.dir_tree.specs.Moves.{rest_below}
use Rattle.dir_tree.specs.Inside.TreePlaces.{IsAt, entry_in, entry_on}
use Rattle.dir_tree.specs.Inside.Trees.{tree_dir}
use Rattle.dir_tree.proofs.RestBelow.{rest_is}
use Rattle.dir_tree.proofs.TreeDirs.{entry_of, get_path, get_tree}
use Rattle.dir_tree.proofs.TreeWrites.{on_path}
use Rattle.dir_tree.proofs.tree.TreeDirectory.node.Goals as goal

none_rooted : (o : Option DnKeys) → entry_of None o ≡ None
none_rooted None = refl
none_rooted (Some path) = refl

some_node : {A : Type 0} {P Q : A → Type 0} (r : Option A) → ((a : A) → P a → Q a) → IfSome r P → IfSome r Q
some_node None f h = h
some_node (Some a) f h = f a h

none_node : {A P Q : Type 0} (r : Option A) → (P → Q) → IfNone r P → IfNone r Q
none_node None f h = f h
none_node (Some a) f h = h

pub returns-in_default-clause-none : goal.returns-in_default-clause-none
returns-in_default-clause-none c =
    let s : DnKeys = c.self.inside.suffix in
    ap (λ d. entry_at d c.args.key.now) (sym c.self.view_is) ∙ get_tree s c.self.inside.root c.args.key.now ∙ ap (λ root. entry_of root (rest_below s c.args.key.now)) c.in_default.is ∙ none_rooted (rest_below s c.args.key.now)

pub returns-in-Some-path_below-clause-some : goal.returns-in-Some-path_below-clause-some
returns-in-Some-path_below-clause-some c =
    let s : DnKeys = c.self.inside.suffix in
    let key_is : c.args.key.now ≡ s ++ c.in-Some-path_below.path.now = rest_is s c.args.key.now c.in-Some-path_below.path.now (sym c.in-Some-path_below.ensures.value) in
    some_node {P = λ node. IsAt c.in-Some.root c.in-Some-path_below.path.now node.now} {Q = λ node. (path : DnKeys) → entry_on node.now path ≡ entry_at c.args.self.now (c.args.key.now ++ path)} c.at.result
    (λ node is path.
    ap entry_in (is path) ∙ sym (get_path s c.in-Some.root (c.in-Some-path_below.path.now ++ path))
    ∙ ap (entry_at (tree_dir s (Some c.in-Some.root))) (sym (append_assoc s c.in-Some-path_below.path.now path) ∙ ap (λ k. k ++ path) (sym key_is))
    ∙ ap (λ root. entry_at (tree_dir s root) (c.args.key.now ++ path)) (sym c.in-Some.is)
    ∙ ap (λ d. entry_at d (c.args.key.now ++ path)) c.self.view_is)
    c.at.ensures.some

pub returns-in-Some-path_below-clause-none : goal.returns-in-Some-path_below-clause-none
returns-in-Some-path_below-clause-none c =
    none_node c.at.result
    (λ none. ap (λ d. entry_at d c.args.key.now) (sym c.self.view_is) ∙ on_path c.self.inside.suffix c.self.inside.root c.in-Some.root c.in-Some.is c.args.key.now c.in-Some-path_below.path.now c.in-Some-path_below.ensures.value ∙ none)
    c.at.ensures.none

pub returns-in-None-clause-none : goal.returns-in-None-clause-none
returns-in-None-clause-none c =
    ap (λ d. entry_at d c.args.key.now) (sym c.self.view_is) ∙ get_tree c.self.inside.suffix c.self.inside.root c.args.key.now ∙ ap (entry_of c.self.inside.root) (sym c.in-None.ensures.value)
