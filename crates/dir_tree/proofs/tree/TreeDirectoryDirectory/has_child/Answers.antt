use Rattle.std.proofs.Common.{◌≡◌, is_some, refl, sym, ap, ◌∙◌, true≢false}
use Rattle.dir_tree.specs.Dir.{entry_at}
use Rattle.dir_tree.proofs.TreeWrites.{child_of_none, mapped_some}
use Rattle.dir_tree.proofs.tree.TreeDirectoryDirectory.has_child.Goals as goal

pub returns-then-is_parent_of : goal.returns-then-is_parent_of
returns-then-is_parent_of c =
    let suffix : c.self.inside.suffix ≡ c.args.self.now.suffix = ap (λ d. d.suffix) c.self.view_is in
    let parent = c.if-is_parent_of.ensures.0 refl in
    let there : c.is_some.result ≡ is_some (entry_at c.args.self.now c.self.inside.suffix) = c.is_some.ensures ∙ mapped_some c.get.result ∙ ap is_some c.get.ensures in (
      λ is. (parent.0, ap (λ k. is_some (entry_at c.args.self.now k)) (sym parent.1) ∙ sym there ∙ is),
      λ child.
          let at = child_of_none c.args.self.now c.node.ensures.closed c.args.key.now c.in-None.ensures.none child in
          there ∙ ap (λ k. is_some (entry_at c.args.self.now k)) suffix ∙ at.2,
    )

pub returns-else-is_parent_of : goal.returns-else-is_parent_of
returns-else-is_parent_of c =
    let suffix : c.self.inside.suffix ≡ c.args.self.now.suffix = ap (λ d. d.suffix) c.self.view_is in (
      λ is. absurd (true≢false (sym is ∙ c.if-is_parent_of.false)),
      λ child.
          let at = child_of_none c.args.self.now c.node.ensures.closed c.args.key.now c.in-None.ensures.none child in
          c.is_parent_of.ensures.1 (at.0, suffix ∙ at.1),
    )
