use Rattle.std.proofs.Common.{◌≡◌, true, is_some, Ok, refl, sym, ap, ◌∙◌, true≢false}
use Rattle.dir_tree.specs.Dir.{entry_at}
use Rattle.dir_change.proofs.Conditions.{child_true, child_false, delete_inner, delete_leaf}
use Rattle.dir_change.proofs.delete.delete.Goals as goal

pub returns-then-has_child-clause-refused : goal.returns-then-has_child-clause-refused
returns-then-has_child-clause-refused g c =
    let there : is_some (entry_at (g.D.Directory.state c.args.directory.now) c.args.key.now) ≡ true = ap is_some (sym c.in-Some.ensures) in
    delete_inner (g.D.Directory.state c.args.directory.now) c.args.key.now there (child_true (g.D.Directory.state c.args.directory.now) c.args.key.now (c.if-has_child.ensures.0 refl))

pub returns-clause-ok : goal.returns-clause-ok
returns-clause-ok g c =
    let there : is_some (entry_at (g.D.Directory.state c.args.directory.now) c.args.key.now) ≡ true = ap is_some (sym c.in-Some.ensures) in
    delete_leaf (g.D.Directory.state c.args.directory.now) c.args.key.now there (child_false (g.D.Directory.state c.args.directory.now) c.args.key.now (λ child. true≢false (sym (c.if-has_child.ensures.1 child)))) ∙ ap Ok (sym c.remove_leaf.ensures.new)
