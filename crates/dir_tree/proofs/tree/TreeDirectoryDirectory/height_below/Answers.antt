use Rattle.std.proofs.Common.{◌≡◌, ◌≤◌, ◌++◌, IfSome, length, is_some, sym, ap, subst, ◌∙◌, arith, length-append}
use Rattle.dir_names.specs.Keys.{DnKeys}
use Rattle.dir_tree.specs.Dir.{entry_at}
use Rattle.dir_tree.specs.Moves.{height_below}
use Rattle.dir_tree.specs.Inside.TreePlaces.{entry_on}
use Rattle.dir_tree.proofs.MoveLemmas.{height_bound, height_reaches}
use Rattle.dir_tree.proofs.tree.TreeDirectoryDirectory.height_below.Goals as goal
use Rattle.dir_tree.proofs.tree.TreeDirectoryDirectory.height_below.Goals.{After-unwrap}

here : (c : After-unwrap) (path : DnKeys) → entry_on c.unwrap.result.now path ≡ entry_at c.args.self.now (c.args.key.now ++ path)
here c = subst (λ r. IfSome r (λ node. (path : DnKeys) → entry_on node.now path ≡ entry_at c.args.self.now (c.args.key.now ++ path))) c.unwrap.ensures c.node.ensures.some

pub height-requires : goal.height-requires
height-requires c path there =
    let low : length (c.args.key.now ++ path) ≤ 64 = c.node.ensures.shallow (c.args.key.now ++ path) (ap is_some (sym (here (goal.at.height-requires c).After-unwrap path)) ∙ there) in
    let count = length-append c.args.key.now path in
    omega (arith, low, count)

pub returns : goal.returns
returns c =
    let at = here (goal.at.returns c).After-unwrap in
    let low : c.height.result ≤ height_below c.args.self.now c.args.key.now = c.height.ensures.least (height_below c.args.self.now c.args.key.now) (λ path there. height_reaches c.args.self.now c.args.key.now path (ap is_some (sym (at path)) ∙ there)) in
    let high : height_below c.args.self.now c.args.key.now ≤ c.height.result = height_bound c.args.self.now c.args.key.now c.height.result (λ path there. c.height.ensures.reaches path (ap is_some (at path) ∙ there)) in
    omega (arith, low, high)
