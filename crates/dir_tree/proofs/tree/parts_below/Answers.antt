use Rattle.std.proofs.Common.{◌≡◌, ◌++◌, ◌∷◌, MatchOption, Some, is_some, length, sym, ap, subst, ◌∙◌, arith}
use Rattle.std.specs.List.{IsFirstAndRest}
use Rattle.std.specs.Option.{option_map}
use Rattle.dir_tree.specs.Moves.{rest_below}
use Rattle.dir_tree.proofs.RestBelow.{rest_is, rest_of}
use Rattle.dir_tree.proofs.TreeWrites.{inner, mapped_some}
use Rattle.dir_tree.proofs.tree.parts_below.Goals as goal
use Rattle.dir_tree.proofs.tree.parts_below.Goals.{After-path_below, After-unwrap}

rest : (c : After-path_below) → rest_below c.args.suffix.now c.args.key.now ≡ Some (c.requires.0 ∷ c.requires.1)
rest c = ap (rest_below c.args.suffix.now) c.requires.2 ∙ rest_of c.args.suffix.now (c.requires.0 ∷ c.requires.1)

path_is : (c : After-unwrap) → Some c.unwrap.result.now ≡ rest_below c.args.suffix.now c.args.key.now
path_is c = ap (option_map (λ path. path.now)) (sym c.unwrap.ensures) ∙ c.path_below.ensures.value

pub unwrap-requires : goal.unwrap-requires
unwrap-requires c = mapped_some c.path_below.result ∙ ap is_some (c.path_below.ensures.value ∙ rest (goal.at.unwrap-requires c).After-path_below)

pub unwrap-requires-2 : goal.unwrap-requires-2
unwrap-requires-2 c =
    let same : c.unwrap.result.now ≡ c.requires.0 ∷ c.requires.1 = inner (path_is (goal.at.unwrap-requires-2 c).After-unwrap ∙ rest (goal.at.unwrap-requires-2 c).After-path_below) in
    let count = ap length same in
    c.split_first.ensures.variant.1 (omega (arith, count))

pub returns : goal.returns
returns c =
    let parts : IsFirstAndRest c.unwrap.result.now c.unwrap-2.result.0.now c.unwrap-2.result.1.now = subst (λ r. MatchOption r (length c.unwrap.result.now ≡ 0) (λ p. IsFirstAndRest c.unwrap.result.now p.0.now p.1.now)) c.unwrap-2.ensures c.split_first.ensures.cases in
    rest_is c.args.suffix.now c.args.key.now c.unwrap.result.now (sym (path_is (goal.at.returns c).After-unwrap)) ∙ ap (λ path. c.args.suffix.now ++ path) parts.0
