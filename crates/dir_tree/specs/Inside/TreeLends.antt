-- What a node ends as, once the place of a child is no longer lent for writing; and a place, once its node is no longer lent.
use Rattle.std.specs.Prelude.{Option, Some}
use Rattle.std.specs.Borrow.{Fml, Lends, LendsIf, MutBor, RattleType}
use Rattle.std.specs.contracts.option.Option as option
use Rattle.dir_names.specs.Keys.{RdnKeys}
use Rattle.dir_tree.specs.contracts.tree.node.Node as node
use Rattle.dir_tree.specs.Inside.TreePlaces.{Places, with_child}

abbrev pub place_row : RattleType
place_row = option.the_row node.the_row

-- the node has what is last written into the child's place
abbrev pub LendsPlace : MutBor Places → RdnKeys → MutBor (Option Places) → Fml
LendsPlace n part place = Lends node.the_row place_row n place (with_child n.now part)

-- the same, if the child has a place
abbrev pub LendsPlaceIf : MutBor Places → RdnKeys → Option (MutBor (Option Places)) → Fml
LendsPlaceIf n part place = LendsIf node.the_row place_row n place (with_child n.now part) n.now

-- the place has what is last written into its node
abbrev pub LendsNode : MutBor (Option Places) → MutBor Places → Fml
LendsNode place n = Lends place_row node.the_row place n (λ m. Some m)
