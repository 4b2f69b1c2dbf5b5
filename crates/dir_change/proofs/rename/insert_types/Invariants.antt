use Rattle.std.proofs.Common.{◌≡◌, IsTrue, fold, drop}
use Rattle.dir_names.specs.Orders.{attr_cmp}
use Rattle.dir_names.specs.Sorted.{rises, with_member}
use Rattle.dir_change.specs.Inside.Touched.{types_of}
use Rattle.dir_change.proofs.rename.insert_types.Given as goal

abbrev pub invariant-loop-pair : goal.invariant-loop-pair
invariant-loop-pair l = record {
  rises : IsTrue (rises attr_cmp l.types.items);
  so_far : fold (λ set k. with_member attr_cmp k set) l.fn.types.items (types_of l.rdn) ≡ fold (λ set k. with_member attr_cmp k set) l.types.items (types_of (drop l.pair-index l.pair-items));
}
