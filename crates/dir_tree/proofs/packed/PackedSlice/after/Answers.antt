use Rattle.std.proofs.Common.{map, sym, ap, ◌∙◌}
use Rattle.std.proofs.lemmas.List.{drop-map}
use Rattle.dir_tree.specs.Inside.Packed.{packed_value}
use Rattle.dir_tree.proofs.PackedLists.{part-after}
use Rattle.dir_tree.proofs.packed.PackedSlice.after.Goals as goal

pub returns : goal.returns
returns c =
    let f = packed_value c.args.self.pool.text.now c.args.self.pool.names.now in
    ap (map f) (part-after c.args.self.values.now c.args.start c.min-start.result c.min-start.ensures) ∙ sym (drop-map f c.args.start c.args.self.values.now)
