use Rattle.std.proofs.Common.{map, sym, ap, ◌∙◌}
use Rattle.dir_tree.specs.Inside.Packed.{packed_value}
use Rattle.dir_tree.proofs.PackedLists.{part-map}
use Rattle.dir_tree.proofs.packed.PackedSlice.part.Goals as goal

pub returns : goal.returns
returns c =
    let text = c.args.self.pool.text.now in
    let names = c.args.self.pool.names.now in
    ap (map (packed_value text names)) c.part_of.ensures ∙ sym (part-map (packed_value text names) c.args.self.values.now c.args.start c.args.end)
