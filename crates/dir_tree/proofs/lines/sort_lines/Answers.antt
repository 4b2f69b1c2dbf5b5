use Rattle.std.proofs.Common.{◌≡◌, sym, subst, ◌∙◌}
use Rattle.dir_tree.specs.Inside.Arranged.{IsArranged, with_descriptions}
use Rattle.std.specs.FinMap as fin
use Rattle.dir_tree.proofs.Orderless.{arranged_sorted}
use Rattle.dir_tree.proofs.lines.sort_lines.Goals as goal

pub returns-clause-ok : goal.returns-clause-ok
returns-clause-ok c =
    let one = c.sort_by_description.new.lines.items in
    let told = arranged_sorted c.args.lines.now.items one c.sort_by_value.new.lines.items c.sort_by_description.ensures.stable c.sort_by_value.ensures.stable in
    let attributes : c.add_descriptions.new.attributes ≡ with_descriptions fin.empty one = c.in_ok-add_descriptions.ensures.ok ∙ (λ i. with_descriptions (c.empty-attributes.ensures i) (c.as_slice.ensures.value i)) in
    subst (λ xs. IsArranged c.args.lines.now.items xs c.sort_by_value.new.lines.items) (sym attributes) told
