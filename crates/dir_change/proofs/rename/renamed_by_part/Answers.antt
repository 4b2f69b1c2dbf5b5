use Rattle.std.proofs.Common.{◌≡◌, ◌++◌, ap, ◌∙◌, rules}
use Rattle.std.proofs.lemmas.Option.{IfSome_then}
use Rattle.dir_names.specs.Orders.{attr_cmp}
use Rattle.dir_names.specs.Sorted.{set_of}
use Rattle.dir_tree.specs.Slots.{with_slots}
use Rattle.dir_change.specs.Rename.{renamed_attributes}
use Rattle.dir_change.specs.Inside.Touched.{IsPartAt, types_of}
use Rattle.dir_change.proofs.RenamedParts.{renamed_by_part}
use Rattle.dir_change.proofs.rename.renamed_by_part.Goals as goal

pub returns-clause-ok : goal.returns-clause-ok
returns-clause-ok c =
    let rows = c.args.schema.now in
    let entry = c.args.entry.now in
    let rdn = c.args.rdn.now in
    let new = c.args.key.now in
    let keys = c.as_slice-types.result.now in
    let fs = c.in_ok-part.part in
    let are : keys ≡ set_of attr_cmp (types_of entry.key ++ types_of new) = search rules in
    let part : IsPartAt keys entry.attributes fs = c.in_ok-part.ensures.ok in
    let renamed : c.in_ok-part-2.part ≡ renamed_attributes rows fs entry.key rdn new c.args.delete_old = search rules in
    IfSome_then c.with_part.result c.with_part.ensures (λ attributes is. is ∙ ap (with_slots entry.attributes keys) renamed
    ∙ renamed_by_part rows entry.attributes fs entry.key rdn new c.requires c.args.delete_old keys are part)
