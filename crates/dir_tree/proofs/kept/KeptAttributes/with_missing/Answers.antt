use Rattle.std.proofs.Common.{◌≡◌, true, is_some, sym, ap, ◌∙◌, rules}
use Rattle.std.specs.List.{list_all}
use Rattle.dir_names.specs.declared.value.ValueKey.TheVariants.{Text}
use Rattle.dir_tree.specs.Content.{has_value}
use Rattle.dir_tree.specs.NewEntry.{rdn_lines}
use Rattle.dir_tree.proofs.MadeAgain.{nothing_by}
use Rattle.dir_tree.proofs.OwnLines.{keyed_rdn}
use Rattle.dir_tree.proofs.OwnValues.{by_rdn_key, each_passes}
use Rattle.dir_tree.proofs.kept.KeptAttributes.with_missing.Goals as goal

pub add_missing-requires : goal.add_missing-requires
add_missing-requires c = keyed_rdn c.args.schema.now c.args.rdn.now (ap is_some c.requires)

pub returns-then-has_each : goal.returns-then-has_each
returns-then-has_each c =
    let rows = c.args.schema.now in
    let rdn = c.args.rdn.now in
    let kept = c.args.self in
    let there : list_all (λ p. has_value kept p.0 (Text p.1)) c.args.key.now ≡ true = search rules in
    sym (nothing_by kept (rdn_lines rows rdn) (each_passes kept rows (rdn_lines rows rdn) ∙ by_rdn_key rows (has_value kept) rdn c.args.key.now c.requires ∙ there))
