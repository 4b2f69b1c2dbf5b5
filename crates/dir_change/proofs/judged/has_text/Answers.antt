use Rattle.std.proofs.Common.{sym, ◌∙◌}
use Rattle.dir_names.specs.declared.value.ValueKey.TheVariants.{Text}
use Rattle.dir_change.proofs.JudgedParts.{has_elsewhere, has_there}
use Rattle.dir_change.proofs.judged.has_text.Goals as goal

pub returns-then-is_one_of : goal.returns-then-is_one_of
returns-then-is_one_of c = c.has_text.ensures ∙ has_there c.args.entry.now.attributes c.args.after.now c.args.keys.now c.args.attr.now (Text c.args.text.now) (sym c.if-is_one_of.ensures)

pub returns-else-is_one_of : goal.returns-else-is_one_of
returns-else-is_one_of c = c.has_text-else-is_one_of.ensures ∙ has_elsewhere c.args.entry.now.attributes c.args.after.now c.args.keys.now c.args.attr.now (Text c.args.text.now) (sym c.if-is_one_of.ensures)
