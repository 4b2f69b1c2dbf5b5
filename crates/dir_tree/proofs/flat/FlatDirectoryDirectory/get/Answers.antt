use Rattle.std.proofs.Common.{ap, ◌∙◌}
use Rattle.dir_names.specs.Orders.{dn_key_cmp_total}
use Rattle.dir_names.proofs.Maps.{get_entries}
use Rattle.dir_tree.specs.Dir.{entry_at}
use Rattle.dir_tree.proofs.flat.FlatDirectoryDirectory.get.Goals as goal

pub returns : goal.returns
returns c = c.get.ensures.value ∙ get_entries dn_key_cmp_total c.self.inside.entries.entries c.args.key.now ∙ ap (λ d. entry_at d c.args.key.now) c.self.view_is
