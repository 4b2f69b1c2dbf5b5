-- An entry that is made up has no attributes to look at.
use Rattle.std.proofs.Common.{◌≡◌, Bool, false, Option, None, sym, ap, ◌∙◌}
use Rattle.std.specs.List.{list_any}
use Rattle.std.specs.FinMap as fin
use Rattle.dir_names.specs.Attr.{Attr}
use Rattle.dir_names.specs.Orders.{attr_cmp}
use Rattle.dir_tree.specs.Content.{Content, Stored}
use Rattle.dir_tree.proofs.SoundMade.{entries_of_none}
use Rattle.dir_acl.specs.Inside.Fakes.{attributes_of}

pub none_is_so : (is_so : Attr × Stored → Bool) (entry : Option Content) → entry ≡ None → false ≡ list_any is_so (fin.entries (attributes_of entry))
none_is_so is_so entry e = sym (ap (λ o. list_any is_so (fin.entries (attributes_of o))) e ∙ ap (list_any is_so) (entries_of_none attr_cmp))
