use Rattle.std.proofs.Common.{◌≡◌, ℕ, List, Option, Some, None, Bor, refl, sym, ap, ◌∙◌}
use Rattle.std.specs.Prelude.{is_some}
use Rattle.std.specs.Option.{option_copied}
use Rattle.dir_names.specs.Attr.{are_some}
use Rattle.dir_names.specs.Inside.Left.{options_joined}
use Rattle.dir_names.proofs.CutLemmas.{parts-cut}
use Rattle.dir_names.proofs.attribute.AttrKey.has_options.Goals as goal

-- a text has one part at the least
joined_are_some : (joined : Option (Bor (List ℕ))) → is_some joined ≡ are_some (options_joined (option_copied joined))
joined_are_some None = refl
joined_are_some (Some text) = sym (ap are_some (parts-cut 0 text.now))

pub returns : goal.returns
returns c = c.is_some.ensures ∙ joined_are_some c.joined.result ∙ ap are_some (c.joined.ensures ∙ c.options.ensures)
