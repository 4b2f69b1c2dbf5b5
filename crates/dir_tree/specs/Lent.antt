-- What an entry lends of its values.
use Rattle.std.specs.Prelude.{ℕ, List, Option, Some, None}
use Rattle.dir_names.specs.declared.value.ValueKey.{ValueKey}
use Rattle.dir_names.specs.declared.value.ValueKey.TheVariants.{Text, Name}
use Rattle.dir_tree.specs.declared.views.KeyView.{KeyView}
use Rattle.dir_tree.specs.declared.views.KeyView.TheVariants as view

-- the key that is lent
abbrev pub lent_key : KeyView → ValueKey
lent_key (view.Text text) = Text text.now
lent_key (view.Name name) = Name name.now

-- the key of a value, which is the value itself where no other is given
abbrev pub key_or_value : Option KeyView → List ℕ → ValueKey
key_or_value None bytes = Text bytes
key_or_value (Some key) bytes = lent_key key
