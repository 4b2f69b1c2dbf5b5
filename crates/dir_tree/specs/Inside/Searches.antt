-- What a search among the values of an attribute is for.
use Rattle.dir_names.specs.declared.value.ValueKey.{ValueKey}
use Rattle.dir_names.specs.declared.value.ValueKey.TheVariants as value_key
use Rattle.dir_tree.specs.declared.search.Sought.{Sought}
use Rattle.dir_tree.specs.declared.search.Sought.TheVariants.{Key, Name}
use Rattle.dir_tree.specs.Lent.{lent_key}

-- the key that is sought
abbrev pub sought_key : Sought → ValueKey
sought_key (Key key) = lent_key key
sought_key (Name name) = value_key.Name name.now
