-- Why an entry can't be added to a directory (RFC 4511, section 4.7).
use Rattle.std.specs.Prelude.{◌≡◌, IsSome, IsFalse, None, ⊤}
use Rattle.dir_names.specs.Keys.{DnKeys}
use Rattle.dir_tree.specs.Content.{Content}
use Rattle.dir_tree.specs.Dir.{Dir, entry_at, has_parent}
use Rattle.dir_tree.specs.declared.directory.NotAdded.{NotAdded}
use Rattle.dir_tree.specs.declared.directory.NotAdded.TheVariants.{Taken, NoParent, Memory}

-- there is an entry already; or there is none, and none at the parent's key, and the entry comes back; or memory ran out
abbrev pub IsNotAdded : Dir → DnKeys → Content → NotAdded → Type 0
IsNotAdded d k e Taken = IsSome (entry_at d k)
IsNotAdded d k e (NoParent back) = (back ≡ e) × (entry_at d k ≡ None) × IsFalse (has_parent d k)
IsNotAdded d k e Memory = ⊤
