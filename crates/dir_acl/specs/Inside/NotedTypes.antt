-- The types from which others are derived, while they are gathered.
use Rattle.std.specs.BTreeSet.{contains}
use Rattle.std.specs.Prelude.{◌≡◌, Bool, ◌||◌, List}
use Rattle.dir_names.specs.Attr.{Attr}
use Rattle.dir_names.specs.Orders.{attr_cmp}
use Rattle.dir_names.specs.declared.schema.TypeRow.{TypeRow}
use Rattle.dir_acl.specs.declared.note.types.RuleTypes.{RuleTypes}
use Rattle.dir_acl.specs.Notes.Supertypes.{NotedTypes, is_standard}

-- what is known of the types, as the definition of the notes has it
abbrev pub noted_by : RuleTypes → NotedTypes
noted_by types = record { rows = types.schema.now; has_subtypes = contains attr_cmp types.supertypes }

-- the same types are known, and those of which the test holds have subtypes too
abbrev pub IsWith : (Attr → Bool) → NotedTypes → NotedTypes → Type 0
IsWith test old new = (new.rows ≡ old.rows) × ((attr : Attr) → new.has_subtypes attr ≡ (old.has_subtypes attr || test attr))

abbrev pub AreStandard : List TypeRow → NotedTypes → Type 0
AreStandard rows types = (types.rows ≡ rows) × ((attr : Attr) → types.has_subtypes attr ≡ is_standard rows attr)
