-- Changes as the LDIF reader gives them. They leave a well-formed directory well formed.
use Rattle.std.specs.Prelude.{◌≡◌, true}
use Rattle.dir_names.specs.declared.schema.TypeRow.{TypeRow}
use Rattle.std.specs.Prelude.{List}
use Rattle.dir_ldif.specs.declared.records.Change.{Change}
use Rattle.dir_ldif.specs.declared.records.Record.TheVariants as form
use Rattle.dir_ldif.specs.LegalRecords.{is_legal}
use Rattle.dir_ldif.specs.SoundRecords.{IsSoundRecord}

-- the change is legal, its names are within the limits, and its values are bytes
abbrev pub IsSoundChange : List TypeRow → Change → Type 0
IsSoundChange rows change = (is_legal rows change ≡ true) × IsSoundRecord (form.Change change)
