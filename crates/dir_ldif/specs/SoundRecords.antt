-- Sound records: their names are sound and within the limits, and their values are bytes. Each record that the reader gives is sound, and
-- legal (LegalRecords).
use Rattle.std.specs.Prelude.{◌≡◌, ℕ, true, List, [], ◌∷◌, ⊤, Option, None, Some, IfOk}
pub use Rattle.base64.specs.GeneralPurpose.{IsBytes}
use Rattle.dir_names.specs.declared.schema.TypeRow.{TypeRow}
use Rattle.dir_names.specs.Described.{Described}
use Rattle.dir_names.specs.Names.{SpelledName, SpelledRdn}
use Rattle.dir_names.specs.Names.Limits.{is_rdn_within_limit, is_within_limits}
use Rattle.dir_names.specs.Names.Sound.{is_sound_name, is_sound_rdn}
use Rattle.dir_ldif.specs.declared.records.Record.{Record}
use Rattle.dir_ldif.specs.declared.records.Record.TheVariants as form
use Rattle.dir_ldif.specs.declared.records.ChangeKind.{ChangeKind}
use Rattle.dir_ldif.specs.declared.records.ChangeKind.TheVariants as kind
use Rattle.dir_ldif.specs.declared.records.Mod.{Mod}
use Rattle.dir_ldif.specs.LegalRecords.{is_legal_record}
use Rattle.dir_ldif.specs.Records.{Answer, Found, records_of, records_up_to}

-- a name that is sound and within the limits, as each name that was read is
abbrev pub IsSoundName : SpelledName → Type 0
IsSoundName name = (is_sound_name name ≡ true) × (is_within_limits name ≡ true)

abbrev pub IsSoundRdn : SpelledRdn → Type 0
IsSoundRdn rdn = (is_sound_rdn rdn ≡ true) × (is_rdn_within_limit rdn ≡ true)

-- each value of the lines is a list of bytes
abbrev pub ValuesAreBytes : List (Described × List ℕ) → Type 0
ValuesAreBytes [] = ⊤
ValuesAreBytes (line ∷ lines) = IsBytes line.1 × ValuesAreBytes lines

abbrev pub AreBytes : List (List ℕ) → Type 0
AreBytes [] = ⊤
AreBytes (value ∷ values) = IsBytes value × AreBytes values

abbrev pub ModsAreBytes : List Mod → Type 0
ModsAreBytes [] = ⊤
ModsAreBytes (m ∷ mods) = AreBytes m.values × ModsAreBytes mods

abbrev pub IsSoundSuperior : Option SpelledName → Type 0
IsSoundSuperior None = ⊤
IsSoundSuperior (Some name) = IsSoundName name

abbrev pub IsSoundKind : ChangeKind → Type 0
IsSoundKind (kind.Add lines) = ValuesAreBytes lines
IsSoundKind kind.Delete = ⊤
IsSoundKind (kind.Modify mods) = ModsAreBytes mods
IsSoundKind (kind.Rename rdn flag superior) = IsSoundRdn rdn × IsSoundSuperior superior

abbrev pub IsSoundRecord : Record → Type 0
IsSoundRecord (form.Content name lines) = IsSoundName name × ValuesAreBytes lines
IsSoundRecord (form.Change change) = IsSoundName change.dn × IsSoundKind change.kind

-- each record is legal and sound
abbrev pub AreLegalAndSound : List TypeRow → List Record → Type 0
AreLegalAndSound rows [] = ⊤
AreLegalAndSound rows (r ∷ rs) = (is_legal_record rows r ≡ true) × IsSoundRecord r × AreLegalAndSound rows rs

-- ---- answers of a reader

-- the record that was found, if it is no fault, is legal
abbrev pub IsLegalFound : List TypeRow → Found → Type 0
IsLegalFound rows found = IfOk found.1 (λ r. is_legal_record rows r ≡ true)

-- the record that was found, if it is no fault, is legal and sound
abbrev pub IsSoundFound : List TypeRow → Found → Type 0
IsSoundFound rows found = IfOk found.1 (λ r. (is_legal_record rows r ≡ true) × IsSoundRecord r)

-- each record among the answers is legal and sound
abbrev pub AreSoundAnswers : List TypeRow → List Answer → Type 0
AreSoundAnswers rows [] = ⊤
AreSoundAnswers rows (answer ∷ answers) = IfOk answer (IsSoundFound rows) × AreSoundAnswers rows answers

-- a law: each record of a text of bytes is legal and sound
abbrev pub RecordsAreSound : Type 0
RecordsAreSound = (rows : List TypeRow) (text : List ℕ) → IsBytes text → AreSoundAnswers rows (records_of rows text)

-- and each of those that are read of the first groups of an undo text
abbrev pub FirstRecordsAreSound : Type 0
FirstRecordsAreSound = (rows : List TypeRow) (groups : ℕ) (text : List ℕ) → IsBytes text → AreSoundAnswers rows (records_up_to rows groups text)
