-- Legal records: their names have keys, their descriptions were read under the schema, and their values are at most
-- 1,048,576 bytes long. And the fault of a change that is not legal.
use Rattle.std.specs.Prelude.{◌≡◌, ℕ, Bool, true, false, ◌&&◌, nat_le, List, [], ◌∷◌, length, ⊤, Option, None, Some, is_some, Result, Ok, Err}
use Rattle.std.specs.List.{list_all}
use Rattle.std.specs.Result.{is_ok}
use Rattle.dir_names.specs.declared.fault.NameFault.{NameFault}
use Rattle.dir_names.specs.declared.fault.NameFault.TheVariants.{BadDescription, ReservedName, BadValue, BadDn, NameLimit, Memory, BadType}
use Rattle.dir_names.specs.declared.schema.TypeRow.{TypeRow}
use Rattle.dir_names.specs.Attr.{Attr}
use Rattle.dir_names.specs.Described.{Described}
use Rattle.dir_names.specs.Descriptions.{description_of}
use Rattle.dir_names.specs.Names.{SpelledName, SpelledRdn}
use Rattle.dir_names.specs.NameKeys.{name_key, rdn_key}
use Rattle.dir_names.specs.Orders.{attr_eq}
use Rattle.dir_names.specs.Outcome.{ok_or_bad_dn}
use Rattle.dir_names.specs.Results.{and_then, Meets}
use Rattle.dir_ldif.specs.declared.faults.RecordFault.{RecordFault}
use Rattle.dir_ldif.specs.declared.faults.RecordFault.TheVariants as fault
use Rattle.dir_ldif.specs.declared.records.Record.{Record}
use Rattle.dir_ldif.specs.declared.records.Record.TheVariants as form
use Rattle.dir_ldif.specs.declared.records.Change.{Change}
use Rattle.dir_ldif.specs.declared.records.ChangeKind.{ChangeKind}
use Rattle.dir_ldif.specs.declared.records.ChangeKind.TheVariants as kind
use Rattle.dir_ldif.specs.declared.records.Mod.{Mod}
use Rattle.dir_ldif.specs.RecordGrammar.{as_record_fault}

-- a name that has a key
abbrev pub has_key : List TypeRow → SpelledName → Bool
has_key rows name = is_some (name_key rows name)

abbrev pub rdn_has_key : List TypeRow → SpelledRdn → Bool
rdn_has_key rows rdn = is_some (rdn_key rows rdn)

abbrev pub has_this_key : Attr → Result Described NameFault → Bool
has_this_key key (Ok d) = attr_eq d.key key
has_this_key key (Err e) = false

-- the spelling has the description's key under the schema
abbrev pub is_read_under : List TypeRow → Described → Bool
is_read_under rows d = has_this_key d.key (description_of rows d.spelling)

-- a value within the limit
abbrev pub is_short : List ℕ → Bool
is_short value = nat_le (length value) 1048576

abbrev pub is_legal_line : List TypeRow → Described × List ℕ → Bool
is_legal_line rows line = is_short line.1 && is_read_under rows line.0

abbrev pub is_legal_mod : List TypeRow → Mod → Bool
is_legal_mod rows m = is_read_under rows m.description && list_all is_short m.values

abbrev pub superior_has_key : List TypeRow → Option SpelledName → Bool
superior_has_key rows None = true
superior_has_key rows (Some name) = has_key rows name

abbrev pub is_legal_kind : List TypeRow → ChangeKind → Bool
is_legal_kind rows (kind.Add lines) = list_all (is_legal_line rows) lines
is_legal_kind rows kind.Delete = true
is_legal_kind rows (kind.Modify mods) = list_all (is_legal_mod rows) mods
is_legal_kind rows (kind.Rename rdn flag superior) = rdn_has_key rows rdn && superior_has_key rows superior

abbrev pub is_legal : List TypeRow → Change → Bool
is_legal rows change = has_key rows change.dn && is_legal_kind rows change.kind

abbrev pub is_legal_record : List TypeRow → Record → Bool
is_legal_record rows (form.Content name lines) = has_key rows name && list_all (is_legal_line rows) lines
is_legal_record rows (form.Change change) = is_legal rows change

-- ---- the fault of a change that is not legal: the first one, in the order of the record's lines

-- the faults of a name, as faults of the record; the value is not wanted
abbrev pub fault_of : {A : Type 0} → Result A NameFault → Result ⊤ RecordFault
fault_of answer = and_then (as_record_fault answer) (λ _. Ok tt)

-- this fault, where the test fails
abbrev pub fault_unless : Bool → RecordFault → Result ⊤ RecordFault
fault_unless true e = Ok tt
fault_unless false e = Err e

-- the first fault of the elements of a list
abbrev pub first_fault : {A : Type 0} → (A → Result ⊤ RecordFault) → List A → Result ⊤ RecordFault
first_fault f [] = Ok tt
first_fault f (x ∷ xs) = and_then (f x) (λ _. first_fault f xs)

-- a name without a key is an invalid one
abbrev pub check_of_name : List TypeRow → SpelledName → Result ⊤ RecordFault
check_of_name rows name = fault_of (ok_or_bad_dn (name_key rows name))

abbrev pub check_of_rdn : List TypeRow → SpelledRdn → Result ⊤ RecordFault
check_of_rdn rows rdn = fault_of (ok_or_bad_dn (rdn_key rows rdn))

-- the fault of the spelling; a description that has another key under the schema is an invalid one
abbrev pub check_of_description : List TypeRow → Described → Result ⊤ RecordFault
check_of_description rows d =
    and_then (as_record_fault (description_of rows d.spelling)) (λ read. fault_unless (attr_eq read.key d.key) (fault.Name BadDescription))

abbrev pub check_of_value : List ℕ → Result ⊤ RecordFault
check_of_value value = fault_unless (is_short value) fault.ValueTooLong

-- as where a line is read, the length of its value comes first
abbrev pub check_of_line : List TypeRow → Described × List ℕ → Result ⊤ RecordFault
check_of_line rows line = and_then (check_of_value line.1) (λ _. check_of_description rows line.0)

-- the description is in the head, before the values
abbrev pub check_of_mod : List TypeRow → Mod → Result ⊤ RecordFault
check_of_mod rows m = and_then (check_of_description rows m.description) (λ _. first_fault check_of_value m.values)

abbrev pub check_of_superior : List TypeRow → Option SpelledName → Result ⊤ RecordFault
check_of_superior rows None = Ok tt
check_of_superior rows (Some name) = check_of_name rows name

abbrev pub check_of_kind : List TypeRow → ChangeKind → Result ⊤ RecordFault
check_of_kind rows (kind.Add lines) = first_fault (check_of_line rows) lines
check_of_kind rows kind.Delete = Ok tt
check_of_kind rows (kind.Modify mods) = first_fault (check_of_mod rows) mods
check_of_kind rows (kind.Rename rdn flag superior) = and_then (check_of_rdn rows rdn) (λ _. check_of_superior rows superior)

-- the name comes before what is done to the entry
abbrev pub check_of : List TypeRow → Change → Result ⊤ RecordFault
check_of rows change = and_then (check_of_name rows change.dn) (λ _. check_of_kind rows change.kind)

-- a law: the changes without a fault are the legal ones
abbrev pub LegalChangesHaveNoFault : Type 0
LegalChangesHaveNoFault = (rows : List TypeRow) (change : Change) → is_ok (check_of rows change) ≡ is_legal rows change

-- ---- what a call meets that only looks for the first fault

module _ {A : Type 0} where
  -- the fault of a name is the definition's, or memory ran out
  abbrev pub IsNameCauseOf : NameFault → Result A RecordFault → Type 0
  IsNameCauseOf BadDescription wanted = wanted ≡ Err (fault.Name BadDescription)
  IsNameCauseOf ReservedName wanted = wanted ≡ Err (fault.Name ReservedName)
  IsNameCauseOf BadValue wanted = wanted ≡ Err (fault.Name BadValue)
  IsNameCauseOf BadDn wanted = wanted ≡ Err (fault.Name BadDn)
  IsNameCauseOf NameLimit wanted = wanted ≡ Err (fault.Name NameLimit)
  IsNameCauseOf Memory wanted = ⊤
  IsNameCauseOf BadType wanted = wanted ≡ Err (fault.Name BadType)

  -- the fault is the definition's, or memory ran out
  abbrev pub IsRecordFaultOf : RecordFault → Result A RecordFault → Type 0
  IsRecordFaultOf fault.BadLine wanted = wanted ≡ Err fault.BadLine
  IsRecordFaultOf fault.BadBase64 wanted = wanted ≡ Err fault.BadBase64
  IsRecordFaultOf fault.UrlValue wanted = wanted ≡ Err fault.UrlValue
  IsRecordFaultOf fault.Control wanted = wanted ≡ Err fault.Control
  IsRecordFaultOf fault.BadChangetype wanted = wanted ≡ Err fault.BadChangetype
  IsRecordFaultOf fault.BadModify wanted = wanted ≡ Err fault.BadModify
  IsRecordFaultOf fault.BadRename wanted = wanted ≡ Err fault.BadRename
  IsRecordFaultOf fault.ValueTooLong wanted = wanted ≡ Err fault.ValueTooLong
  IsRecordFaultOf (fault.Name e) wanted = IsNameCauseOf e wanted

-- the call answers the wanted fault, or that there is none, unless memory ran out
abbrev pub Checks : {T : Type 0} → Result T RecordFault → Result ⊤ RecordFault → Type 0
Checks result wanted = Meets IsRecordFaultOf (λ _. tt) result wanted
