-- The record that a block of lines is (RFC 2849, ldif-attrval-record and ldif-change-record). The first line that has a
-- fault decides; a line that is missing is noticed at the end of the block.
use Rattle.std.specs.Prelude.{ℕ, Bool, true, false, if◌then◌else◌, List, [], ◌∷◌, codes, Option, None, Some, Result, Ok, Err}
use Rattle.std.specs.Str.{str_eq_ignore_ascii_case, bytes_eq}
use Rattle.dir_names.specs.declared.fault.NameFault.{NameFault}
use Rattle.dir_names.specs.declared.schema.TypeRow.{TypeRow}
use Rattle.dir_names.specs.Described.{Described}
use Rattle.dir_names.specs.Descriptions.{description_of}
use Rattle.dir_names.specs.Names.{SpelledRdn, SpelledName}
use Rattle.dir_names.specs.NameKeys.{rdn_key, name_key}
use Rattle.dir_names.specs.Orders.{attr_eq}
use Rattle.dir_names.specs.Names.Reading.{name_within_limits, rdn_within_limit}
use Rattle.dir_names.specs.Outcome.{ok_or_bad_dn}
use Rattle.dir_ldif.specs.declared.faults.RecordFault.{RecordFault}
use Rattle.dir_ldif.specs.declared.faults.RecordFault.TheVariants.{BadLine, Control, BadChangetype, BadModify, BadRename, Name}
use Rattle.dir_ldif.specs.declared.records.Record.{Record}
use Rattle.dir_ldif.specs.declared.records.Record.TheVariants as form
use Rattle.dir_ldif.specs.declared.records.ChangeKind.{ChangeKind}
use Rattle.dir_ldif.specs.declared.records.ChangeKind.TheVariants as kind
use Rattle.dir_ldif.specs.declared.records.Mod.{Mod}
use Rattle.dir_ldif.specs.declared.records.ModOp.{ModOp}
use Rattle.dir_ldif.specs.declared.records.ModOp.TheVariants as op
use Rattle.dir_ldif.specs.LogicalLines.{Line, cut}
use Rattle.dir_names.specs.Results.{and_then}
use Rattle.dir_ldif.specs.AttrVal.{attrval_of}

-- a keyword, in any ASCII case
abbrev pub is_keyword : List ℕ → List ℕ → Bool
is_keyword text word = str_eq_ignore_ascii_case text word

-- `r.map_err(Name)`: a fault of a name as a fault of the record
abbrev pub as_record_fault : {A : Type 0} → Result A NameFault → Result A RecordFault
as_record_fault (Ok x) = Ok x
as_record_fault (Err fault) = Err (Name fault)

-- the values of a call on each element, or the first fault
abbrev pub try_map : {A B : Type 0} → (A → Result B RecordFault) → List A → Result (List B) RecordFault
try_map f [] = Ok []
try_map f (x ∷ xs) = and_then (f x) (λ y. and_then (try_map f xs) (λ ys. Ok (y ∷ ys)))

-- ---- names

-- a name that has a key
abbrev pub legal_dn : List TypeRow → List ℕ → Result SpelledName RecordFault
legal_dn rows text = and_then (as_record_fault (name_within_limits text)) (λ name. and_then (as_record_fault (ok_or_bad_dn (name_key rows name))) (λ _. Ok name))

-- an RDN that has a key
abbrev pub legal_rdn : List TypeRow → List ℕ → Result SpelledRdn RecordFault
legal_rdn rows text = and_then (as_record_fault (rdn_within_limit text)) (λ rdn. and_then (as_record_fault (ok_or_bad_dn (rdn_key rows rdn))) (λ _. Ok rdn))

-- the name of the line that begins a record: `dn` and a name
abbrev pub dn_line : List TypeRow → Line → Result SpelledName RecordFault
dn_line rows line = and_then (attrval_of line.1) (λ p. if is_keyword p.0 (codes "dn") then legal_dn rows p.1 else Err BadLine)

-- ---- lines of values

-- a description and a value
abbrev pub value_line : List TypeRow → Line → Result (Described × List ℕ) RecordFault
value_line rows line = and_then (attrval_of line.1) (λ p. and_then (as_record_fault (description_of rows p.0)) (λ d. Ok (d, p.1)))

abbrev pub value_lines : List TypeRow → List Line → Result (List (Described × List ℕ)) RecordFault
value_lines rows lines = try_map (value_line rows) lines

-- ---- modifications

abbrev pub is_dash : Line → Bool
is_dash line = bytes_eq line.1 (codes "-")

-- `add`, `delete` or `replace`, and `increment` (RFC 4525, section 2.1)
abbrev pub op_of : List ℕ → Option ModOp
op_of name =
    if is_keyword name (codes "add") then Some op.Add
    else (if is_keyword name (codes "delete") then Some op.Delete
    else (if is_keyword name (codes "replace") then Some op.Replace
    else (if is_keyword name (codes "increment") then Some op.Increment else None)))

abbrev pub head_of : List TypeRow → Option ModOp → List ℕ → Result (ModOp × Described) RecordFault
head_of rows None value = Err BadModify
head_of rows (Some op) value = and_then (as_record_fault (description_of rows value)) (λ d. Ok (op, d))

-- the operation and a description
abbrev pub mod_head : List TypeRow → Line → Result (ModOp × Described) RecordFault
mod_head rows line = and_then (attrval_of line.1) (λ p. head_of rows (op_of p.0) p.1)

-- a value of the attribute that the head names
abbrev pub mod_value : List TypeRow → Described → Line → Result (List ℕ) RecordFault
mod_value rows head line = and_then (value_line rows line) (λ p. if attr_eq p.0.key head.key then Ok p.1 else Err BadModify)

-- one modification: its head and its values
abbrev pub mod_of : List TypeRow → List Line → Result Mod RecordFault
mod_of rows [] = Err BadLine
mod_of rows (head ∷ lines) =
    and_then (mod_head rows head) (λ h. and_then (try_map (mod_value rows h.1) lines) (λ values. Ok (record { op = h.0; description = h.1; values = values })))

-- each modification ends in a line `-`, the last one perhaps at the end of the block
abbrev pub mods_of : List TypeRow → List Line → Result (List Mod) RecordFault
mods_of rows lines = try_map (mod_of rows) (cut is_dash lines)

-- ---- renames

-- the value of a line that must have this keyword
abbrev pub rename_line : List ℕ → Line → Result (List ℕ) RecordFault
rename_line word line = and_then (attrval_of line.1) (λ p. if is_keyword p.0 word then Ok p.1 else Err BadRename)

abbrev pub flag_of : List ℕ → Result Bool RecordFault
flag_of value =
    if bytes_eq value (codes "0") then Ok false else (if bytes_eq value (codes "1") then Ok true else Err BadRename)

-- a rename has no line after its new superior; a line that is there has its own fault first
abbrev pub only_superior : SpelledName → List Line → Result (Option SpelledName) RecordFault
only_superior name [] = Ok (Some name)
only_superior name (line ∷ lines) = and_then (attrval_of line.1) (λ _. Err BadRename)

-- no line, or that of the new superior alone
abbrev pub superior_of : List TypeRow → List Line → Result (Option SpelledName) RecordFault
superior_of rows [] = Ok None
superior_of rows (line ∷ further) =
    and_then (rename_line (codes "newsuperior") line) (λ value. and_then (legal_dn rows value) (λ name. only_superior name further))

abbrev pub rename_after_rdn : List TypeRow → SpelledRdn → List Line → Result ChangeKind RecordFault
rename_after_rdn rows rdn [] = Err BadRename
rename_after_rdn rows rdn (line ∷ lines) =
    and_then (rename_line (codes "deleteoldrdn") line) (λ value. and_then (flag_of value)
    (λ flag. and_then (superior_of rows lines) (λ superior. Ok (kind.Rename rdn flag superior))))

abbrev pub rename_of : List TypeRow → List Line → Result ChangeKind RecordFault
rename_of rows [] = Err BadRename
rename_of rows (line ∷ lines) =
    and_then (rename_line (codes "newrdn") line) (λ value. and_then (legal_rdn rows value) (λ rdn. rename_after_rdn rows rdn lines))

-- ---- records

-- a deletion has no further line; a line that is there has its own fault first
abbrev pub deletion_of : List Line → Result ChangeKind RecordFault
deletion_of [] = Ok kind.Delete
deletion_of (line ∷ lines) = and_then (attrval_of line.1) (λ _. Err BadLine)

-- the change of a changetype and the lines after it
abbrev pub change_of : List TypeRow → List ℕ → List Line → Result ChangeKind RecordFault
change_of rows word lines =
    if is_keyword word (codes "add") then and_then (value_lines rows lines) (λ ls. Ok (kind.Add ls))
    else (if is_keyword word (codes "delete") then deletion_of lines
    else (if is_keyword word (codes "modify") then and_then (mods_of rows lines) (λ mods. Ok (kind.Modify mods))
    else (if is_keyword word (codes "modrdn") then rename_of rows lines
    else (if is_keyword word (codes "moddn") then rename_of rows lines
    else Err BadChangetype))))

abbrev pub content_of : List TypeRow → SpelledName → List Line → Result Record RecordFault
content_of rows name lines = and_then (value_lines rows lines) (λ ls. Ok (form.Content name ls))

-- the record of a name and the lines after it: a change if the first of these is a changetype, else content
abbrev pub body_of : List TypeRow → SpelledName → List Line → Result Record RecordFault
body_of rows name [] = content_of rows name []
body_of rows name (second ∷ further) =
    and_then (attrval_of second.1) (λ p.
    if is_keyword p.0 (codes "control") then Err Control
    else (if is_keyword p.0 (codes "changetype") then and_then (change_of rows p.1 further) (λ kind. Ok (form.Change (record { dn = name; kind = kind })))
    else content_of rows name (second ∷ further)))

-- the record of a block, or the fault of its first faulty line
unfoldable pub record_of : List TypeRow → List Line → Result Record RecordFault
record_of rows [] = Err BadLine
record_of rows (first ∷ rest) = and_then (dn_line rows first) (λ name. body_of rows name rest)
