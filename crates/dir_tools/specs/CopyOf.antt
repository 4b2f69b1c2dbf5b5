-- The directory of a copy (slapcat(8)): the entries of its content records, which come in any order.
use Rattle.std.specs.Prelude.{ℕ, Bool, cond, not, nat_lt, List, [], ◌∷◌, map, Option, None, Some, is_some, Result, Ok, Err}
use Rattle.std.specs.List.{filter}
use Rattle.std.specs.FinMap as fin
use Rattle.dir_names.specs.Results.{and_then}
use Rattle.dir_names.specs.declared.schema.TypeRow.{TypeRow}
use Rattle.dir_names.specs.Described.{Described}
use Rattle.dir_names.specs.Keys.{DnKeys}
use Rattle.dir_names.specs.Names.{SpelledName}
use Rattle.dir_names.specs.NameKeys.{name_key}
use Rattle.dir_names.specs.Orders.{dn_key_cmp}
use Rattle.dir_names.specs.Below.{is_at_or_below}
use Rattle.dir_ldif.specs.declared.faults.RecordFault.{RecordFault}
use Rattle.dir_ldif.specs.declared.faults.RecordFault.TheVariants.{BadChangetype}
use Rattle.dir_ldif.specs.declared.records.Record.{Record}
use Rattle.dir_ldif.specs.declared.records.Record.TheVariants as form
use Rattle.dir_ldif.specs.Records.{Answer, records_of}
use Rattle.dir_tree.specs.Content.{Content}
use Rattle.dir_tree.specs.Dir.{Dir, entry_at, has_parent, put_entry}
use Rattle.dir_tree.specs.NewEntry.{new_entry}
use Rattle.dir_tree.specs.declared.fault.EntryFault.{EntryFault}
use Rattle.dir_tree.specs.SpelledNames.{own_rdns}
use Rattle.dir_change.specs.declared.result_code.ResultCode.{ResultCode}
use Rattle.dir_change.specs.declared.result_code.ResultCode.TheVariants.{NoSuchObject, EntryAlreadyExists}
use Rattle.dir_change.specs.Refusals.{code_of, entry_refusal}
use Rattle.dir_tools.specs.declared.fault.Cause.{Cause}
use Rattle.dir_tools.specs.declared.fault.Cause.TheVariants as cause

-- the entries of the records so far, whether or not their parents came, and the line of each one's record
pub record LoadedCopy : Type 0 where
  pub entries : Dir
  pub lines : fin.FinMap dn_key_cmp ℕ

-- why a copy is not a directory, with the line of the record that is at fault, or 0 where the text itself is
abbrev pub CopyFault : Type 0
CopyFault = ℕ × Cause

abbrev pub refused_if : {A : Type 0} → Bool → ℕ → ResultCode → Result A CopyFault → Result A CopyFault
refused_if test line code answer = cond test (Err (line, cause.Code code)) answer

abbrev pub with_entry : LoadedCopy → ℕ → DnKeys → Result Content EntryFault → Result LoadedCopy CopyFault
with_entry l line k (Ok e) = Ok (record { entries = put_entry l.entries k e; lines = fin.insert l.lines k line })
with_entry l line k (Err fault) = Err (line, cause.Code (code_of (entry_refusal fault)))

-- an entry takes a free place at or below the suffix, completed by the values of its own RDN
abbrev pub with_content : List TypeRow → LoadedCopy → ℕ → SpelledName → List (Described × List ℕ) → Option DnKeys → Result LoadedCopy CopyFault
with_content rows l line name lines None = Err (line, cause.Code NoSuchObject)
with_content rows l line name lines (Some k) =
    refused_if (not (is_at_or_below k l.entries.suffix)) line NoSuchObject
    (refused_if (is_some (entry_at l.entries k)) line EntryAlreadyExists
    (with_entry l line k (new_entry rows (own_rdns l.entries.suffix k name) lines)))

-- all records of a copy are content
abbrev pub with_record : List TypeRow → LoadedCopy → ℕ → Result Record RecordFault → Result LoadedCopy CopyFault
with_record rows l line (Ok (form.Content name lines)) = with_content rows l line name lines (name_key rows name)
with_record rows l line (Ok (form.Change change)) = Err (line, cause.Fault BadChangetype)
with_record rows l line (Err fault) = Err (line, cause.Fault fault)

-- the records in their order, and the fault in which the text ends
abbrev pub with_records : List TypeRow → LoadedCopy → List Answer → Result LoadedCopy CopyFault
with_records rows l [] = Ok l
with_records rows l (Err fault ∷ rest) = Err (0, cause.Ended fault)
with_records rows l (Ok found ∷ rest) = and_then (with_record rows l found.0 found.1) (λ m. with_records rows m rest)

abbrev pub line_or_zero : Option ℕ → ℕ
line_or_zero None = 0
line_or_zero (Some line) = line

-- the lines of the records whose entries have no parent
abbrev pub orphan_lines : LoadedCopy → List ℕ
orphan_lines l = map (λ p. line_or_zero (fin.get l.lines p.0)) (filter (λ p. not (has_parent l.entries p.0)) (fin.entries l.entries.entries))

abbrev pub earlier_line : ℕ → Option ℕ → Option ℕ
earlier_line line None = Some line
earlier_line line (Some first) = cond (nat_lt line first) (Some line) (Some first)

-- the first of these lines in the text
abbrev pub first_line : List ℕ → Option ℕ
first_line [] = None
first_line (line ∷ lines) = earlier_line line (first_line lines)

abbrev pub unless_orphan : Dir → Option ℕ → Result Dir CopyFault
unless_orphan d None = Ok d
unless_orphan d (Some line) = Err (line, cause.Code NoSuchObject)

-- the directory, where no entry is without its parent
abbrev pub whole_directory : LoadedCopy → Result Dir CopyFault
whole_directory l = unless_orphan l.entries (first_line (orphan_lines l))

abbrev pub empty_copy : DnKeys → LoadedCopy
empty_copy suffix = record { entries = record { suffix = suffix; entries = fin.empty }; lines = fin.empty }

-- the directory of the records of a copy, or its first fault: of a record, of the text, or a parent that is missing
abbrev pub directory_of_records : List TypeRow → DnKeys → List Answer → Result Dir CopyFault
directory_of_records rows suffix answers = and_then (with_records rows (empty_copy suffix) answers) whole_directory

abbrev pub copy_of : List TypeRow → DnKeys → List ℕ → Result Dir CopyFault
copy_of rows suffix text = directory_of_records rows suffix (records_of rows text)
