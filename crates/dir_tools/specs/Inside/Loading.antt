-- The view of `Loading`: a copy as far as it was read. No public contract needs this file.
use Rattle.std.specs.Prelude.{◌≡◌, ◌⊎◌, ℕ, ◌≤◌, ⊤, Bool, true, false, List, length, Option, None, Some, IsSome, IsTrue, Result, Ok, Err, IfSome}
use Rattle.std.specs.List.{list_all}
use Rattle.std.specs.BTreeMap.{get}
use Rattle.std.specs.BTreeSet.{BTreeSet, contains}
use Rattle.std.specs.FinMap as fin
use Rattle.dir_names.specs.declared.schema.TypeRow.{TypeRow}
use Rattle.dir_names.specs.Described.{Described}
use Rattle.dir_names.specs.Keys.{DnKeys}
use Rattle.dir_names.specs.Names.{SpelledName}
use Rattle.dir_names.specs.NameKeys.{name_key}
use Rattle.dir_names.specs.Orders.{dn_key_cmp}
use Rattle.dir_names.specs.Names.Limits.{is_rdn_within_limit}
use Rattle.dir_names.specs.Names.Sound.{is_sound_name}
use Rattle.dir_ldif.specs.Records.{Answer, Found}
use Rattle.dir_tree.specs.Content.{Content}
use Rattle.dir_tree.specs.Dir.{Dir, IsClosed, entry_at, has_parent, put_entry}
use Rattle.dir_ldif.specs.Device.{HasFailed}
use Rattle.dir_ldif.specs.declared.faults.StreamFault.{StreamFault}
use Rattle.dir_ldif.specs.declared.faults.StreamFault.TheVariants as stream
use Rattle.dir_tree.specs.WellFormed.{IsSoundEntry, own_part}
use Rattle.dir_tools.specs.CopyOf.{CopyFault, LoadedCopy, with_content, with_record, with_records}
use Rattle.dir_change.specs.declared.refusal.Refusal.{Refusal}
use Rattle.dir_change.specs.declared.refusal.Refusal.TheVariants as refusal
use Rattle.dir_change.specs.declared.result_code.ResultCode.{ResultCode}
use Rattle.dir_change.specs.declared.result_code.ResultCode.TheVariants.{EntryAlreadyExists}
use Rattle.dir_tools.specs.declared.copy.loading.Loading.{Loading}
use Rattle.dir_tools.specs.declared.copy.loading.Waiting.{Waiting}
use Rattle.dir_tools.specs.declared.fault.Cause.TheVariants as cause
use Rattle.dir_tools.specs.declared.fault.Input.TheVariants as input
use Rattle.dir_tools.specs.declared.fault.ToolFault.{ToolFault}
use Rattle.dir_tools.specs.declared.fault.ToolFault.TheVariants as tool

-- what a fault that ends the text of a copy means
abbrev pub copy_fault : StreamFault → ToolFault
copy_fault stream.LineTooLong = tool.BadCopy 0 (cause.Ended stream.LineTooLong)
copy_fault stream.Read = tool.Read input.Copy
copy_fault stream.Memory = tool.Memory
copy_fault stream.Ended = tool.BadCopy 0 (cause.Ended stream.Ended)
copy_fault stream.TooManyTurns = tool.BadCopy 0 (cause.Ended stream.TooManyTurns)
copy_fault stream.BadVersion = tool.BadCopy 0 (cause.Ended stream.BadVersion)
copy_fault stream.BadMark = tool.BadCopy 0 (cause.Ended stream.BadMark)

-- a fault of a record, or out of memory
abbrev pub IsRecordFault : ToolFault → Type 0
IsRecordFault (tool.BadCopy line (cause.Code code)) = ⊤
IsRecordFault (tool.BadCopy line (cause.Fault fault)) = ⊤
IsRecordFault tool.Memory = ⊤
IsRecordFault fault = ⊥

-- the fault is the definition's, unless memory ran out
abbrev pub IsCopyFault : {A : Type 0} → Result A CopyFault → ToolFault → Type 0
IsCopyFault wanted (tool.BadCopy line why) = wanted ≡ Err (line, why)
IsCopyFault wanted tool.Memory = ⊤
IsCopyFault wanted fault = ⊥

-- the entry that waits, or else the one that is there
abbrev pub waiting_or : Option Waiting → Option Content → Option Content
waiting_or None there = there
waiting_or (Some w) there = Some w.entry

-- a directory's entries are those that wait and those of a closed directory
abbrev pub IsMadeOf : Dir → (DnKeys → Option Waiting) → Dir → Type 0
IsMadeOf d waiting standing =
    (d.suffix ≡ standing.suffix) × IsClosed standing × ((k : DnKeys) → entry_at d k ≡ waiting_or (waiting k) (entry_at standing k))

-- where an entry waits there is no other, and it has the line of its record
abbrev pub AllWait : LoadedCopy → (DnKeys → Option Waiting) → Dir → Type 0
AllWait m waiting standing = (k : DnKeys) (w : Waiting) → waiting k ≡ Some w → (entry_at standing k ≡ None) × (fin.get m.lines k ≡ Some w.line)

-- whether there is a key and the set has it
abbrev pub is_among : BTreeSet DnKeys → Option DnKeys → Bool
is_among keys None = false
is_among keys (Some k) = contains dn_key_cmp keys k

-- an entry is put below its parent, or comes back
abbrev pub IsPut : DnKeys → Content → Dir → Dir → Option Content → Type 0
IsPut k e old new None = IsTrue (has_parent old k) × (new ≡ put_entry old k e)
IsPut k e old new (Some back) = (back ≡ e) × (has_parent old k ≡ false) × (new ≡ old)

-- there is an entry already, or memory ran out
abbrev pub IsNotPut : ℕ → Option Content → ToolFault → Type 0
IsNotPut line there fault = (fault ≡ tool.Memory) ⊎ ((fault ≡ tool.BadCopy line (cause.Code EntryAlreadyExists)) × IsSome there)

-- what a refusal of an entry means for the record at this line
abbrev pub fault_of_refusal : ℕ → Refusal → ToolFault
fault_of_refusal line (refusal.Code code) = tool.BadCopy line (cause.Code code)
fault_of_refusal line refusal.Memory = tool.Memory

-- an entry that is refused is not made: a place that is taken is told before that
abbrev pub IsNotMade : ℕ → Option Content → Refusal → ToolFault → Type 0
IsNotMade line (Some e) why fault = fault ≡ tool.BadCopy line (cause.Code EntryAlreadyExists)
IsNotMade line None why fault = fault ≡ fault_of_refusal line why

-- a copy with an entry more, of the record at this line
abbrev pub with_put : LoadedCopy → ℕ → DnKeys → Content → LoadedCopy
with_put m line k e = record { entries = put_entry m.entries k e; lines = fin.insert m.lines k line }

-- an entry is sound, at its place and within the limits
abbrev pub IsSoundAt : List TypeRow → DnKeys → DnKeys → Content → Type 0
IsSoundAt rows suffix k e =
    IsSoundEntry rows e × (name_key rows e.own ≡ Some (own_part suffix k)) × (length k ≤ 64) × (is_sound_name e.own ≡ true) × (list_all is_rdn_within_limit e.own ≡ true)

abbrev pub AreSoundInPlace : List TypeRow → Dir → Type 0
AreSoundInPlace rows d = (k : DnKeys) (e : Content) → entry_at d k ≡ Some e → IsSoundAt rows d.suffix k e

module _ {D : Type 0} where
  -- the entries of the records so far are in the directory, or wait with the lines of their records
  abbrev pub IsLoaded : (D → Dir) → LoadedCopy → Loading D → Type 0
  IsLoaded state m loading =
      IsMadeOf m.entries (get dn_key_cmp loading.waiting) (state loading.directory) × AllWait m (get dn_key_cmp loading.waiting) (state loading.directory)

  -- the records give the entries that are in the directory or wait
  abbrev pub LoadsTo : (D → Dir) → Result LoadedCopy CopyFault → Loading D → Type 0
  LoadsTo state taken loading = (m : LoadedCopy) × (taken ≡ Ok m) × IsLoaded state m loading

  -- whatever was read before, an entry of this key is refused with this code, whatever it holds
  abbrev pub RefusesPlace : (D → Dir) → Loading D → DnKeys → ResultCode → Type 0
  RefusesPlace state loading k code =
      (rows : List TypeRow) (m : LoadedCopy) (line : ℕ) (name : SpelledName) (lines : List (Described × List ℕ)) → IsLoaded state m loading → with_content rows m line name lines (Some k) ≡ Err (line, cause.Code code)

  -- what taking a record answers: more are always wanted, and its entry is in the directory or waits; or the copy has this fault
  abbrev pub TakesRecord : (D → Dir) → List TypeRow → Found → Loading D → Result Bool ToolFault → Loading D → Type 0
  TakesRecord state rows found old (Ok true) new =
      ((state new.directory).suffix ≡ (state old.directory).suffix)
      × ((m : LoadedCopy) → IsLoaded state m old → LoadsTo state (with_record rows m found.0 found.1) new)
  TakesRecord state rows found old (Ok false) new = ⊥
  TakesRecord state rows found old (Err fault) new =
      IsRecordFault fault × ((m : LoadedCopy) → IsLoaded state m old → IsCopyFault (with_record rows m found.0 found.1) fault)

  -- whatever was read before, so do the answers that were given
  abbrev pub LoadsOver : (D → Dir) → List TypeRow → Option (List Answer) → Loading D → Loading D → Type 0
  LoadsOver state rows given old new =
      (m : LoadedCopy) → IsLoaded state m old → IfSome given (λ answers. LoadsTo state (with_records rows m answers) new)

  -- whatever was read before, the answers that were given come to this fault first; or the reader failed, or memory ran out
  abbrev pub StopsLoading : (D → Dir) → List TypeRow → Option (List Answer) → ℕ → ℕ → Loading D → ToolFault → Type 0
  StopsLoading state rows given failures failures' old (tool.BadCopy line (cause.Ended stream.TooManyTurns)) = line ≡ 0
  StopsLoading state rows given failures failures' old (tool.BadCopy line why) =
      (m : LoadedCopy) → IsLoaded state m old → IfSome given (λ answers. with_records rows m answers ≡ Err (line, why))
  StopsLoading state rows given failures failures' old (tool.Read input.Copy) = HasFailed failures failures'
  StopsLoading state rows given failures failures' old tool.Memory = ⊤
  StopsLoading state rows given failures failures' old fault = ⊥

  -- whatever was read before, sound entries stay sound
  abbrev pub KeepsSound : (D → Dir) → List TypeRow → Loading D → Loading D → Type 0
  KeepsSound state rows old new =
      (m : LoadedCopy) → IsLoaded state m old → (n : LoadedCopy) × IsLoaded state n new × (AreSoundInPlace rows m.entries → AreSoundInPlace rows n.entries)
