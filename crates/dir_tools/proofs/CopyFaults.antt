-- Why a copy is not read, in the words of its definition.
use Rattle.std.proofs.Common.{◌≡◌, ℕ, true, false, not, List, [], ◌∷◌, ◌++◌, Option, None, Some, is_some, Result, Ok, Err, IfErr, IfSome, Bor, inl, inr, refl, ap, subst, sym, ◌∙◌, true≢false}
use Rattle.std.specs.Option.{option_copied, option_map}
use Rattle.dir_names.specs.declared.schema.TypeRow.{TypeRow}
use Rattle.dir_names.specs.Described.{Described}
use Rattle.dir_names.specs.Keys.{DnKeys}
use Rattle.dir_names.specs.Names.{SpelledName}
use Rattle.dir_ldif.specs.declared.faults.StreamFault.{StreamFault}
use Rattle.dir_ldif.specs.declared.faults.StreamFault.TheVariants as stream
use Rattle.dir_ldif.specs.declared.reader.RecordReader.{RecordReader}
use Rattle.dir_ldif.specs.Reader.{answers_to_come, source_of}
use Rattle.dir_ldif.specs.Records.{Answer, Found, all_found, records_of}
use Rattle.dir_tree.specs.Content.{Content}
use Rattle.dir_tree.specs.Dir.{Dir, entry_at}
use Rattle.dir_tree.specs.NewEntry.{IsEntryFaultOf as FailsToMake, new_entry}
use Rattle.dir_tree.specs.declared.fault.EntryFault.{EntryFault}
use Rattle.dir_tree.specs.declared.fault.EntryFault.TheVariants as entry
use Rattle.dir_tree.specs.SpelledNames.{own_rdns}
use Rattle.dir_change.specs.declared.refusal.Refusal.{Refusal}
use Rattle.dir_change.specs.declared.refusal.Refusal.TheVariants as refusal
use Rattle.dir_change.specs.declared.result_code.ResultCode.{ResultCode}
use Rattle.dir_change.specs.declared.result_code.ResultCode.TheVariants.{NoSuchObject, EntryAlreadyExists}
use Rattle.dir_change.specs.Refusals.{code_of, entry_refusal}
use Rattle.dir_tools.specs.declared.copy.loading.Loading.{Loading}
use Rattle.dir_tools.specs.declared.copy.loading.Waiting.{Waiting}
use Rattle.dir_tools.specs.declared.fault.Cause.{Cause}
use Rattle.dir_tools.specs.declared.fault.Cause.TheVariants as cause
use Rattle.dir_tools.specs.declared.fault.Input.TheVariants as input
use Rattle.dir_tools.specs.declared.fault.ToolFault.{ToolFault}
use Rattle.dir_tools.specs.declared.fault.ToolFault.TheVariants as tool
use Rattle.dir_tools.specs.CopyOf.{CopyFault, LoadedCopy, copy_of, empty_copy, refused_if, whole_directory, with_content, with_entry, with_record, with_records}
use Rattle.dir_names.specs.Results.{and_then}
use Rattle.dir_names.specs.Below.{is_at_or_below}
use Rattle.dir_tools.specs.Inside.Loading.{IsCopyFault, IsLoaded, IsMadeOf, IsNotMade, IsNotPut, IsRecordFault, LoadsOver, LoadsTo, StopsLoading, TakesRecord, copy_fault, waiting_or}
use Rattle.dir_tools.specs.CopyFaults.{HasNoEntries, IsCopyFaultCause}
use Rattle.dir_tools.specs.ReadCalls.{FillsReadCalls}
use Rattle.dir_tools.proofs.CopyLemmas.{complete_load, loads_all}
use Rattle.dir_tools.specs.CompleteRecords.{CompleteRecordsLoad, GaveBytesTo, IsReaderFault}
use Rattle.dir_tools.specs.Inside.Taking.{BreaksAfter, TakesAll, TakesUpTo}
use Rattle.dir_tools.proofs.CompleteRecords.{IsReaders}
use Rattle.dir_tools.proofs.TakingLemmas.{gave_complete}
use Rattle.dir_tools.proofs.Small.{known}

-- ---- a record

module _ (rows : List TypeRow) (m : LoadedCopy) (line : ℕ) (name : SpelledName) (lines : List (Described × List ℕ)) where
  pub outside : (key : Option DnKeys) (k : DnKeys) → key ≡ Some k → is_at_or_below k m.entries.suffix ≡ false → with_content rows m line name lines key ≡ Err (line, cause.Code NoSuchObject)
  outside key k named out =
      ap (with_content rows m line name lines) named
      ∙ ap (λ b. refused_if (not b) line NoSuchObject (refused_if (is_some (entry_at m.entries k)) line EntryAlreadyExists (with_entry m line k (new_entry rows (own_rdns m.entries.suffix k name) lines)))) out

  pub taken_place : (key : Option DnKeys) (k : DnKeys) → key ≡ Some k → is_at_or_below k m.entries.suffix ≡ true → is_some (entry_at m.entries k) ≡ true
      → with_content rows m line name lines key ≡ Err (line, cause.Code EntryAlreadyExists)
  taken_place key k named inside there =
      ap (with_content rows m line name lines) named
      ∙ (λ i. refused_if (not (inside i)) line NoSuchObject (refused_if (there i) line EntryAlreadyExists (with_entry m line k (new_entry rows (own_rdns m.entries.suffix k name) lines))))

  pub unmade : (key : Option DnKeys) (k : DnKeys) (fault : EntryFault) (code : ResultCode) → key ≡ Some k → is_at_or_below k m.entries.suffix ≡ true → entry_at m.entries k ≡ None
      → new_entry rows (own_rdns m.entries.suffix k name) lines ≡ Err fault → entry_refusal fault ≡ refusal.Code code → with_content rows m line name lines key ≡ Err (line, cause.Code code)
  unmade key k fault code named inside free makes is =
      ap (with_content rows m line name lines) named
      ∙ (λ i. refused_if (not (inside i)) line NoSuchObject (refused_if (is_some (free i)) line EntryAlreadyExists (with_entry m line k (makes i))))
      ∙ ap (λ r. Err (line, cause.Code (code_of r))) is

some_or : (waiting : Option Waiting) (there : Option Content) → is_some there ≡ true → is_some (waiting_or waiting there) ≡ true
some_or None there h = h
some_or (Some w) there h = refl

-- a place is taken where an entry is, and where one waits
pub some_there : (m : LoadedCopy) (standing : Dir) (waiting : DnKeys → Option Waiting) (k : DnKeys) → IsMadeOf m.entries waiting standing → is_some (entry_at standing k) ≡ true → is_some (entry_at m.entries k) ≡ true
some_there m standing waiting k new_entry there = ap is_some (new_entry.2 k) ∙ some_or (waiting k) (entry_at standing k) there

pub waits_there : (m : LoadedCopy) (standing : Dir) (waiting : DnKeys → Option Waiting) (k : DnKeys) → IsMadeOf m.entries waiting standing → is_some (waiting k) ≡ true → is_some (entry_at m.entries k) ≡ true
waits_there m standing waiting k new_entry there = ap is_some (new_entry.2 k) ∙ by (waiting k) there
  where
    by : (o : Option Waiting) → is_some o ≡ true → is_some (waiting_or o (entry_at standing k)) ≡ true
    by None h = absurd (cc)
    by (Some w) h = refl

pub some_copied : {A : Type 0} (o : Option (Bor A)) → is_some o ≡ true → is_some (option_copied o) ≡ true
some_copied None e = absurd (cc)
some_copied (Some x) e = refl

-- why an entry is not put, as a fault of the copy
pub not_put : (line : ℕ) (there : Option Content) (fault : ToolFault) → IsNotPut line there fault → IsRecordFault fault
not_put line there fault (inl e) = subst IsRecordFault (sym e) tt
not_put line there fault (inr h) = subst IsRecordFault (sym h.0) tt

pub not_put_at : {A : Type 0} (wanted : Result A CopyFault) (line : ℕ) (there : Option Content) (fault : ToolFault) → IsNotPut line there fault → (is_some there ≡ true → wanted ≡ Err (line, cause.Code EntryAlreadyExists)) → IsCopyFault wanted fault
not_put_at wanted line there fault (inl e) taken = subst (IsCopyFault wanted) (sym e) tt
not_put_at wanted line there fault (inr h) taken = subst (IsCopyFault wanted) (sym h.0) (taken h.1)

-- why an entry is not made, as a fault of the copy
pub not_made : (line : ℕ) (there : Option Content) (why : Refusal) (fault : ToolFault) → IsNotMade line there why fault → IsRecordFault fault
not_made line (Some e) why fault is = subst IsRecordFault (sym is) tt
not_made line None (refusal.Code code) fault is = subst IsRecordFault (sym is) tt
not_made line None refusal.Memory fault is = subst IsRecordFault (sym is) tt

pub not_made_at : {A : Type 0} (wanted : Result A CopyFault) (line : ℕ) (there : Option Content) (why : Refusal) (fault : ToolFault) → IsNotMade line there why fault
    → (is_some there ≡ true → wanted ≡ Err (line, cause.Code EntryAlreadyExists)) → (there ≡ None → (code : ResultCode) → why ≡ refusal.Code code → wanted ≡ Err (line, cause.Code code))
    → IsCopyFault wanted fault
not_made_at wanted line (Some e) why fault is taken fails = subst (IsCopyFault wanted) (sym is) (taken refl)
not_made_at wanted line None (refusal.Code code) fault is taken fails = subst (IsCopyFault wanted) (sym is) (fails refl code refl)
not_made_at wanted line None refusal.Memory fault is taken fails = subst (IsCopyFault wanted) (sym is) tt

pub not_free : {A : Type 0} (there : Option A) {P : Type 0} → there ≡ None → is_some there ≡ true → P
not_free there {P} none h = absurd (true≢false (sym h ∙ ap is_some none))

-- a fault of an entry, but out of memory, is the definition's
pub makes_none : (fault : EntryFault) (code : ResultCode) (wanted : Result Content EntryFault) → entry_refusal fault ≡ refusal.Code code → FailsToMake fault wanted → wanted ≡ Err fault
makes_none entry.BadValue code wanted is fails = fails
makes_none entry.Twice code wanted is fails = fails
makes_none entry.NotNamed code wanted is fails = fails
makes_none entry.Single code wanted is fails = fails
makes_none entry.Memory code wanted is fails = absurd (cc)

-- ---- over the records that are taken

module _ {D : Type 0} (state : D → Dir) (rows : List TypeRow) (first : Option (List Answer)) (begun : Loading D) where
  broken : (fault : ToolFault) (loading : Loading D) (line : ℕ) (why : Cause) (upto : TakesUpTo rows (TakesRecord state rows) (Err fault) first begun loading)
      → ((m : LoadedCopy) → IsLoaded state m upto.2 → with_record rows m upto.1.0 upto.1.1 ≡ Err (line, why))
      → (start : LoadedCopy) → IsLoaded state start begun → IfSome first (λ answers. with_records rows start answers ≡ Err (line, why))
  broken fault loading line why upto fails start holds =
      let all = loads_all state rows upto.0 begun upto.2 upto.3 start holds in
      known first (λ answers given. ap (with_records rows start) given.1 ∙ all.3 (Ok upto.1 ∷ given.0) ∙ ap (λ r. and_then r (λ n. with_records rows n given.0)) (fails all.0 all.1)) upto.6

  -- the first record that can't be taken
  pub stops_at : (failures failures' : ℕ) (fault : ToolFault) (loading : Loading D) → TakesUpTo rows (TakesRecord state rows) (Err fault) first begun loading → StopsLoading state rows first failures failures' begun fault
  stops_at failures failures' (tool.BadCopy line (cause.Code code)) loading upto = broken (tool.BadCopy line (cause.Code code)) loading line (cause.Code code) upto upto.4.1
  stops_at failures failures' (tool.BadCopy line (cause.Fault fault)) loading upto = broken (tool.BadCopy line (cause.Fault fault)) loading line (cause.Fault fault) upto upto.4.1
  stops_at failures failures' (tool.BadCopy line (cause.Ended fault)) loading upto = absurd (upto.4.0)
  stops_at failures failures' (tool.Read input) loading upto = absurd (upto.4.0)
  stops_at failures failures' tool.Memory loading upto = tt
  stops_at failures failures' (tool.Write output) loading upto = absurd (upto.4.0)
  stops_at failures failures' (tool.BadQuestion item) loading upto = absurd (upto.4.0)
  stops_at failures failures' (tool.BadChanges fault) loading upto = absurd (upto.4.0)
  stops_at failures failures' (tool.Config fault) loading upto = absurd (upto.4.0)
  stops_at failures failures' tool.NoEntry loading upto = absurd (upto.4.0)
  stops_at failures failures' (tool.TooFewGroups groups) loading upto = absurd (upto.4.0)

  ended_so : (founds : List Found) (loading : Loading D) (fault : StreamFault) → TakesAll rows (TakesRecord state rows) founds begun loading → IfSome first (λ known. known ≡ all_found founds ++ Err fault ∷ [])
      → (start : LoadedCopy) → IsLoaded state start begun → IfSome first (λ answers. with_records rows start answers ≡ Err (0, cause.Ended fault))
  ended_so founds loading fault takes given start holds =
      let all = loads_all state rows founds begun loading takes start holds in
      known first (λ answers is. ap (with_records rows start) is ∙ all.3 (Err fault ∷ [])) given

of_copy : (fault : StreamFault) → IsReaderFault (copy_fault fault) → IsReaders fault
of_copy stream.Read is = tt
of_copy stream.TooManyTurns is = tt
of_copy stream.LineTooLong is = absurd (is)
of_copy stream.Memory is = absurd (is)
of_copy stream.Ended is = absurd (is)
of_copy stream.BadVersion is = absurd (is)
of_copy stream.BadMark is = absurd (is)

-- a record's fault is not the reader's
pub of_record : (fault : ToolFault) → IsRecordFault fault → IsReaderFault fault → ⊥
of_record (tool.BadCopy line (cause.Code code)) of is = is
of_record (tool.BadCopy line (cause.Fault fault)) of is = is
of_record (tool.BadCopy line (cause.Ended fault)) of is = of
of_record (tool.Read input) of is = of
of_record tool.Memory of is = is
of_record (tool.Write output) of is = of
of_record (tool.BadQuestion item) of is = of
of_record (tool.BadChanges fault) of is = of
of_record (tool.Config fault) of is = of
of_record tool.NoEntry of is = of
of_record (tool.TooFewGroups groups) of is = of

-- the fault of a reader
module _ {D : Type 0} {S : Type 0} (state : D → Dir) (rows : List TypeRow) (left : S → Option (List ℕ)) (failures : S → ℕ) (founds : List Found) (begun loading : Loading D) (first last : RecordReader S) where
  pub loads_blamed : (fault : StreamFault) → TakesAll rows (TakesRecord state rows) founds begun loading → BreaksAfter rows (TakesRecord state rows) left failures founds fault begun first last
      → StopsLoading state rows (answers_to_come left first) (failures (source_of first)) (failures (source_of last)) begun (copy_fault fault)
  loads_blamed stream.LineTooLong takes breaks = ended_so state rows (answers_to_come left first) begun founds loading stream.LineTooLong takes breaks
  loads_blamed stream.BadVersion takes breaks = ended_so state rows (answers_to_come left first) begun founds loading stream.BadVersion takes breaks
  loads_blamed stream.BadMark takes breaks = ended_so state rows (answers_to_come left first) begun founds loading stream.BadMark takes breaks
  loads_blamed stream.Read takes breaks = breaks.0
  loads_blamed stream.Memory takes breaks = tt
  loads_blamed stream.TooManyTurns takes breaks = refl
  loads_blamed stream.Ended takes breaks = absurd (breaks)

  pub loads_settled : (fault : StreamFault) → BreaksAfter rows (TakesRecord state rows) left failures founds fault begun first last → IsReaderFault (copy_fault fault) → (start : LoadedCopy) → IsLoaded state start begun
      → GaveBytesTo left first last (CompleteRecordsLoad rows start)
  loads_settled fault breaks is start holds =
      let gave = gave_complete rows (TakesRecord state rows) left failures founds fault begun first last (of_copy fault is) breaks in
      (gave.0, gave.1, complete_load state rows begun _ gave.2 start holds)

-- ---- the whole copy

module _ {D : Type 0} (state : D → Dir) (rows : List TypeRow) (empty : D) (given : Option (List Answer)) where
  bad_text : (text : Option (List ℕ)) (line : ℕ) (why : Cause) → given ≡ option_map (records_of rows) text
      → IfSome given (λ answers. with_records rows (empty_copy (state empty).suffix) answers ≡ Err (line, why))
      → IfSome text (λ t. copy_of rows (state empty).suffix t ≡ Err (line, why))
  bad_text None line why known h = tt
  bad_text (Some t) line why known h =
      ap (λ r. and_then r whole_directory) (subst (λ o. IfSome o (λ answers. with_records rows (empty_copy (state empty).suffix) answers ≡ Err (line, why))) known h)

  -- a record, or the text's end
  pub blamed_read : (text : Option (List ℕ)) (old : Loading D) (failures failures' : ℕ) (fault : ToolFault) → given ≡ option_map (records_of rows) text
      → (HasNoEntries (state empty) → IsLoaded state (empty_copy (state empty).suffix) old)
      → (fault ≡ tool.BadCopy 0 (cause.Ended stream.TooManyTurns) → IfSome text FillsReadCalls)
      → StopsLoading state rows given failures failures' old fault → IsCopyFaultCause rows (state empty) text failures failures' fault
  blamed_read text old failures failures' (tool.BadCopy line (cause.Code code)) known start long h = λ bare. bad_text text line (cause.Code code) known (h (empty_copy (state empty).suffix) (start bare))
  blamed_read text old failures failures' (tool.BadCopy line (cause.Fault fault)) known start long h = λ bare. bad_text text line (cause.Fault fault) known (h (empty_copy (state empty).suffix) (start bare))
  blamed_read text old failures failures' (tool.BadCopy line (cause.Ended stream.LineTooLong)) known start long h = λ bare. bad_text text line (cause.Ended stream.LineTooLong) known (h (empty_copy (state empty).suffix) (start bare))
  blamed_read text old failures failures' (tool.BadCopy line (cause.Ended stream.BadVersion)) known start long h = λ bare. bad_text text line (cause.Ended stream.BadVersion) known (h (empty_copy (state empty).suffix) (start bare))
  blamed_read text old failures failures' (tool.BadCopy line (cause.Ended stream.BadMark)) known start long h = λ bare. bad_text text line (cause.Ended stream.BadMark) known (h (empty_copy (state empty).suffix) (start bare))
  blamed_read text old failures failures' (tool.BadCopy line (cause.Ended stream.Read)) known start long h = λ bare. bad_text text line (cause.Ended stream.Read) known (h (empty_copy (state empty).suffix) (start bare))
  blamed_read text old failures failures' (tool.BadCopy line (cause.Ended stream.Memory)) known start long h = λ bare. bad_text text line (cause.Ended stream.Memory) known (h (empty_copy (state empty).suffix) (start bare))
  blamed_read text old failures failures' (tool.BadCopy line (cause.Ended stream.Ended)) known start long h = λ bare. bad_text text line (cause.Ended stream.Ended) known (h (empty_copy (state empty).suffix) (start bare))
  blamed_read text old failures failures' (tool.BadCopy line (cause.Ended stream.TooManyTurns)) known start long h = λ bare. so text (long (ap (λ n. tool.BadCopy n (cause.Ended stream.TooManyTurns)) h))
    where
      so : (o : Option (List ℕ)) → IfSome o FillsReadCalls → IfSome o (λ t. (line ≡ 0) × FillsReadCalls t)
      so None l = tt
      so (Some t) l = (h, l)
  blamed_read text old failures failures' (tool.Read input.Copy) known start long h = h
  blamed_read text old failures failures' (tool.Read input.Changes) known start long h = absurd (h)
  blamed_read text old failures failures' (tool.Read input.Config) known start long h = absurd (h)
  blamed_read text old failures failures' tool.Memory known start long h = tt
  blamed_read text old failures failures' (tool.Write output) known start long h = absurd (h)
  blamed_read text old failures failures' (tool.BadQuestion item) known start long h = absurd (h)
  blamed_read text old failures failures' (tool.BadChanges fault) known start long h = absurd (h)
  blamed_read text old failures failures' (tool.Config fault) known start long h = absurd (h)
  blamed_read text old failures failures' tool.NoEntry known start long h = absurd (h)
  blamed_read text old failures failures' (tool.TooFewGroups groups) known start long h = absurd (h)

  bad_whole : (text : Option (List ℕ)) (old new : Loading D) (line : ℕ) (why : Cause) → given ≡ option_map (records_of rows) text → LoadsOver state rows given old new
      → IsLoaded state (empty_copy (state empty).suffix) old → ((m : LoadedCopy) → IsLoaded state m new → whole_directory m ≡ Err (line, why)) → IfSome text (λ t. copy_of rows (state empty).suffix t ≡ Err (line, why))
  bad_whole None old new line why known leads start is = tt
  bad_whole (Some t) old new line why known leads start is =
      let led : LoadsTo state (with_records rows (empty_copy (state empty).suffix) (records_of rows t)) new =
      subst (λ o. IfSome o (λ answers. LoadsTo state (with_records rows (empty_copy (state empty).suffix) answers) new)) known (leads (empty_copy (state empty).suffix) start) in
      ap (λ r. and_then r whole_directory) led.1 ∙ is led.0 led.2

  -- a parent that is missing
  blamed_whole : (text : Option (List ℕ)) (old new : Loading D) (failures failures' : ℕ) (fault : ToolFault) → given ≡ option_map (records_of rows) text
      → LoadsOver state rows given old new → (HasNoEntries (state empty) → IsLoaded state (empty_copy (state empty).suffix) old)
      → IsRecordFault fault → ((m : LoadedCopy) → IsLoaded state m new → IsCopyFault (whole_directory m) fault) → IsCopyFaultCause rows (state empty) text failures failures' fault
  blamed_whole text old new failures failures' (tool.BadCopy line (cause.Code code)) known leads start of why = λ bare. bad_whole text old new line (cause.Code code) known leads (start bare) why
  blamed_whole text old new failures failures' (tool.BadCopy line (cause.Fault fault)) known leads start of why = λ bare. bad_whole text old new line (cause.Fault fault) known leads (start bare) why
  blamed_whole text old new failures failures' (tool.BadCopy line (cause.Ended fault)) known leads start of why = absurd (of)
  blamed_whole text old new failures failures' (tool.Read input) known leads start of why = absurd (of)
  blamed_whole text old new failures failures' tool.Memory known leads start of why = tt
  blamed_whole text old new failures failures' (tool.Write output) known leads start of why = absurd (of)
  blamed_whole text old new failures failures' (tool.BadQuestion item) known leads start of why = absurd (of)
  blamed_whole text old new failures failures' (tool.BadChanges fault) known leads start of why = absurd (of)
  blamed_whole text old new failures failures' (tool.Config fault) known leads start of why = absurd (of)
  blamed_whole text old new failures failures' tool.NoEntry known leads start of why = absurd (of)
  blamed_whole text old new failures failures' (tool.TooFewGroups groups) known leads start of why = absurd (of)

  pub finish_blamed : {A : Type 0} (r : Result A ToolFault) (text : Option (List ℕ)) (old new : Loading D) (failures failures' : ℕ) → given ≡ option_map (records_of rows) text
      → LoadsOver state rows given old new → (HasNoEntries (state empty) → IsLoaded state (empty_copy (state empty).suffix) old)
      → IfErr r IsRecordFault → IfErr r (λ fault. (m : LoadedCopy) → IsLoaded state m new → IsCopyFault (whole_directory m) fault) → IfErr r (IsCopyFaultCause rows (state empty) text failures failures')
  finish_blamed (Ok x) text old new failures failures' known leads start of why = tt
  finish_blamed (Err fault) text old new failures failures' known leads start of why = blamed_whole text old new failures failures' fault known leads start of why
