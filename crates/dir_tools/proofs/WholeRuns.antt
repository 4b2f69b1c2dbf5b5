-- A whole run over texts, and the run that takes it back.
use Rattle.std.proofs.Common.{◌≡◌, ℕ, List, [], length, Option, None, Some, Result, Ok, Err, refl, sym, ap, subst, ◌∙◌}
use Rattle.dir_names.specs.Keys.{DnKeys}
use Rattle.dir_names.specs.Results.{and_then}
use Rattle.dir_ldif.specs.declared.faults.StreamFault.{StreamFault}
use Rattle.dir_ldif.specs.SoundRecords.{AreSoundAnswers, FirstRecordsAreSound, IsBytes, RecordsAreSound}
use Rattle.dir_tree.specs.Dir.{Dir}
use Rattle.dir_tree.specs.WellFormed.{IsWellFormed, IsWithinLimits}
use Rattle.dir_change.specs.Runs.{RunsStayInOrder, StaysInOrder}
use Rattle.dir_names.specs.declared.schema.TypeRow.{TypeRow}
use Rattle.dir_tools.specs.declared.fault.Cause.{Cause}
use Rattle.dir_tools.specs.declared.fault.Item.TheVariants.{Suffix}
use Rattle.dir_tools.specs.declared.fault.ToolFault.{ToolFault}
use Rattle.dir_tools.specs.declared.fault.ToolFault.TheVariants.{BadChanges, BadCopy, BadQuestion, TooFewGroups}
use Rattle.dir_tools.specs.declared.run.ModifyOptions.{ModifyOptions}
use Rattle.dir_tools.specs.declared.round_trip.RunInMemory.{RunInMemory}
use Rattle.dir_tools.specs.declared.run.Summary.{Summary}
use Rattle.dir_tools.specs.Canonical.{canonical_of}
use Rattle.dir_tools.specs.CopyOf.{CopyFault, copy_of}
use Rattle.dir_tools.specs.Headline.{CanonicalCopies, GoesBackToAnyPoint, Headline, IsCanonicalCopy, IsTakenBack, RunTerms, RunOutput, UndosAreUndone, WritesCanonicalCopy, canonical_copy_of, directory_of, ok_or_bad_changes, ok_or_bad_copy, ok_or_bad_suffix, ok_or_too_few, output_at, output_of, records_in, terms, too_few_in}
use Rattle.dir_tools.specs.Inside.RunInMemory.{IsRunInMemory}
use Rattle.dir_tools.specs.Laws.{CanonicalTextsReadBack, CopiesAreSound, LeadsBackTo, RunsAcceptChanges, WrittenRunsAreTakenBack, WrittenRunsGoBack}
use Rattle.dir_tools.specs.RunOf.{HasAccepted, RunEnd, groups_in, records_at, run_of}
use Rattle.dir_tools.specs.Suffix.{suffix_of}
use Rattle.dir_tools.proofs.CutRuns.{leads_back, point, to_come}
use Rattle.dir_tools.proofs.SoundCopies.{copy_suffix}
use Rattle.dir_tools.proofs.SuffixLemmas.{named_suffix}

-- ---- the whole run, part by part

module _ (q : RunTerms) (copy changes : List ℕ) where
  abbrev from_directory : Dir → Result RunOutput ToolFault
  from_directory first = and_then (ok_or_bad_changes (run_of q.rows q.options.go_on first (records_in q changes))) (λ ran. ok_or_too_few (too_few_in q changes ran) (output_at q ran))

  abbrev from_suffix : Option DnKeys → Result Dir ToolFault
  from_suffix key = and_then (ok_or_bad_suffix key) (λ k. ok_or_bad_copy (copy_of q.rows k copy))

  pub bad_suffix : suffix_of q.rows q.suffix ≡ None → output_of q copy changes ≡ Err (BadQuestion Suffix)
  bad_suffix none = ap (λ key. and_then (from_suffix key) from_directory) none

  module _ (key : DnKeys) (named : suffix_of q.rows q.suffix ≡ Some key) where
    read_at : (r : Result Dir CopyFault) → copy_of q.rows key copy ≡ r → directory_of q copy ≡ ok_or_bad_copy r
    read_at r is = ap from_suffix named ∙ ap ok_or_bad_copy is

    pub bad_copy : (line : ℕ) (why : Cause) → copy_of q.rows key copy ≡ Err (line, why) → output_of q copy changes ≡ Err (BadCopy line why)
    bad_copy line why is = ap (λ r. and_then r from_directory) (read_at (Err (line, why)) is)

    module _ (first : Dir) (reads : copy_of q.rows key copy ≡ Ok first) where
      pub read_whole : directory_of q copy ≡ Ok first
      read_whole = read_at (Ok first) reads

      pub bad_changes : (fault : StreamFault) → run_of q.rows q.options.go_on first (records_in q changes) ≡ Err fault → output_of q copy changes ≡ Err (BadChanges fault)
      bad_changes fault is = ap (λ r. and_then r from_directory) read_whole ∙ ap (λ r. and_then (ok_or_bad_changes r) (λ ran. ok_or_too_few (too_few_in q changes ran) (output_at q ran))) is

      whole_or_not : (ran : RunEnd) (o : Option ℕ) → run_of q.rows q.options.go_on first (records_in q changes) ≡ Ok ran → too_few_in q changes ran ≡ o → output_of q copy changes ≡ ok_or_too_few o (output_at q ran)
      whole_or_not ran o is few =
          ap (λ r. and_then r from_directory) read_whole ∙ ap (λ r. and_then (ok_or_bad_changes r) (λ n. ok_or_too_few (too_few_in q changes n) (output_at q n))) is ∙ ap (λ f. ok_or_too_few f (output_at q ran)) few

      pub whole_run : (ran : RunEnd) → run_of q.rows q.options.go_on first (records_in q changes) ≡ Ok ran → too_few_in q changes ran ≡ None → output_of q copy changes ≡ Ok (output_at q ran)
      whole_run ran is enough = whole_or_not ran None is enough

      pub too_few : (ran : RunEnd) (groups : ℕ) → run_of q.rows q.options.go_on first (records_in q changes) ≡ Ok ran → too_few_in q changes ran ≡ Some groups → output_of q copy changes ≡ Err (TooFewGroups groups)
      too_few ran groups is few = whole_or_not ran (Some groups) is few

-- ---- what an output says of its run

pub record Parts (q : RunTerms) (copy changes : List ℕ) (output : RunOutput) : Type 0 where
  pub key : DnKeys
  pub first : Dir
  pub ran : RunEnd
  pub named : suffix_of q.rows q.suffix ≡ Some key
  pub reads : copy_of q.rows key copy ≡ Ok first
  pub runs : run_of q.rows q.options.go_on first (records_in q changes) ≡ Ok ran
  pub output_is : output_at q ran ≡ output

pub parts_of : (q : RunTerms) (copy changes : List ℕ) (output : RunOutput) → output_of q copy changes ≡ Ok output → Parts q copy changes output
parts_of q copy changes output is = at_suffix (suffix_of q.rows q.suffix) refl is
  where
    at_end : (key : DnKeys) (first : Dir) (ran : RunEnd) → suffix_of q.rows q.suffix ≡ Some key → copy_of q.rows key copy ≡ Ok first → run_of q.rows q.options.go_on first (records_in q changes) ≡ Ok ran
        → (o : Option ℕ) → ok_or_too_few o (output_at q ran) ≡ Ok output → Parts q copy changes output
    at_end key first ran named reads runs None h = record { key = key; first = first; ran = ran; named = named; reads = reads; runs = runs; output_is = cc }
    at_end key first ran named reads runs (Some groups) h = absurd (cc)

    at_run : (key : DnKeys) (first : Dir) → suffix_of q.rows q.suffix ≡ Some key → copy_of q.rows key copy ≡ Ok first → (r : Result RunEnd StreamFault) → run_of q.rows q.options.go_on first (records_in q changes) ≡ r
        → and_then (ok_or_bad_changes r) (λ ran. ok_or_too_few (too_few_in q changes ran) (output_at q ran)) ≡ Ok output → Parts q copy changes output
    at_run key first named reads (Err fault) runs h = absurd (cc)
    at_run key first named reads (Ok ran) runs h = at_end key first ran named reads runs (too_few_in q changes ran) h

    at_copy : (key : DnKeys) → suffix_of q.rows q.suffix ≡ Some key → (r : Result Dir CopyFault) → copy_of q.rows key copy ≡ r → and_then (ok_or_bad_copy r) (from_directory q copy changes) ≡ Ok output → Parts q copy changes output
    at_copy key named (Ok first) reads h = at_run key first named reads (run_of q.rows q.options.go_on first (records_in q changes)) refl h
    at_copy key named (Err fault) reads h = absurd (cc)

    at_suffix : (o : Option DnKeys) → suffix_of q.rows q.suffix ≡ o → and_then (from_suffix q copy changes o) (from_directory q copy changes) ≡ Ok output → Parts q copy changes output
    at_suffix None named h = absurd (cc)
    at_suffix (Some key) named h = at_copy key named (copy_of q.rows key copy) refl h

-- the suffix is that of the directory at which the run began
named_of : (q : RunTerms) (copy changes : List ℕ) (output : RunOutput) (parts : Parts q copy changes output) → suffix_of q.rows q.suffix ≡ Some parts.first.suffix
named_of q copy changes output parts = parts.named ∙ ap Some (sym (copy_suffix q.rows parts.key copy parts.first parts.reads))

-- the records that a run takes are sound
pub sound_at : RecordsAreSound → FirstRecordsAreSound → (rows : List TypeRow) (last : Option ℕ) (text : List ℕ) → IsBytes text → AreSoundAnswers rows (records_at rows last text)
sound_at records firsts rows None text bytes = records rows text bytes
sound_at records firsts rows (Some groups) text bytes = firsts rows groups text bytes

-- ---- the run back

pub gives_back : (q : RunTerms) (suffix : DnKeys) (ran : RunEnd) → suffix_of q.rows q.suffix ≡ Some suffix → (options : ModifyOptions) (there : Dir) → LeadsBackTo q.rows suffix ran options.go_on options.last there
    → IsTakenBack q (output_at q ran) options (canonical_of there)
gives_back q suffix ran named options there leads = record {
  back = output_at (terms q.rows q.suffix options) leads.back;
  runs = whole_run (terms q.rows q.suffix options) (output_at q ran).texts.out (output_at q ran).texts.undo suffix named ran.end leads.copied leads.back leads.runs leads.enough;
  refuses_nothing = ap length leads.refuses_nothing;
  gives_first = ap canonical_of leads.ends_there;
}

-- by the whole undo text
pub gives_whole_back : (q : RunTerms) (first : Dir) (ran : RunEnd) → suffix_of q.rows q.suffix ≡ Some first.suffix → (options : ModifyOptions) → options.last ≡ None
    → LeadsBackTo q.rows first.suffix ran options.go_on None first → IsTakenBack q (output_at q ran) options (canonical_of first)
gives_whole_back q first ran named options whole leads =
    gives_back q first.suffix ran named options first (subst (λ l. LeadsBackTo q.rows first.suffix ran options.go_on l first) (sym whole) leads)

-- by its first groups
pub gives_back_by : (q : RunTerms) (first there : Dir) (ran : RunEnd) (k : ℕ) → suffix_of q.rows q.suffix ≡ Some first.suffix → (options : ModifyOptions) → options.last ≡ Some k
    → LeadsBackTo q.rows first.suffix ran options.go_on (Some k) there → IsTakenBack q (output_at q ran) options (canonical_of there)
gives_back_by q first there ran k named options last leads =
    gives_back q first.suffix ran named options there (subst (λ l. LeadsBackTo q.rows first.suffix ran options.go_on l there) (sym last) leads)

-- ---- the theorems

-- the copy of an output's run is that of a sound directory, and the records that it took are sound
module _ (records : RecordsAreSound) (firsts : FirstRecordsAreSound) (copies : CopiesAreSound) (q : RunTerms) (copy changes : List ℕ) (output : RunOutput) (copy_bytes : IsBytes copy) (changes_bytes : IsBytes changes)
    (parts : Parts q copy changes output) where
  named_first : suffix_of q.rows q.suffix ≡ Some parts.first.suffix
  named_first = named_of q copy changes output parts

  in_order : IsWellFormed q.rows parts.first × IsWithinLimits parts.first
  in_order = copies q.rows parts.key copy parts.first copy_bytes (named_suffix q.rows q.suffix parts.key parts.named) parts.reads

  sound_in : AreSoundAnswers q.rows (records_in q changes)
  sound_in = sound_at records firsts q.rows q.options.last changes changes_bytes

abbrev IsTaken : RunTerms → List ℕ → RunOutput → Type 0
IsTaken q copy output = (first : List ℕ) × (canonical_copy_of q copy ≡ Ok first) × ((options : ModifyOptions) → options.last ≡ None → IsTakenBack q output options first)

pub headline : RecordsAreSound → FirstRecordsAreSound → CopiesAreSound → RunsAcceptChanges → WrittenRunsAreTakenBack → Headline
headline records firsts copies accept taken q copy changes output copy_bytes changes_bytes is =
    let p = parts_of q copy changes output is in
    let order = in_order records firsts copies q copy changes output copy_bytes changes_bytes p in
    let named = named_first records firsts copies q copy changes output copy_bytes changes_bytes p in
    let accepted = accept q.rows q.options.go_on p.first (records_in q changes) p.ran (sound_in records firsts copies q copy changes output copy_bytes changes_bytes p) p.runs in
    let back = (taken q.rows p.first p.ran order.0 order.1 accepted).1 in (
      canonical_of p.first,
      ap (λ r. and_then r (λ d. Ok (canonical_of d))) (read_whole q copy changes p.key p.named p.first p.reads),
      λ options whole. subst (λ (o : RunOutput). IsTakenBack q o options (canonical_of p.first)) p.output_is (gives_whole_back q p.first p.ran named options whole (back options.go_on)),
    )

pub to_any_point : RecordsAreSound → FirstRecordsAreSound → CopiesAreSound → WrittenRunsGoBack → GoesBackToAnyPoint
to_any_point records firsts copies law q copy changes output copy_bytes changes_bytes is =
    let p = parts_of q copy changes output is in
    let order = in_order records firsts copies q copy changes output copy_bytes changes_bytes p in
    let named = named_first records firsts copies q copy changes output copy_bytes changes_bytes p in
    let sound = sound_in records firsts copies q copy changes output copy_bytes changes_bytes p in record {
      first = p.first;
      ran = p.ran;
      begins = read_whole q copy changes p.key p.named p.first p.reads;
      runs = p.runs;
      output_is = sym p.output_is;
      goes_back = λ k few fits.
          let cut = point law q.rows q.options.go_on p.first (records_in q changes) p.ran sound p.runs order.0 order.1 k few in (
            cut.earlier.end,
            record { taken = cut.taken; earlier = cut.earlier; runs = cut.runs; ends = refl; to_come = to_come law q.rows q.options.go_on p.first (records_in q changes) p.ran sound p.runs order.0 order.1 k few },
            λ options last. subst (λ (o : RunOutput). IsTakenBack q o options (canonical_of cut.earlier.end)) p.output_is
                (gives_back_by q p.first cut.earlier.end p.ran k named options last
                (leads_back law q.rows q.options.go_on p.first (records_in q changes) p.ran sound p.runs order.0 order.1 k few fits options.go_on)),
          );
    }

-- ---- the undo of an undo

same_directory : (q : RunTerms) (copy : List ℕ) (d e : Dir) → directory_of q copy ≡ Ok d → directory_of q copy ≡ Ok e → d ≡ e
same_directory q copy d e is other = cc

-- a run from a sound directory
module _ (records : RecordsAreSound) (firsts : FirstRecordsAreSound) (accept : RunsAcceptChanges) (q : RunTerms) (copy changes : List ℕ) (output : RunOutput) (changes_bytes : IsBytes changes)
    (parts : Parts q copy changes output) (well : IsWellFormed q.rows parts.first) (within : IsWithinLimits parts.first) where
  has_accepted : HasAccepted q.rows parts.first parts.ran.outcomes parts.ran.end
  has_accepted = accept q.rows q.options.go_on parts.first (records_in q changes) parts.ran (sound_at records firsts q.rows q.options.last changes changes_bytes) parts.runs

  -- it is taken back to the text of this directory
  taken_back : WrittenRunsAreTakenBack → (options : ModifyOptions) → options.last ≡ None → IsTakenBack q output options (canonical_of parts.first)
  taken_back taken options whole = subst (λ (o : RunOutput). IsTakenBack q o options (canonical_of parts.first)) parts.output_is
      (gives_whole_back q parts.first parts.ran (named_of q copy changes output parts) options whole ((taken q.rows parts.first parts.ran well within has_accepted).1 options.go_on))

  -- it ends at a sound one of the same suffix, whose text is the new copy
  canonical_copy : CanonicalTextsReadBack → RunsStayInOrder → WritesCanonicalCopy q output
  canonical_copy canonical stay suffix options same =
      let was = has_accepted in
      let end = parts.ran.end in
      let stays : StaysInOrder q.rows parts.first (record { end = end; groups = groups_in parts.ran.outcomes }) = subst (StaysInOrder q.rows parts.first) was.2 (stay q.rows parts.first was.0 well within was.1).0 in
      let out_is : output.texts.out ≡ canonical_of end = ap (λ (o : RunOutput). o.texts.out) (sym parts.output_is) in
      let named : suffix_of q.rows suffix ≡ Some end.suffix = same ∙ named_of q copy changes output parts ∙ ap Some (sym stays.2) in
      let reads : copy_of q.rows end.suffix output.texts.out ≡ Ok end = ap (copy_of q.rows end.suffix) out_is ∙ canonical q.rows end stays.0 stays.1 in record {
        first = end;
        begins = read_whole (terms q.rows suffix options) output.texts.out changes end.suffix named end reads;
        text = sym out_is;
        well_formed = stays.0;
        within_limits = stays.1;
      }

-- the directory of a canonical copy is the one that a run over it begins at
module _ (q : RunTerms) (copy changes : List ℕ) (output : RunOutput) (parts : Parts q copy changes output) (c : IsCanonicalCopy q copy) where
  begins_there : c.first ≡ parts.first
  begins_there = same_directory q copy c.first parts.first c.begins (read_whole q copy changes parts.key parts.named parts.first parts.reads)

  is_well_formed : IsWellFormed q.rows parts.first
  is_well_formed = subst (IsWellFormed q.rows) begins_there c.well_formed

  is_within_limits : IsWithinLimits parts.first
  is_within_limits = subst IsWithinLimits begins_there c.within_limits

pub undone : RecordsAreSound → FirstRecordsAreSound → RunsAcceptChanges → WrittenRunsAreTakenBack → UndosAreUndone
undone records firsts accept taken q copy changes output c changes_bytes is options whole =
    let p = parts_of q copy changes output is in
    subst (IsTakenBack q output options) (ap canonical_of (sym (begins_there q copy changes output p c)) ∙ c.text)
    (taken_back records firsts accept q copy changes output changes_bytes p (is_well_formed q copy changes output p c) (is_within_limits q copy changes output p c) taken options whole)

-- a copy of which the canonical text is known, and what its directory is
canonical_by : CopiesAreSound → (q : RunTerms) (copy : List ℕ) → IsBytes copy → canonical_copy_of q copy ≡ Ok copy → IsCanonicalCopy q copy
canonical_by copies q copy bytes is = at_suffix (suffix_of q.rows q.suffix) refl is
  where
    at_copy : (key : DnKeys) → suffix_of q.rows q.suffix ≡ Some key → (r : Result Dir CopyFault) → copy_of q.rows key copy ≡ r → and_then (ok_or_bad_copy r) (λ first. Ok (canonical_of first)) ≡ Ok copy → IsCanonicalCopy q copy
    at_copy key named (Ok first) reads h =
        let order = copies q.rows key copy first bytes (named_suffix q.rows q.suffix key named) reads in record {
          first = first;
          begins = read_whole q copy [] key named first reads;
          text = cc;
          well_formed = order.0;
          within_limits = order.1;
        }
    at_copy key named (Err fault) reads h = absurd (cc)

    at_suffix : (o : Option DnKeys) → suffix_of q.rows q.suffix ≡ o → and_then (from_suffix q copy [] o) (λ first. Ok (canonical_of first)) ≡ Ok copy → IsCanonicalCopy q copy
    at_suffix None named h = absurd (cc)
    at_suffix (Some key) named h = at_copy key named (copy_of q.rows key copy) refl h

pub canonical_copies : RecordsAreSound → FirstRecordsAreSound → CopiesAreSound → CanonicalTextsReadBack → RunsAcceptChanges → RunsStayInOrder → (q : RunTerms) (copy : List ℕ) → CanonicalCopies q copy
canonical_copies records firsts copies canonical accept stay q copy = record {
  of_bytes = canonical_by copies q copy;
  written = λ changes output copy_bytes changes_bytes is.
      let p = parts_of q copy changes output is in
      let order = in_order records firsts copies q copy changes output copy_bytes changes_bytes p in
      canonical_copy records firsts accept q copy changes output changes_bytes p order.0 order.1 canonical stay;
  written_again = λ changes output c changes_bytes is.
      let p = parts_of q copy changes output is in
      canonical_copy records firsts accept q copy changes output changes_bytes p (is_well_formed q copy changes output p c) (is_within_limits q copy changes output p c) canonical stay;
}

-- ---- there and back in memory

pub there_and_back : Headline → (q : RunTerms) (options : ModifyOptions) (copy changes : List ℕ) (there back : RunInMemory) → options.last ≡ None → IsBytes copy → IsBytes changes
    → IsRunInMemory q copy changes there → IsRunInMemory (terms q.rows q.suffix options) there.out.items there.undo.items back
    → (back.summary.refused ≡ 0) × (canonical_copy_of q copy ≡ Ok back.out.items)
there_and_back law q options copy changes there back whole copy_bytes changes_bytes ran ran_back =
    let taken = law q copy changes ran.output copy_bytes changes_bytes ran.runs in
    let leads : IsTakenBack q ran.output options taken.0 = taken.2 options whole in
    let answers : Ok ran_back.output ≡ Ok leads.back = sym ran_back.runs ∙ (λ i. output_of (terms q.rows q.suffix options) (ran.out i) (ran.undo i)) ∙ leads.runs in
    let same : ran_back.output ≡ leads.back = cc in (
      ap (λ (n : Summary). n.refused) ran_back.summary ∙ ap (λ (o : RunOutput). o.summary.refused) same ∙ leads.refuses_nothing,
      taken.1 ∙ ap Ok (sym (ran_back.out ∙ ap (λ (o : RunOutput). o.texts.out) same ∙ leads.gives_first)),
    )
