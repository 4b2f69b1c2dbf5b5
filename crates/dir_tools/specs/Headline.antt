-- The headline: a run is taken back, byte for byte, by its undo text, run on its new copy. `Headline` is the theorem, and `GoesBackToAnyPoint` and
-- `UndosAreUndone` say the same of a part of that text and of the undo of an undo; above them is all that they speak of, but for the definitions
-- of the layers below.
use Rattle.std.specs.Prelude.{◌≡◌, ℕ, ◌+◌, ◌<◌, ◌≤◌, ◌^◌, List, length, take, Option, Some, None, Result, Ok, Err}
use Rattle.dir_names.specs.declared.schema.TypeRow.{TypeRow}
use Rattle.dir_names.specs.Keys.{DnKeys}
use Rattle.dir_names.specs.Results.{and_then}
use Rattle.dir_ldif.specs.declared.faults.StreamFault.{StreamFault}
use Rattle.dir_ldif.specs.Records.{Answer}
use Rattle.dir_ldif.specs.SoundRecords.{IsBytes}
use Rattle.dir_tree.specs.Dir.{Dir}
use Rattle.dir_tree.specs.WellFormed.{IsWellFormed, IsWithinLimits}
use Rattle.dir_change.specs.UndoText.{undo_text_of}
use Rattle.dir_tools.specs.declared.fault.Item.TheVariants.{Suffix}
use Rattle.dir_tools.specs.declared.fault.ToolFault.{ToolFault}
use Rattle.dir_tools.specs.declared.fault.ToolFault.TheVariants.{BadChanges, BadCopy, BadQuestion, TooFewGroups}
use Rattle.dir_tools.specs.declared.run.ModifyOptions.{ModifyOptions}
use Rattle.dir_tools.specs.declared.run.Summary.{Summary}
use Rattle.dir_tools.specs.Canonical.{canonical_of}
use Rattle.dir_tools.specs.CopyOf.{CopyFault, copy_of}
use Rattle.dir_tools.specs.Report.{modify_report_of}
use Rattle.dir_tools.specs.RunOf.{RunEnd, causes_in, groups_in, looked_at_all, marks_at, records_at, run_of, too_few_groups}
use Rattle.dir_tools.specs.Suffix.{suffix_of}
use Rattle.dir_tools.specs.Writing.{Texts}

-- what a run is given beside its two texts: the types of attributes, the suffix of the directory, and how it is to run
pub record RunTerms : Type 0 where
  pub rows : List TypeRow
  pub suffix : List ℕ
  pub options : ModifyOptions

abbrev pub terms : List TypeRow → List ℕ → ModifyOptions → RunTerms
terms rows suffix options = record { rows = rows; suffix = suffix; options = options }

-- what a run gives: the undo text, the new copy and the report, and how many records it accepted and refused
pub record RunOutput : Type 0 where
  pub texts : Texts
  pub summary : Summary

-- ---- a whole run

abbrev pub ok_or_bad_suffix : Option DnKeys → Result DnKeys ToolFault
ok_or_bad_suffix (Some key) = Ok key
ok_or_bad_suffix None = Err (BadQuestion Suffix)

abbrev pub ok_or_bad_copy : Result Dir CopyFault → Result Dir ToolFault
ok_or_bad_copy (Ok first) = Ok first
ok_or_bad_copy (Err fault) = Err (BadCopy fault.0 fault.1)

abbrev pub ok_or_bad_changes : Result RunEnd StreamFault → Result RunEnd ToolFault
ok_or_bad_changes (Ok ran) = Ok ran
ok_or_bad_changes (Err fault) = Err (BadChanges fault)

abbrev pub ok_or_too_few : Option ℕ → RunOutput → Result RunOutput ToolFault
ok_or_too_few None output = Ok output
ok_or_too_few (Some groups) output = Err (TooFewGroups groups)

-- the directory that a copy is the text of
abbrev pub directory_of : RunTerms → List ℕ → Result Dir ToolFault
directory_of q copy = and_then (ok_or_bad_suffix (suffix_of q.rows q.suffix)) (λ key. ok_or_bad_copy (copy_of q.rows key copy))

abbrev pub output_at : RunTerms → RunEnd → RunOutput
output_at q ran = record {
  texts = record { undo = undo_text_of (groups_in ran.outcomes); out = canonical_of ran.end; report = modify_report_of q.options.verbose ran.outcomes };
  summary = record { accepted = length (groups_in ran.outcomes); refused = length (causes_in ran.outcomes) };
}

-- the records of the text of changes that a run takes
abbrev pub records_in : RunTerms → List ℕ → List Answer
records_in q changes = records_at q.rows q.options.last changes

-- how many groups the text of changes has, where these are too few
abbrev pub too_few_in : RunTerms → List ℕ → RunEnd → Option ℕ
too_few_in q changes ran = too_few_groups q.options.last (marks_at q.options.last changes) (looked_at_all q.options.go_on ran)

-- what the run of a text of changes on a copy gives, or its first fault: of the suffix, of the copy, of the text of changes, and that this has
-- too few groups
abbrev pub output_of : RunTerms → List ℕ → List ℕ → Result RunOutput ToolFault
output_of q copy changes =
    and_then (directory_of q copy) (λ first.
    and_then (ok_or_bad_changes (run_of q.rows q.options.go_on first (records_in q changes))) (λ ran. ok_or_too_few (too_few_in q changes ran) (output_at q ran)))

-- ---- the theorem

-- the canonical text of the directory that a copy is the text of
abbrev pub canonical_copy_of : RunTerms → List ℕ → Result (List ℕ) ToolFault
canonical_copy_of q copy = and_then (directory_of q copy) (λ first. Ok (canonical_of first))

-- the undo text of an output, run on its new copy, refuses nothing, and its own new copy is this text
pub record IsTakenBack (q : RunTerms) (output : RunOutput) (options : ModifyOptions) (first : List ℕ) : Type 0 where
  pub back : RunOutput
  pub runs : output_of (terms q.rows q.suffix options) output.texts.out output.texts.undo ≡ Ok back
  pub refuses_nothing : back.summary.refused ≡ 0
  pub gives_first : back.texts.out ≡ first

-- every run that gives an output is taken back by the whole of its undo text, in both modes: to the canonical text of the first copy
abbrev pub Headline : Type 0
Headline = (q : RunTerms) (copy changes : List ℕ) (output : RunOutput) → IsBytes copy → IsBytes changes → output_of q copy changes ≡ Ok output
    → (first : List ℕ) × (canonical_copy_of q copy ≡ Ok first) × ((options : ModifyOptions) → options.last ≡ None → IsTakenBack q output options first)

-- ---- undo to any point

-- after some of its records a run had come to this directory, and so many accepted ones were still to come
pub record WasThere (q : RunTerms) (first : Dir) (changes : List ℕ) (ran : RunEnd) (k : ℕ) (d : Dir) : Type 0 where
  pub taken : ℕ
  pub earlier : RunEnd
  pub runs : run_of q.rows q.options.go_on first (take taken (records_in q changes)) ≡ Ok earlier
  pub ends : earlier.end ≡ d
  pub to_come : length (groups_in ran.outcomes) ≡ length (groups_in earlier.outcomes) + k

-- the first groups of the undo text, so many, lead back to before the last accepted records, so many, in both modes. A number of groups has
-- 64 bits
pub record GoesBack (q : RunTerms) (copy changes : List ℕ) (output : RunOutput) : Type 0 where
  pub first : Dir
  pub ran : RunEnd
  pub begins : directory_of q copy ≡ Ok first
  pub runs : run_of q.rows q.options.go_on first (records_in q changes) ≡ Ok ran
  pub output_is : output ≡ output_at q ran
  pub goes_back : (k : ℕ) → k ≤ length (groups_in ran.outcomes) → k < 2 ^ 64
      → (d : Dir) × WasThere q first changes ran k d × ((options : ModifyOptions) → options.last ≡ Some k → IsTakenBack q output options (canonical_of d))

-- every run that gives an output is taken back by its undo text to each point
abbrev pub GoesBackToAnyPoint : Type 0
GoesBackToAnyPoint = (q : RunTerms) (copy changes : List ℕ) (output : RunOutput) → IsBytes copy → IsBytes changes → output_of q copy changes ≡ Ok output → GoesBack q copy changes output

-- ---- the undo of an undo

-- a copy is the canonical text of the directory that it is the text of, and this is a sound one
pub record IsCanonicalCopy (q : RunTerms) (copy : List ℕ) : Type 0 where
  pub first : Dir
  pub begins : directory_of q copy ≡ Ok first
  pub text : canonical_of first ≡ copy
  pub well_formed : IsWellFormed q.rows first
  pub within_limits : IsWithinLimits first

-- a run over a canonical copy is taken back to that copy, byte for byte. So the undo of an undo, whole or in part, leads forward again
abbrev pub UndosAreUndone : Type 0
UndosAreUndone = (q : RunTerms) (copy changes : List ℕ) (output : RunOutput) → IsCanonicalCopy q copy → IsBytes changes → output_of q copy changes ≡ Ok output
    → (options : ModifyOptions) → options.last ≡ None → IsTakenBack q output options copy

-- the new copy of a run is canonical, under whatever text of the same suffix it is read
abbrev pub WritesCanonicalCopy : RunTerms → RunOutput → Type 0
WritesCanonicalCopy q output = (suffix : List ℕ) (options : ModifyOptions) → suffix_of q.rows suffix ≡ suffix_of q.rows q.suffix → IsCanonicalCopy (terms q.rows suffix options) output.texts.out

-- which copies are canonical: each text of bytes that is the canonical text of what it is the copy of; the new copy of each run over a text of bytes; and that of
-- each run over a canonical copy
pub record CanonicalCopies (q : RunTerms) (copy : List ℕ) : Type 0 where
  pub of_bytes : IsBytes copy → canonical_copy_of q copy ≡ Ok copy → IsCanonicalCopy q copy
  pub written : (changes : List ℕ) (output : RunOutput) → IsBytes copy → IsBytes changes → output_of q copy changes ≡ Ok output → WritesCanonicalCopy q output
  pub written_again : (changes : List ℕ) (output : RunOutput) → IsCanonicalCopy q copy → IsBytes changes → output_of q copy changes ≡ Ok output → WritesCanonicalCopy q output
