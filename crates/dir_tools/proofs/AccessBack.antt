-- Access as before: both copies read as the same directory.
use Rattle.std.proofs.Common.{◌≡◌, ℕ, List, Option, None, Some, Result, Ok, Err, refl, sym, ap, subst, ◌∙◌}
use Rattle.dir_names.specs.Keys.{DnKeys}
use Rattle.dir_names.specs.Results.{and_then}
use Rattle.dir_ldif.specs.SoundRecords.{IsBytes}
use Rattle.dir_tree.specs.Dir.{Dir}
use Rattle.dir_acl.specs.declared.fault.ConfigFault.{ConfigFault}
use Rattle.dir_names.specs.declared.schema.TypeRow.{TypeRow}
use Rattle.dir_acl.specs.Rules.{Configuration}
use Rattle.dir_tools.specs.declared.acl.Question.{Question}
use Rattle.dir_tools.specs.declared.fault.ToolFault.{ToolFault}
use Rattle.dir_tools.specs.declared.round_trip.RunInMemory.{RunInMemory}
use Rattle.dir_tools.specs.declared.run.ModifyOptions.{ModifyOptions}
use Rattle.dir_tools.specs.AccessAsBefore.{AccessIsAsBefore, HaveSameAccess}
use Rattle.dir_tools.specs.AccessReport.{AccessTerms, Configured, access_terms, acl_report_of, configured, ok_or_bad_config, parts_of, report_on, target_of}
use Rattle.dir_tools.specs.Canonical.{canonical_of}
use Rattle.dir_tools.specs.CopyOf.{CopyFault, copy_of}
use Rattle.dir_tools.specs.Headline.{Headline, IsTakenBack, RunOutput, RunTerms, canonical_copy_of, ok_or_bad_copy, ok_or_bad_suffix, output_of, terms}
use Rattle.dir_tools.specs.Inside.RunInMemory.{IsRunInMemory}
use Rattle.dir_tools.specs.Laws.{CanonicalTextsReadBack, CopiesAreSound}
use Rattle.dir_tools.specs.Suffix.{suffix_of}
use Rattle.dir_tools.proofs.SoundCopies.{copy_suffix}
use Rattle.dir_tools.proofs.SuffixLemmas.{named_suffix}

-- the report from where the configuration is read, on a directory or the fault of a copy
abbrev report_from : AccessTerms → Configuration → Result Dir CopyFault → Result (List ℕ) ToolFault
report_from t c copied =
    and_then (parts_of t) (λ parts.
    and_then (ok_or_bad_copy copied) (λ d.
    and_then (target_of t.question.fake d parts.base) (λ target. Ok (report_on t.question.verbose c d parts target))))

abbrev report_by : Question → List ℕ → Result Configured ConfigFault → Result (List ℕ) ToolFault
report_by question copy config = and_then (ok_or_bad_config config) (λ found. report_from (access_terms found.rows question) found.configuration (copy_of found.rows found.configuration.suffix copy))

-- under this suffix the two copies are texts of the same directory
pub same_access : (q : RunTerms) (copy back : List ℕ) (key : DnKeys) → suffix_of q.rows q.suffix ≡ Some key → copy_of q.rows key back ≡ copy_of q.rows key copy → HaveSameAccess q copy back
same_access q copy back key named same start question config of_run = by (configured start config) refl
  where
    by : (r : Result Configured ConfigFault) → configured start config ≡ r → acl_report_of (access_terms start question) config back ≡ acl_report_of (access_terms start question) config copy
    by (Err fault) is = ap (report_by question back) is ∙ sym (ap (report_by question copy) is)
    by (Ok found) is =
        let its : Some key ≡ Some found.configuration.suffix = sym named ∙ (of_run found is).1 in
        let key_is : key ≡ found.configuration.suffix = cc in
        ap (report_by question back) is
        ∙ ap (report_from (access_terms found.rows question) found.configuration) (subst (λ (k : DnKeys). copy_of found.rows k back ≡ copy_of found.rows k copy) key_is (subst (λ (rows : List TypeRow). copy_of rows key back ≡ copy_of rows key copy) (sym (of_run found is).0) same))
        ∙ sym (ap (report_by question copy) is)

-- a copy of which this is the canonical text
abbrev IsCopyOf : RunTerms → List ℕ → List ℕ → Type 0
IsCopyOf q copy first = (key : DnKeys) × (d : Dir) × (suffix_of q.rows q.suffix ≡ Some key) × (copy_of q.rows key copy ≡ Ok d) × (first ≡ canonical_of d)

first_is : (q : RunTerms) (copy first : List ℕ) → canonical_copy_of q copy ≡ Ok first → IsCopyOf q copy first
first_is q copy first is = at_suffix (suffix_of q.rows q.suffix) refl is
  where
    at_copy : (key : DnKeys) → suffix_of q.rows q.suffix ≡ Some key → (r : Result Dir CopyFault) → copy_of q.rows key copy ≡ r → and_then (ok_or_bad_copy r) (λ d. Ok (canonical_of d)) ≡ Ok first → IsCopyOf q copy first
    at_copy key named (Ok d) reads h = (key, d, named, reads, sym (cc))
    at_copy key named (Err fault) reads h = absurd (cc)

    at_suffix : (o : Option DnKeys) → suffix_of q.rows q.suffix ≡ o → and_then (and_then (ok_or_bad_suffix o) (λ k. ok_or_bad_copy (copy_of q.rows k copy))) (λ d. Ok (canonical_of d)) ≡ Ok first → IsCopyOf q copy first
    at_suffix None named h = absurd (cc)
    at_suffix (Some key) named h = at_copy key named (copy_of q.rows key copy) refl h

-- a canonical text of a sound copy reads as the copy does
pub canonical_access : CopiesAreSound → CanonicalTextsReadBack → (q : RunTerms) (copy first : List ℕ) → IsBytes copy → canonical_copy_of q copy ≡ Ok first → HaveSameAccess q copy first
canonical_access sound reads_back q copy first bytes is =
    let found = first_is q copy first is in
    let key : DnKeys = found.0 in
    let d : Dir = found.1 in
    let named : suffix_of q.rows q.suffix ≡ Some key = found.2 in
    let copied : copy_of q.rows key copy ≡ Ok d = found.3 in
    let good = sound q.rows key copy d bytes (named_suffix q.rows q.suffix key named) copied in
    let suffix_is : d.suffix ≡ key = copy_suffix q.rows key copy d copied in
    let back : copy_of q.rows d.suffix (canonical_of d) ≡ Ok d = reads_back q.rows d good.0 good.1 in
    same_access q copy first key named
    (ap (copy_of q.rows key) found.4 ∙ subst (λ (k : DnKeys). copy_of q.rows k (canonical_of d) ≡ Ok d) suffix_is back ∙ sym copied)

pub access_as_before : CopiesAreSound → CanonicalTextsReadBack → Headline → AccessIsAsBefore
access_as_before sound reads_back law q copy changes output back options whole copy_bytes changes_bytes runs runs_back =
    let taken = law q copy changes output copy_bytes changes_bytes runs in
    let leads : IsTakenBack q output options taken.0 = taken.2 options whole in
    let answers : Ok back ≡ Ok leads.back = sym runs_back ∙ leads.runs in
    let same : back ≡ leads.back = cc in
    let first_is : taken.0 ≡ back.texts.out = sym (ap (λ (o : RunOutput). o.texts.out) same ∙ leads.gives_first) in
    subst (λ (o : List ℕ). HaveSameAccess q copy o) first_is (canonical_access sound reads_back q copy taken.0 copy_bytes taken.1)

-- ---- there and back in memory

pub access_there_and_back : AccessIsAsBefore → (q : RunTerms) (options : ModifyOptions) (copy changes : List ℕ) (there back : RunInMemory) → options.last ≡ None → IsBytes copy → IsBytes changes
    → IsRunInMemory q copy changes there → IsRunInMemory (terms q.rows q.suffix options) there.out.items there.undo.items back → HaveSameAccess q copy back.out.items
access_there_and_back law q options copy changes there back whole copy_bytes changes_bytes ran ran_back =
    let runs_back : output_of (terms q.rows q.suffix options) ran.output.texts.out ran.output.texts.undo ≡ Ok ran_back.output =
    sym (λ i. output_of (terms q.rows q.suffix options) (ran.out i) (ran.undo i)) ∙ ran_back.runs in
    subst (λ (o : List ℕ). HaveSameAccess q copy o) (sym ran_back.out) (law q copy changes ran.output ran_back.output options whole copy_bytes changes_bytes ran.runs runs_back)
