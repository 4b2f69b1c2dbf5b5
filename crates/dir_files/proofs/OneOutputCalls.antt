-- The last calls of a run that makes one file: it is synced and published, or removed.
use Rattle.std.proofs.Common.{ℕ, List, [], ◌∷◌, Option, None, Some, Result, Ok, Err, inl, inr}
use Rattle.dir_files.specs.declared.fault.Fault.{Fault}
use Rattle.dir_files.specs.declared.files.Refusal.{Refusal}
use Rattle.dir_files.specs.declared.files.Refusal.TheVariants as refusal
use Rattle.dir_files.specs.Faults.{IsNotReported}
use Rattle.dir_files.specs.Files.{Call, Disk, Told, discards, publishes, reports, syncs, withdraws}
use Rattle.dir_files.specs.OneOutput.{Finishes, IsNotPublished, IsUnfinished}
use Rattle.dir_files.specs.Runs.{Ends, Made, Tries}
use Rattle.dir_files.proofs.CallLemmas.{ends, just_none, just_one, tries_on, tries_refused}

module _ {A : Type 0} (path : List ℕ) (text : Option (List ℕ)) (report : List ℕ) (unwritten : Fault) (answer : A) where
  abbrev Reports : Result A Fault → List Call → Type 0
  Reports result calls = Tries (reports report) IsNotReported (withdraws path ∷ []) result (Ends answer result) calls

  abbrev Publishes : Result A Fault → List Call → Type 0
  Publishes result calls = Tries (publishes path text) (IsNotPublished path unwritten) [] result (Reports result) calls

  synced : (result : Result A Fault) (a b c : Option Disk) → Told a b (syncs path text None) → Made b c (λ d. Publishes result)
      → Made a c (λ d. Finishes path text report unwritten answer result)
  synced result = tries_on (syncs path text) (IsNotPublished path unwritten) (discards path ∷ []) result (Publishes result)

  published : (result : Result A Fault) (a b c : Option Disk) → Told a b (publishes path text None) → Made b c (λ d. Reports result) → Made a c (λ d. Publishes result)
  published result = tries_on (publishes path text) (IsNotPublished path unwritten) [] result (Reports result)

  pub not_synced : (a b c : Option Disk) (why : Refusal) (e : Fault) → Told a b (syncs path text (Some why)) → Told b c (discards path) → IsNotPublished path unwritten why e
      → Made a c (λ d. Finishes path text report unwritten answer (Err e))
  not_synced a b c why e first second fails =
      let failed : Result A Fault = Err e in
      tries_refused (syncs path text) (IsNotPublished path unwritten) (discards path ∷ []) failed (λ d. Publishes failed) a b c why first (just_one b c (discards path) second) fails

  pub not_published : (a b c : Option Disk) (why : Refusal) (e : Fault) → Told a b (syncs path text None) → Told b c (publishes path text (Some why)) → IsNotPublished path unwritten why e
      → Made a c (λ d. Finishes path text report unwritten answer (Err e))
  not_published a b c why e first second fails =
      let failed : Result A Fault = Err e in
      synced failed a b c first (tries_refused (publishes path text) (IsNotPublished path unwritten) [] failed (λ d. Reports failed) b c c why second (just_none c) fails)

  pub not_reported : (a b c e f : Option Disk) (why : Refusal) (shown : Fault) → Told a b (syncs path text None) → Told b c (publishes path text None) → Told c e (reports report (Some why))
      → Told e f (withdraws path) → IsNotReported why shown → Made a f (λ d. Finishes path text report unwritten answer (Err shown))
  not_reported a b c e f why shown first second third fourth fails =
      let failed : Result A Fault = Err shown in
      synced failed a b f first
      (published failed b c f second
      (tries_refused (reports report) IsNotReported (withdraws path ∷ []) failed (λ d. Ends answer failed) c e f why third (just_one e f (withdraws path) fourth) fails))

  pub finished : (a b c e : Option Disk) → Told a b (syncs path text None) → Told b c (publishes path text None) → Told c e (reports report None)
      → Made a e (λ d. Finishes path text report unwritten answer (Ok answer))
  finished a b c e first second third =
      let done : Result A Fault = Ok answer in
      synced done a b e first (published done b c e second (tries_on (reports report) IsNotReported (withdraws path ∷ []) done (Ends answer done) c e e third (ends e answer)))

-- ---- the faults

pub of_publishing : (path : List ℕ) (unwritten : Fault) (why : Refusal) (e : Fault) → IsNotPublished path unwritten why e → IsUnfinished path unwritten e
of_publishing path unwritten refusal.Exists e h = inr (inl h)
of_publishing path unwritten refusal.Memory e h = inr (inr (inl h))
of_publishing path unwritten refusal.Other e h = inl h

pub of_reporting : (path : List ℕ) (unwritten : Fault) (why : Refusal) (e : Fault) → IsNotReported why e → IsUnfinished path unwritten e
of_reporting path unwritten refusal.Memory e h = inr (inr (inl h))
of_reporting path unwritten refusal.Exists e h = inr (inr (inr h))
of_reporting path unwritten refusal.Other e h = inr (inr (inr h))
