-- The last calls of a run: what was written is synced and published, or removed.
use Rattle.std.proofs.Common.{ℕ, List, [], ◌∷◌, Option, None, Some, Result, Ok, Err}
use Rattle.dir_tools.specs.declared.fault.Output.TheVariants as to
use Rattle.dir_tools.specs.declared.run.Summary.{Summary}
use Rattle.dir_files.specs.declared.words.OutputPaths.{OutputPaths}
use Rattle.dir_files.specs.declared.fault.Fault.{Fault}
use Rattle.dir_files.specs.declared.files.Refusal.{Refusal}
use Rattle.dir_files.specs.Faults.{IsNotReported, IsNotWritten}
use Rattle.dir_files.specs.Files.{Call, Disk, Told, discards, publishes, reports, syncs, withdraws}
use Rattle.dir_files.specs.Runs.{Ends, Made, Publishes, Syncs, Tries, both_discarded}
use Rattle.dir_files.proofs.CallLemmas.{ends, just_one, just_two, tries_on, tries_refused}

module _ (paths : OutputPaths) (undo out : Option (List ℕ)) (report : List ℕ) (summary : Summary) where
  -- ---- publishing

  abbrev Reports : Result Summary Fault → List Call → Type 0
  Reports result calls = Tries (reports report) IsNotReported (withdraws paths.out.now ∷ withdraws paths.undo.now ∷ []) result (Ends summary result) calls

  abbrev PublishesOut : Result Summary Fault → List Call → Type 0
  PublishesOut result calls = Tries (publishes paths.out.now out) (IsNotWritten paths.out.now to.Out) (withdraws paths.undo.now ∷ []) result (Reports result) calls

  undo_published : (result : Result Summary Fault) (a b c : Option Disk) → Told a b (publishes paths.undo.now undo None) → Made b c (λ d. PublishesOut result)
      → Made a c (λ d. Publishes paths undo out report summary result)
  undo_published result = tries_on (publishes paths.undo.now undo) (IsNotWritten paths.undo.now to.Undo) (discards paths.out.now ∷ []) result (PublishesOut result)

  out_published : (result : Result Summary Fault) (a b c : Option Disk) → Told a b (publishes paths.out.now out None) → Made b c (λ d. Reports result) → Made a c (λ d. PublishesOut result)
  out_published result = tries_on (publishes paths.out.now out) (IsNotWritten paths.out.now to.Out) (withdraws paths.undo.now ∷ []) result (Reports result)

  pub no_undo : (a b c : Option Disk) (why : Refusal) (e : Fault) → Told a b (publishes paths.undo.now undo (Some why)) → Told b c (discards paths.out.now)
      → IsNotWritten paths.undo.now to.Undo why e → Made a c (λ d. Publishes paths undo out report summary (Err e))
  no_undo a b c why e first second fails =
      let failed : Result Summary Fault = Err e in
      tries_refused (publishes paths.undo.now undo) (IsNotWritten paths.undo.now to.Undo) (discards paths.out.now ∷ []) failed (λ d. PublishesOut failed) a b c why first
      (just_one b c (discards paths.out.now) second) fails

  pub no_out : (a b c e : Option Disk) (why : Refusal) (fault : Fault) → Told a b (publishes paths.undo.now undo None) → Told b c (publishes paths.out.now out (Some why))
      → Told c e (withdraws paths.undo.now) → IsNotWritten paths.out.now to.Out why fault → Made a e (λ d. Publishes paths undo out report summary (Err fault))
  no_out a b c e why fault first second third fails =
      let failed : Result Summary Fault = Err fault in
      undo_published failed a b e first
      (tries_refused (publishes paths.out.now out) (IsNotWritten paths.out.now to.Out) (withdraws paths.undo.now ∷ []) failed (λ d. Reports failed) b c e why second
      (just_one c e (withdraws paths.undo.now) third) fails)

  pub no_report : (a b c e f g : Option Disk) (why : Refusal) (fault : Fault) → Told a b (publishes paths.undo.now undo None) → Told b c (publishes paths.out.now out None)
      → Told c e (reports report (Some why)) → Told e f (withdraws paths.out.now) → Told f g (withdraws paths.undo.now) → IsNotReported why fault
      → Made a g (λ d. Publishes paths undo out report summary (Err fault))
  no_report a b c e f g why fault first second third fourth fifth fails =
      let failed : Result Summary Fault = Err fault in
      undo_published failed a b g first
      (out_published failed b c g second
      (tries_refused (reports report) IsNotReported (withdraws paths.out.now ∷ withdraws paths.undo.now ∷ []) failed (λ d. Ends summary failed) c e g why third
      (just_two e f g (withdraws paths.out.now) (withdraws paths.undo.now) fourth fifth) fails))

  pub all_done : (a b c e : Option Disk) → Told a b (publishes paths.undo.now undo None) → Told b c (publishes paths.out.now out None) → Told c e (reports report None)
      → Made a e (λ d. Publishes paths undo out report summary (Ok summary))
  all_done a b c e first second third =
      let done : Result Summary Fault = Ok summary in
      undo_published done a b e first
      (out_published done b c e second
      (tries_on (reports report) IsNotReported (withdraws paths.out.now ∷ withdraws paths.undo.now ∷ []) done (Ends summary done) c e e third (ends e summary)))

  -- ---- syncing

  abbrev SyncsOut : Result Summary Fault → List Call → Type 0
  SyncsOut result calls = Tries (syncs paths.out.now out) (IsNotWritten paths.out.now to.Out) (both_discarded paths) result (Publishes paths undo out report summary result) calls

  undo_synced : (result : Result Summary Fault) (a b c : Option Disk) → Told a b (syncs paths.undo.now undo None) → Made b c (λ d. SyncsOut result)
      → Made a c (λ d. Syncs paths undo out report summary result)
  undo_synced result = tries_on (syncs paths.undo.now undo) (IsNotWritten paths.undo.now to.Undo) (both_discarded paths) result (SyncsOut result)

  pub undo_not_synced : (a b c e : Option Disk) (why : Refusal) (fault : Fault) → Told a b (syncs paths.undo.now undo (Some why)) → Told b c (discards paths.out.now)
      → Told c e (discards paths.undo.now) → IsNotWritten paths.undo.now to.Undo why fault → Made a e (λ d. Syncs paths undo out report summary (Err fault))
  undo_not_synced a b c e why fault first second third fails =
      let failed : Result Summary Fault = Err fault in
      tries_refused (syncs paths.undo.now undo) (IsNotWritten paths.undo.now to.Undo) (both_discarded paths) failed (λ d. SyncsOut failed) a b e why first
      (just_two b c e (discards paths.out.now) (discards paths.undo.now) second third) fails

  pub out_not_synced : (a b c e f : Option Disk) (why : Refusal) (fault : Fault) → Told a b (syncs paths.undo.now undo None) → Told b c (syncs paths.out.now out (Some why))
      → Told c e (discards paths.out.now) → Told e f (discards paths.undo.now) → IsNotWritten paths.out.now to.Out why fault
      → Made a f (λ d. Syncs paths undo out report summary (Err fault))
  out_not_synced a b c e f why fault first second third fourth fails =
      let failed : Result Summary Fault = Err fault in
      undo_synced failed a b f first
      (tries_refused (syncs paths.out.now out) (IsNotWritten paths.out.now to.Out) (both_discarded paths) failed (λ d. Publishes paths undo out report summary failed) b c f why second
      (just_two c e f (discards paths.out.now) (discards paths.undo.now) third fourth) fails)

  pub both_synced : (result : Result Summary Fault) (a b c e : Option Disk) → Told a b (syncs paths.undo.now undo None) → Told b c (syncs paths.out.now out None)
      → Made c e (λ d. Publishes paths undo out report summary result) → Made a e (λ d. Syncs paths undo out report summary result)
  both_synced result a b c e first second made =
      undo_synced result a b e first
      (tries_on (syncs paths.out.now out) (IsNotWritten paths.out.now to.Out) (both_discarded paths) result (Publishes paths undo out report summary result) b c e second made)
