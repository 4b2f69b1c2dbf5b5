-- Calls of a file system, one after the other.
use Rattle.std.proofs.Common.{◌≡◌, ℕ, List, [], ◌∷◌, ◌++◌, Option, None, Some, IfSome, Result, Ok, Err, inl, inr, refl, sym, ap, subst, ◌∙◌, append-nil, append_assoc}
use Rattle.std.specs.Option.{option_copied}
use Rattle.dir_names.specs.Table.Builtin.{builtin_rows}
use Rattle.dir_names.specs.declared.schema.TypeRow.{TypeRow}
use Rattle.dir_tools.specs.AccessAnswers.{IsTypesFault}
use Rattle.dir_tools.specs.declared.fault.ToolFault.{ToolFault}
use Rattle.dir_tools.specs.declared.fault.ToolFault.TheVariants.{Memory}
use Rattle.dir_tools.specs.declared.run.Summary.{Summary}
use Rattle.dir_tools.specs.Headline.{RunTerms, RunOutput}
use Rattle.dir_tools.specs.RunAnswers.{AnswersRun, IsWholeRun, Sources, sources}
use Rattle.dir_tools.specs.Writing.{TakenBytes, WroteInOrder}
use Rattle.dir_files.specs.declared.words.ModifyWords.{ModifyWords}
use Rattle.dir_files.specs.declared.words.OutputPaths.{OutputPaths}
use Rattle.dir_files.specs.declared.fault.Fault.{Fault}
use Rattle.dir_files.specs.declared.files.Refusal.{Refusal}
use Rattle.dir_files.specs.Faults.{FailsSo, IsModifyFault, IsNotCreated, IsNotOpened, IsNotReported, IsRunFault}
use Rattle.dir_files.specs.Files.{Call, Disk, Told, creates, discards, opens, reports, standard_input, with_call}
use Rattle.dir_files.specs.Paths.{outputs_of}
use Rattle.dir_files.specs.Runs.{AllCalls, AreTypesOf, CallsUnder, Ends, EndsWithOutputs, EndsWithoutOutputs, FindsTypes, Made, OpensChanges, ReadsTypes, RunsOver, RunsOverDrafts, Tries, WritesAll, WritesOutputs, WritesReport, both_discarded, changes_text, terms_of, sources_of}

-- ---- calls in a row

-- no call
pub made_none : (a : Option Disk) (P : Disk → List Call → Type 0) → ((d : Disk) → a ≡ Some d → P d []) → Made a a P
made_none None P h = tt
made_none (Some d) P h = ([], sym (append-nil d.calls), h d refl)

-- one call, and then others
pub made_then : (a b c : Option Disk) (call : Call) (P Q : Disk → List Call → Type 0) → Told a b call → Made b c Q
    → ((d : Disk) (after : List Call) → a ≡ Some d → Q (with_call d call) after → P d (call ∷ after)) → Made a c P
made_then a b None call P Q told made h = tt
made_then a None (Some last) call P Q told made h = absurd (made)
made_then None (Some next) (Some last) call P Q told made h = absurd (told)
made_then (Some d) (Some next) (Some last) call P Q told made h =
    let moved : Q (with_call d call) made.0 = subst (λ (x : Disk). Q x made.0) told made.2 in (
      call ∷ made.0,
      made.1 ∙ ap (λ (x : Disk). x.calls ++ made.0) told ∙ append_assoc d.calls (call ∷ []) made.0,
      h d made.0 refl moved,
    )

-- the same calls, of which something else is said
pub made_as : (a b : Option Disk) (P Q : Disk → List Call → Type 0) → Made a b P → ((d : Disk) (calls : List Call) → a ≡ Some d → P d calls → Q d calls) → Made a b Q
made_as a None P Q made h = tt
made_as None (Some last) P Q made h = absurd (made)
made_as (Some d) (Some last) P Q made h = (made.0, made.1, h d made.0 refl made.2)

-- a call that leaves what is told of the file system
pub made_before : (a b c : Option Disk) (P : Disk → List Call → Type 0) → b ≡ a → Made b c P → Made a c P
made_before a b c P same made = subst (λ (s : Option Disk). Made s c P) same made

pub made_after : (a b c : Option Disk) (P : Disk → List Call → Type 0) → c ≡ b → Made a b P → Made a c P
made_after a b c P same made = subst (λ (s : Option Disk). Made a s P) (sym same) made

-- these calls alone
abbrev pub Just : List Call → Disk → List Call → Type 0
Just wanted d calls = calls ≡ wanted

pub just_none : (a : Option Disk) → Made a a (Just [])
just_none a = made_none a (Just []) (λ d is. refl)

pub just_one : (a b : Option Disk) (call : Call) → Told a b call → Made a b (Just (call ∷ []))
just_one a b call told = made_then a b b call (Just (call ∷ [])) (Just []) told (just_none b) (λ d after is same. ap (λ (l : List Call). call ∷ l) same)

pub just_two : (a b c : Option Disk) (call next : Call) → Told a b call → Told b c next → Made a c (Just (call ∷ next ∷ []))
just_two a b c call next first second =
    made_then a b c call (Just (call ∷ next ∷ [])) (Just (next ∷ [])) first (just_one b c next second) (λ d after is same. ap (λ (l : List Call). call ∷ l) same)

-- a call leaves the texts
pub still : (P : (List ℕ → Option (List ℕ)) → (List ℕ → ℕ) → List ℕ → Type 0) (a b : Option Disk) (call : Call) → Told a b call → IfSome a (λ d. P d.text_at d.mode_at d.typed)
    → IfSome b (λ d. P d.text_at d.mode_at d.typed)
still P a None call told h = tt
still P None (Some after) call told h = absurd (told)
still P (Some d) (Some after) call told h = subst (λ (x : Disk). P x.text_at x.mode_at x.typed) (sym told) h

pub at_some : (P : Type 0) (a : Option Disk) (d : Disk) → a ≡ Some d → IfSome a (λ x. P) → P
at_some P a d is = subst (λ (s : Option Disk). IfSome s (λ x. P)) is

-- ---- calls that may be refused

module _ {A : Type 0} (call : Option Refusal → Call) (fault : Refusal → Fault → Type 0) (removed : List Call) (result : Result A Fault) where
  pub tries_as : (P Q : List Call → Type 0) → ((calls : List Call) → P calls → Q calls) → (calls : List Call) → Tries call fault removed result P calls → Tries call fault removed result Q calls
  tries_as P Q h calls (inl made) = inl (made.0, made.1, h made.0 made.2)
  tries_as P Q h calls (inr refused) = inr refused

  -- the call is made, and the run goes on
  pub tries_on : (rest : List Call → Type 0) (a b c : Option Disk) → Told a b (call None) → Made b c (λ d. rest) → Made a c (λ d. Tries call fault removed result rest)
  tries_on rest a b c told made = made_then a b c (call None) (λ d. Tries call fault removed result rest) (λ d. rest) told made (λ d after is h. inl (after, refl, h))

  -- the call is refused
  pub tries_refused : (rest : Disk → List Call → Type 0) (a b c : Option Disk) (why : Refusal) → Told a b (call (Some why)) → Made b c (Just removed) → FailsSo (fault why) result
      → Made a c (λ d. Tries call fault removed result (rest d))
  tries_refused rest a b c why told made fails =
      made_then a b c (call (Some why)) (λ d. Tries call fault removed result (rest d)) (Just removed) told made
      (λ d after is same. inr (why, ap (λ (l : List Call). call (Some why) ∷ l) same, fails))

pub ends : {A : Type 0} (a : Option Disk) (answer : A) → Made a a (λ d. Ends answer (Ok answer))
ends a answer = made_none a (λ d. Ends answer (Ok answer)) (λ d is. (refl, refl))

-- ---- the tool's run

-- what the tool writes into the report is what the buffer has taken
pub runs_over : (q : RunTerms) (known : Sources) (answer : Result Summary ToolFault) (output : RunOutput) (undo out : TakenBytes) (before after : Option (List ℕ)) (report : List ℕ)
    → WroteInOrder q.options.dry answer output.texts undo out (before, after) → AnswersRun q known answer output → IsWholeRun q known answer output
    → before ≡ Some [] → after ≡ Some report → RunsOver q known answer undo out (Some [], Some report)
runs_over q known answer output undo out before after report wrote answers whole fresh taken = record {
  output = output;
  wrote = subst (λ (t : Option (List ℕ)). WroteInOrder q.options.dry answer output.texts undo out (Some [], t)) taken
      (subst (λ (t : Option (List ℕ)). WroteInOrder q.options.dry answer output.texts undo out (t, after)) fresh wrote);
  answers = answers;
  whole = whole;
}

module _ (paths : OutputPaths) (mode : ℕ) (q : RunTerms) (known : Sources) (result : Result Summary Fault) where
  abbrev CreatesOut : (List Call → Type 0) → List Call → Type 0
  CreatesOut rest calls = Tries (creates paths.out.now mode) (IsNotCreated paths.out.now) (discards paths.undo.now ∷ []) result rest calls

  -- the draft of the new copy is not created
  pub no_draft : (a b c e : Option Disk) (why : Refusal) → Told a b (creates paths.undo.now mode None) → Told b c (creates paths.out.now mode (Some why))
      → Told c e (discards paths.undo.now) → FailsSo (IsNotCreated paths.out.now why) result → Made a e (λ d. WritesOutputs paths mode q known result)
  no_draft a b c e why first second third fails =
      tries_on (creates paths.undo.now mode) (IsNotCreated paths.undo.now) [] result (CreatesOut (RunsOverDrafts paths q known result)) a b e first
      (tries_refused (creates paths.out.now mode) (IsNotCreated paths.out.now) (discards paths.undo.now ∷ []) result (λ d. RunsOverDrafts paths q known result) b c e why second
      (just_one c e (discards paths.undo.now) third) fails)

  -- both drafts are created, and the tool runs over them
  module _ (answer : Result Summary ToolFault) (undo undo' out out' : Option (List ℕ)) (report : List ℕ) where
    abbrev Rest : List Call → Type 0
    Rest calls = EndsWithOutputs q.options.last paths undo' out' report answer result calls

    pub writes_outputs : (a b c e : Option Disk) → Told a b (creates paths.undo.now mode None) → Told b c (creates paths.out.now mode None)
        → IfSome b (λ d. undo ≡ Some []) → IfSome c (λ d. out ≡ Some []) → RunsOver q known answer (undo, undo') (out, out') (Some [], Some report)
        → Made c e (λ d. Rest) → Made a e (λ d. WritesOutputs paths mode q known result)
    writes_outputs a b c e first second fresh_undo fresh_out ran rest =
        tries_on (creates paths.undo.now mode) (IsNotCreated paths.undo.now) [] result (CreatesOut (RunsOverDrafts paths q known result)) a b e first
        (made_as b e (λ d. CreatesOut (λ calls. (out ≡ Some []) × Rest calls)) (λ d. CreatesOut (RunsOverDrafts paths q known result))
        (tries_on (creates paths.out.now mode) (IsNotCreated paths.out.now) (discards paths.undo.now ∷ []) result (λ calls. (out ≡ Some []) × Rest calls) b c e second
        (made_as c e (λ d. Rest) (λ d calls. (out ≡ Some []) × Rest calls) rest (λ d calls is h. (at_some (out ≡ Some []) c d is fresh_out, h))))
        (λ d calls is. tries_as (creates paths.out.now mode) (IsNotCreated paths.out.now) (discards paths.undo.now ∷ []) result
        (λ after. (out ≡ Some []) × Rest after) (RunsOverDrafts paths q known result)
        (λ after h. (answer, undo', out', report, from (at_some (undo ≡ Some []) b d is fresh_undo) h.0, h.1)) calls))
      where
        from : undo ≡ Some [] → out ≡ Some [] → RunsOver q known answer (Some [], undo') (Some [], out') (Some [], Some report)
        from u o = subst (λ (t : Option (List ℕ)). RunsOver q known answer (t, undo') (Some [], out') (Some [], Some report)) u
            (subst (λ (t : Option (List ℕ)). RunsOver q known answer (undo, undo') (t, out') (Some [], Some report)) o ran)

-- after the tool's own fault the drafts are removed
pub ends_in_fault : (last : Option ℕ) (paths : OutputPaths) (undo out : Option (List ℕ)) (report : List ℕ) (told : ToolFault) (e : Fault) (a b c : Option Disk)
    → Told a b (discards paths.out.now) → Told b c (discards paths.undo.now) → IsModifyFault last told e
    → Made a c (λ d. EndsWithOutputs last paths undo out report (Err told) (Err e))
ends_in_fault last paths undo out report told e a b c first second fails =
    made_as a c (Just (both_discarded paths)) (λ d. EndsWithOutputs last paths undo out report (Err told) (Err e))
    (just_two a b c (discards paths.out.now) (discards paths.undo.now) first second) (λ d calls is same. (same, fails))

-- where no files are to be written
pub writes_report : (q : RunTerms) (known : Sources) (answer : Result Summary ToolFault) (report : List ℕ) (result : Result Summary Fault) (a b : Option Disk)
    → RunsOver q known answer (None, None) (None, None) (Some [], Some report) → Made a b (λ d. EndsWithoutOutputs (IsModifyFault q.options.last) report answer result)
    → Made a b (λ d. WritesReport q known result)
writes_report q known answer report result a b ran ended =
    made_as a b (λ d. EndsWithoutOutputs (IsModifyFault q.options.last) report answer result) (λ d. WritesReport q known result) ended (λ d calls is h. (answer, report, ran, h))

module _ {A : Type 0} (tells : ToolFault → Fault → Type 0) (report : List ℕ) where
  pub report_refused : (answer : A) (why : Refusal) (e : Fault) (a b : Option Disk) → Told a b (reports report (Some why)) → IsNotReported why e
      → Made a b (λ d. EndsWithoutOutputs {A = A} tells report (Ok answer) (Err e))
  report_refused answer why e a b told fails =
      let failed : Result A Fault = Err e in
      tries_refused (reports report) IsNotReported [] failed (λ d. Ends answer failed) a b b why told (just_none b) fails

  pub reported : (answer : A) (a b : Option Disk) → Told a b (reports report None) → Made a b (λ d. EndsWithoutOutputs {A = A} tells report (Ok answer) (Ok answer))
  reported answer a b told =
      let done : Result A Fault = Ok answer in
      tries_on (reports report) IsNotReported [] done (Ends answer done) a b b told (ends b answer)

pub no_report_due : (A : Type 0) (tells : ToolFault → Fault → Type 0) (report : List ℕ) (told : ToolFault) (e : Fault) (a : Option Disk) → tells told e
    → Made a a (λ d. EndsWithoutOutputs {A = A} tells report (Err told) (Err e))
no_report_due A tells report told e a fails = made_none a (λ d. EndsWithoutOutputs {A = A} tells report (Err told) (Err e)) (λ d is. (refl, fails))

-- the files to be written, with what the two sources have left and the mode
module _ (rows : List TypeRow) (words : ModifyWords) (result : Result Summary Fault) (mode : ℕ) (copy changes : Option (List ℕ)) where
  abbrev All : Disk → List Call → Type 0
  All d calls = WritesAll (outputs_of words) (d.mode_at words.data.now) (terms_of rows words) (sources_of words d) result calls

  same_sources : (d : Disk) → copy ≡ d.text_at words.data.now → changes ≡ changes_text d (option_copied words.changes) → sources copy changes ≡ sources_of words d
  same_sources d e f = λ i. sources (e i) (f i)

  pub writes_some : (a b : Option Disk) (paths : OutputPaths) → outputs_of words ≡ Some paths → IfSome a (λ d. copy ≡ d.text_at words.data.now)
      → IfSome a (λ d. changes ≡ changes_text d (option_copied words.changes)) → IfSome a (λ d. mode ≡ d.mode_at words.data.now)
      → Made a b (λ d. WritesOutputs paths mode (terms_of rows words) (sources copy changes) result) → Made a b All
  writes_some a None paths is e f m made = tt
  writes_some None (Some last) paths is e f m made = absurd (made)
  writes_some (Some d) (Some last) paths is e f m made = (
    made.0,
    made.1,
    subst (λ (o : Option OutputPaths). WritesAll o (d.mode_at words.data.now) (terms_of rows words) (sources_of words d) result made.0) (sym is)
        (subst (λ (n : ℕ). WritesOutputs paths n (terms_of rows words) (sources_of words d) result made.0) m
        (subst (λ (k : Sources). WritesOutputs paths mode (terms_of rows words) k result made.0) (same_sources d e f) made.2)),
  )

  pub writes_none : (a b : Option Disk) → outputs_of words ≡ None → IfSome a (λ d. copy ≡ d.text_at words.data.now)
      → IfSome a (λ d. changes ≡ changes_text d (option_copied words.changes))
      → Made a b (λ d. WritesReport (terms_of rows words) (sources copy changes) result) → Made a b All
  writes_none a None is e f made = tt
  writes_none None (Some last) is e f made = absurd (made)
  writes_none (Some d) (Some last) is e f made = (
    made.0,
    made.1,
    subst (λ (o : Option OutputPaths). WritesAll o (d.mode_at words.data.now) (terms_of rows words) (sources_of words d) result made.0) (sym is)
        (subst (λ (k : Sources). WritesReport (terms_of rows words) k result made.0) (same_sources d e f) made.2),
  )

-- ---- the run from its beginning, where no path is given twice

-- ---- the calls under some types

module _ (rows : List TypeRow) (words : ModifyWords) (result : Result Summary Fault) where
  abbrev Outputs : Disk → List Call → Type 0
  Outputs d calls = WritesAll (outputs_of words) (d.mode_at words.data.now) (terms_of rows words) (sources_of words d) result calls

  abbrev Changes : Disk → List Call → Type 0
  Changes d calls = OpensChanges (option_copied words.changes) result (Outputs d) calls

  abbrev Under : Disk → List Call → Type 0
  Under d calls = CallsUnder rows words d result calls

  pub no_copy : (a b : Option Disk) (why : Refusal) → Told a b (opens words.data.now (Some why)) → FailsSo (IsNotOpened words.data.now why) result → Made a b Under
  no_copy a b why told fails = tries_refused (opens words.data.now) (IsNotOpened words.data.now) [] result Changes a b b why told (just_none b) fails

  opened : (a b e : Option Disk) → Told a b (opens words.data.now None) → Made b e Changes → Made a e Under
  opened a b e first made = made_then a b e (opens words.data.now None) Under Changes first made (λ d after is h. inl (after, refl, h))

  pub with_input : (a b c e : Option Disk) → option_copied words.changes ≡ None → Told a b (opens words.data.now None) → Told b c standard_input → Made c e Outputs → Made a e Under
  with_input a b c e is first second made =
      opened a b e first
      (made_then b c e standard_input Changes Outputs second made
      (λ d after at h. subst (λ (o : Option (List ℕ)). OpensChanges o result (Outputs d) (standard_input ∷ after)) (sym is) (after, refl, h)))

  pub with_file : (a b c e : Option Disk) (path : List ℕ) → option_copied words.changes ≡ Some path → Told a b (opens words.data.now None) → Told b c (opens path None)
      → Made c e Outputs → Made a e Under
  with_file a b c e path is first second made =
      opened a b e first
      (made_then b c e (opens path None) Changes Outputs second made
      (λ d after at h. subst (λ (o : Option (List ℕ)). OpensChanges o result (Outputs d) (opens path None ∷ after)) (sym is) (inl (after, refl, h))))

  pub no_file : (a b c : Option Disk) (path : List ℕ) (why : Refusal) → option_copied words.changes ≡ Some path → Told a b (opens words.data.now None)
      → Told b c (opens path (Some why)) → FailsSo (IsNotOpened path why) result → Made a c Under
  no_file a b c path why is first second fails =
      opened a b c first
      (made_as b c (λ d. Tries (opens path) (IsNotOpened path) [] result (Outputs d)) Changes
      (tries_refused (opens path) (IsNotOpened path) [] result Outputs b c c why second (just_none c) fails)
      (λ d calls at h. subst (λ (o : Option (List ℕ)). OpensChanges o result (Outputs d) calls) (sym is) h))

-- ---- the whole run, where no path is given twice

module _ (words : ModifyWords) (repeated : Option (List ℕ)) (result : Result Summary Fault) (none : repeated ≡ None) where
  abbrev GoesOn : Disk → List TypeRow → List Call → Type 0
  GoesOn d rows calls = CallsUnder rows words d result calls

  abbrev Whole : Disk → List Call → Type 0
  Whole d calls = AllCalls repeated words d result calls

  whole : (config : Option (List ℕ)) → option_copied words.config ≡ config → (d : Disk) (calls : List Call) → ReadsTypes config d result (GoesOn d) calls → Whole d calls
  whole config is d calls h =
      subst (λ (r : Option (List ℕ)). AllCalls r words d result calls) (sym none) (subst (λ (o : Option (List ℕ)). ReadsTypes o d result (GoesOn d) calls) (sym is) h)

  -- without a configuration
  pub without_config : (a e : Option Disk) (rows : List TypeRow) → option_copied words.config ≡ None → rows ≡ builtin_rows → Made a e (λ d. CallsUnder rows words d result) → Made a e Whole
  without_config a e rows is same made =
      made_as a e (λ d. CallsUnder rows words d result) Whole made (λ d calls at h. whole None is d calls (inl (rows, same, h)))

  pub no_builtin : (a : Option Disk) → option_copied words.config ≡ None → FailsSo (IsRunFault Memory) result → Made a a Whole
  no_builtin a is fails = made_none a Whole (λ d at. whole None is d [] (inr (Memory, refl, refl, fails)))

  module _ (path : List ℕ) (is : option_copied words.config ≡ Some path) where
    -- the configuration is not opened
    pub no_config : (a b : Option Disk) (why : Refusal) → Told a b (opens path (Some why)) → FailsSo (IsNotOpened path why) result → Made a b Whole
    no_config a b why told fails =
        made_as a b (λ d. ReadsTypes (Some path) d result (GoesOn d)) Whole
        (tries_refused (opens path) (IsNotOpened path) [] result (λ d. FindsTypes (AreTypesOf (d.text_at path)) (IsTypesFault builtin_rows (d.text_at path)) result (GoesOn d)) a b b why told (just_none b) fails)
        (λ d calls at h. whole (Some path) is d calls h)

    -- it is opened; and what its reader has left is its text
    module _ (a b e : Option Disk) (text : Option (List ℕ)) (told : Told a b (opens path None)) (left : IfSome b (λ d. text ≡ d.text_at path)) where
      left_at : (d : Disk) → b ≡ Some d → text ≡ d.text_at path
      left_at d at = subst (λ (s : Option Disk). IfSome s (λ x. text ≡ x.text_at path)) at left

      pub with_config : (rows : List TypeRow) → AreTypesOf text rows → Made b e (λ d. CallsUnder rows words d result) → Made a e Whole
      with_config rows types made =
          made_then a b e (opens path None) Whole (λ d calls. (text ≡ d.text_at path) × CallsUnder rows words d result calls) told
          (made_as b e (λ d. CallsUnder rows words d result) (λ d calls. (text ≡ d.text_at path) × CallsUnder rows words d result calls) made (λ d calls at h. (left_at d at, h)))
          (λ d after at h. whole (Some path) is d (opens path None ∷ after)
          (inl (after, refl, inl (rows, subst (λ (t : Option (List ℕ)). AreTypesOf t rows) h.0 types, h.1))))

    pub bad_config : (a b : Option Disk) (text : Option (List ℕ)) (why : ToolFault) → Told a b (opens path None) → IfSome b (λ d. text ≡ d.text_at path) → IsTypesFault builtin_rows text why
        → FailsSo (IsRunFault why) result → Made a b Whole
    bad_config a b text why told left fault fails =
        made_then a b b (opens path None) Whole (λ d calls. (text ≡ d.text_at path) × (calls ≡ [])) told
        (made_as b b (Just []) (λ d calls. (text ≡ d.text_at path) × (calls ≡ [])) (just_none b) (λ d calls at same. (left_at a b b text told left d at, same)))
        (λ d after at h. whole (Some path) is d (opens path None ∷ after)
        (inl (after, refl, inr (why, subst (λ (t : Option (List ℕ)). IsTypesFault builtin_rows t why) h.0 fault, h.1, fails))))
