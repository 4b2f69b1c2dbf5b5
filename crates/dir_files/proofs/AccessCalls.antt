-- The calls of slapacl on its file system, one after the other.
use Rattle.std.proofs.Common.{◌≡◌, ℕ, List, [], ◌∷◌, Bool, false, cond, Option, None, Some, IfSome, Result, Err, inl, inr, refl, sym, ap, subst}
use Rattle.dir_names.specs.Orders.{bytes_eq}
use Rattle.dir_names.specs.Table.Builtin.{builtin_rows}
use Rattle.dir_tools.specs.declared.fault.ToolFault.{ToolFault}
use Rattle.dir_tools.specs.AccessAnswers.{AccessSources, AnswersQuestion, IsAccessFault, IsConfigFault, IsWholeReport, access_sources}
use Rattle.dir_tools.specs.AccessReport.{AccessTerms}
use Rattle.dir_tools.specs.Writing.{WroteReport}
use Rattle.dir_tools.proofs.AccessLemmas.{answers_so, blamed, nothing_written, whole_answer}
use Rattle.dir_files.specs.declared.words.AccessWords.{AccessWords}
use Rattle.dir_files.specs.declared.fault.Fault.{Fault}
use Rattle.dir_files.specs.declared.files.Refusal.{Refusal}
use Rattle.dir_files.specs.AccessRuns.{AccessCalls, AllAccessCalls, Asks, AsksOrStops, AsksOver, IsEndOfNotes, access_sources_of, access_terms_of, first_repeated_file}
use Rattle.dir_files.specs.Faults.{FailsSo, IsNotOpened, IsRunFault}
use Rattle.dir_files.specs.Files.{Call, Disk, Told, opens}
use Rattle.dir_files.specs.Runs.{EndsWithoutOutputs, Made, Opens}
use Rattle.dir_files.proofs.CallLemmas.{just_none, made_as, made_none, made_then, no_report_due, still, tries_refused}

pub none_repeated : (words : AccessWords) → bytes_eq words.data.now words.config.now ≡ false → first_repeated_file words ≡ None
none_repeated words differ = ap (λ (b : Bool). cond b (Some words.data.now) None) differ

-- what the tool writes into the report is what the buffer has taken
pub asks_over : {A : Type 0} (t : AccessTerms) (known : AccessSources) (answer : Result A ToolFault) (text : List ℕ) (before after : Option (List ℕ)) (report : List ℕ)
    → WroteReport answer (before, after) text → AnswersQuestion t known answer text → IsWholeReport t known answer text
    → before ≡ Some [] → after ≡ Some report → AsksOver t known answer (Some [], Some report)
asks_over t known answer text before after report wrote answers whole fresh taken = record {
  report = text;
  wrote = subst (λ (x : Option (List ℕ)). WroteReport answer (Some [], x) text) taken (subst (λ (x : Option (List ℕ)). WroteReport answer (x, after) text) fresh wrote);
  answers = answers;
  whole = whole;
}

pub asks_and_ends : {A : Type 0} (t : AccessTerms) (known : AccessSources) (answer : Result A ToolFault) (report : List ℕ) (result : Result A Fault) (a b : Option Disk)
    → AsksOver t known answer (Some [], Some report) → Made a b (λ d. EndsWithoutOutputs IsRunFault report answer result) → Made a b (λ d. Asks t known result)
asks_and_ends t known answer report result a b over ended =
    made_as a b (λ d. EndsWithoutOutputs IsRunFault report answer result) (λ d. Asks t known result) ended (λ d calls is h. (answer, report, over, h))

-- ---- where the tool doesn't answer

-- the notes end the run
pub stops : (A : Type 0) (words : AccessWords) (known : AccessSources) (e : Fault) (a : Option Disk) → IsEndOfNotes words.strict e → Made a a (λ d. AsksOrStops {A = A} words known (Err e))
stops A words known e a h = made_none a (λ d. AsksOrStops {A = A} words known (Err e)) (λ d is. inl (refl, h))

pub answered : {A : Type 0} (words : AccessWords) (known : AccessSources) (result : Result A Fault) (a b : Option Disk)
    → Made a b (λ d. Asks (access_terms_of words) known result) → Made a b (λ d. AsksOrStops words known result)
answered words known result a b made = made_as a b (λ d. Asks (access_terms_of words) known result) (λ d. AsksOrStops words known result) made (λ d calls is h. inr h)

-- the configuration has a fault, or is not read
pub unread : (A : Type 0) (words : AccessWords) (config copy : Option (List ℕ)) (e : ToolFault) (shown : Fault) (a : Option Disk) → IsConfigFault builtin_rows config e → IsRunFault e shown
    → Made a a (λ d. AsksOrStops {A = A} words (access_sources config copy) (Err shown))
unread A words config copy e shown a h is =
    let t : AccessTerms = access_terms_of words in
    let known : AccessSources = access_sources config copy in
    let answer : Result A ToolFault = Err e in
    let at_fault : IsAccessFault t known e = blamed t known e h in
    let over : AsksOver t known answer (Some [], Some []) = record {
      report = [];
      wrote = nothing_written A t known e (Some []) at_fault;
      answers = answers_so A t known e [] at_fault;
      whole = whole_answer A t config copy e [] at_fault;
    } in
    answered words known (Err shown) a a (asks_and_ends t known answer [] (Err shown) a a over (no_report_due A IsRunFault [] e shown a is))

-- ---- the question from its beginning, where no path is given twice

module _ {A : Type 0} (words : AccessWords) (result : Result A Fault) (none : first_repeated_file words ≡ None) where
  abbrev Asking : Disk → List Call → Type 0
  Asking d calls = AsksOrStops words (access_sources_of words d) result calls

  abbrev Copy : Disk → List Call → Type 0
  Copy d calls = Opens words.data.now result (Asking d) calls

  abbrev Whole : Disk → List Call → Type 0
  Whole d calls = AllAccessCalls (first_repeated_file words) words d result calls

  whole : (d : Disk) (calls : List Call) → AccessCalls words d result calls → Whole d calls
  whole d calls h = subst (λ (r : Option (List ℕ)). AllAccessCalls r words d result calls) (sym none) h

  pub no_config : (a b : Option Disk) (why : Refusal) → Told a b (opens words.config.now (Some why)) → FailsSo (IsNotOpened words.config.now why) result → Made a b Whole
  no_config a b why told fails =
      made_as a b (λ d. AccessCalls words d result) Whole
      (tries_refused (opens words.config.now) (IsNotOpened words.config.now) [] result Copy a b b why told (just_none b) fails)
      (λ d calls is h. whole d calls h)

  opened : (a b e : Option Disk) → Told a b (opens words.config.now None) → Made b e Copy → Made a e Whole
  opened a b e first made =
      made_then a b e (opens words.config.now None) Whole Copy first made (λ d after is h. whole d (opens words.config.now None ∷ after) (inl (after, refl, h)))

  pub no_copy : (a b c : Option Disk) (why : Refusal) → Told a b (opens words.config.now None) → Told b c (opens words.data.now (Some why))
      → FailsSo (IsNotOpened words.data.now why) result → Made a c Whole
  no_copy a b c why first second fails =
      opened a b c first (tries_refused (opens words.data.now) (IsNotOpened words.data.now) [] result Asking b c c why second (just_none c) fails)

  -- both files are opened, and the question is asked over their texts
  pub asks : (a b c e : Option Disk) (config copy : Option (List ℕ)) → Told a b (opens words.config.now None) → Told b c (opens words.data.now None)
      → IfSome b (λ d. config ≡ d.text_at words.config.now) → IfSome c (λ d. copy ≡ d.text_at words.data.now)
      → Made c e (λ d. AsksOrStops words (access_sources config copy) result) → Made a e Whole
  asks a b c e config copy first second config_text copy_text made =
      opened a b e first
      (made_then b c e (opens words.data.now None) Copy Asking second
      (made_as c e (λ d. AsksOrStops words (access_sources config copy) result) Asking made
      (λ d calls is h. subst (λ (k : AccessSources). AsksOrStops words k result calls) (same d is) h))
      (λ d after is h. inl (after, refl, h)))
    where
      config_now : IfSome c (λ d. config ≡ d.text_at words.config.now)
      config_now = still (λ text_at mode_at typed. config ≡ text_at words.config.now) b c (opens words.data.now None) second config_text

      same : (d : Disk) → c ≡ Some d → access_sources config copy ≡ access_sources_of words d
      same d is =
          let config_is : config ≡ d.text_at words.config.now = subst (λ (s : Option Disk). IfSome s (λ x. config ≡ x.text_at words.config.now)) is config_now in
          let copy_is : copy ≡ d.text_at words.data.now = subst (λ (s : Option Disk). IfSome s (λ x. copy ≡ x.text_at words.data.now)) is copy_text in
          λ i. access_sources (config_is i) (copy_is i)
