-- The calls of slapconf.
use Rattle.std.proofs.Common.{◌≡◌, ℕ, ◌<◌, List, [], ◌∷◌, ◌++◌, length, map, Option, None, Some, IfSome, Result, Ok, Err, inl, inr, refl, sym, ap, subst, ◌∙◌, append-nil, append_assoc}
use Rattle.std.specs.Io.KnownBytes.{Appends}
use Rattle.dir_names.specs.Keys.{DnKeys}
use Rattle.dir_names.specs.Table.Builtin.{builtin_rows}
use Rattle.dir_conf.specs.CnConfig.{flat_of_config}
use Rattle.dir_conf.specs.Outcome.{IsConfFaultOf, IsFileFaultOf}
use Rattle.dir_conf.specs.SlapdConf.{flat_of_files}
use Rattle.dir_conf.specs.SlapdConf.Files.{file_of}
use Rattle.dir_conf.specs.declared.fault.ConfFault.{ConfFault}
use Rattle.dir_conf.specs.declared.fault.ConfFault.TheVariants as conf
use Rattle.dir_conf.specs.declared.site.Tally.{Tally}
use Rattle.dir_conf.specs.declared.slapd_conf.FileFault.{FileFault}
use Rattle.dir_tools.specs.declared.fault.ToolFault.TheVariants as tool
use Rattle.dir_files.specs.declared.fault.Fault.{Fault}
use Rattle.dir_files.specs.declared.fault.Fault.TheVariants.{FlatUnwritten}
use Rattle.dir_files.specs.declared.including.ReadFiles.{ReadFiles}
use Rattle.dir_files.specs.declared.including.Unread.{Unread}
use Rattle.dir_files.specs.declared.including.Unread.TheVariants as unread
use Rattle.dir_files.specs.ConfRuns.{FlatConf, IsConfFault, IsUnreadText, MakesFlat, MakesForSuffix, MakesOf, MakesOfConfig, MakesOfSlapdConf, MakesOfText, WritesIfRoom, conf_report, in_no_file}
use Rattle.dir_files.specs.declared.words.ConfSource.{ConfSource}
use Rattle.dir_files.specs.declared.words.ConfWords.{ConfWords}
use Rattle.dir_tools.specs.Suffix.{suffix_of}
use Rattle.dir_files.specs.Faults.{IsRunFault, IsTool}
use Rattle.dir_files.specs.Files.{Call, Disk, Told, creates, discards, opens}
use Rattle.dir_files.specs.Including.{Does, IsNotRead, ReadsFiles}
use Rattle.dir_files.specs.OneOutput.{Finishes}
use Rattle.dir_files.specs.Runs.{Made}
use Rattle.dir_files.proofs.CallLemmas.{Just, at_some, just_two, made_as, made_none, made_then}
use Rattle.dir_files.proofs.IncludingCalls.{Here}

-- ---- the flat configuration is written

taken : (written : Option (List ℕ)) (text : List ℕ) → Appends (Some []) written text → IfSome written (λ t. t ≡ text)
taken None text h = tt
taken (Some t) text h = h

pub writes : (a b e : Option Disk) (out : List ℕ) (mode : ℕ) (fresh written : Option (List ℕ)) (report : List ℕ) (flat : FlatConf) (result : Result Tally Fault) → Told a b (creates out mode None) → IfSome b (λ d. fresh ≡ Some []) → Appends fresh written flat.0
    → report ≡ conf_report flat.1 → Made b e (λ d. Finishes out written report FlatUnwritten flat.1 result) → Made a e (λ d. WritesIfRoom out mode flat result)
writes a b e out mode fresh written report flat result told empty appends same made =
    made_then a b e (creates out mode None) (λ d. WritesIfRoom out mode flat result) (λ d calls. (fresh ≡ Some []) × Finishes out written (conf_report flat.1) FlatUnwritten flat.1 result calls) told
    (made_as b e (λ d. Finishes out written report FlatUnwritten flat.1 result) (λ d calls. (fresh ≡ Some []) × Finishes out written (conf_report flat.1) FlatUnwritten flat.1 result calls) made
    (λ d calls is h. (at_some (fresh ≡ Some []) b d is empty, subst (λ (r : List ℕ). Finishes out written r FlatUnwritten flat.1 result calls) same h)))
    (λ d after is h. inr (inl (after, refl, inr (written, taken written flat.0 (subst (λ (o : Option (List ℕ)). Appends o written flat.0) h.0 appends), h.1))))

-- the draft can't be written, and is removed
pub unwritten : (a b e : Option Disk) (out : List ℕ) (mode : ℕ) (flat : FlatConf) → Told a b (creates out mode None) → Told b e (discards out) → Made a e (λ d. WritesIfRoom out mode flat (Err FlatUnwritten))
unwritten a b e out mode flat told gone =
    made_as a e (Just (creates out mode None ∷ discards out ∷ [])) (λ d. WritesIfRoom out mode flat (Err FlatUnwritten)) (just_two a b e (creates out mode None) (discards out) told gone)
    (λ d calls is same. inr (inl (discards out ∷ [], same, inl (refl, refl))))

-- ---- faults of the configuration

-- the fault is the definition's
no_flat_so : (why : FileFault) (wanted : Result FlatConf FileFault) (out : List ℕ) (mode : ℕ) (e : Fault) → wanted ≡ Err why → IsConfFault why e → MakesFlat wanted out mode (Err e) []
no_flat_so why wanted out mode e is told = subst (λ (w : Result FlatConf FileFault). MakesFlat w out mode (Err e) []) (sym is) (refl, inl told)

-- or memory ran out
no_room : (wanted : Result FlatConf FileFault) (out : List ℕ) (mode : ℕ) (e : Fault) → IsTool tool.Memory e → MakesFlat wanted out mode (Err e) []
no_room (Ok flat) out mode e told = inl (refl, told)
no_room (Err why) out mode e told = (refl, inr told)

of_text : (why : ConfFault) (wanted : Result FlatConf ConfFault) (out : List ℕ) (mode : ℕ) (e : Fault) → wanted ≡ Err why → IsConfFault (record { file = None; fault = why }) e → MakesFlat (in_no_file wanted) out mode (Err e) []
of_text why wanted out mode e is told = no_flat_so (record { file = None; fault = why }) (in_no_file wanted) out mode e (ap in_no_file is) told

pub no_flat_text : (why : ConfFault) (wanted : Result FlatConf ConfFault) (out : List ℕ) (mode : ℕ) (e : Fault) → IsConfFaultOf why wanted → IsConfFault (record { file = None; fault = why }) e → MakesFlat (in_no_file wanted) out mode (Err e) []
no_flat_text conf.Memory wanted out mode e is told = no_room (in_no_file wanted) out mode e told
no_flat_text (conf.BadLine line why) wanted out mode e is told = of_text (conf.BadLine line why) wanted out mode e is told
no_flat_text (conf.BadInclude line) wanted out mode e is told = of_text (conf.BadInclude line) wanted out mode e is told
no_flat_text (conf.BadOrder line) wanted out mode e is told = of_text (conf.BadOrder line) wanted out mode e is told
no_flat_text (conf.BadArguments line) wanted out mode e is told = of_text (conf.BadArguments line) wanted out mode e is told
no_flat_text (conf.BadName line) wanted out mode e is told = of_text (conf.BadName line) wanted out mode e is told
no_flat_text (conf.SecondDatabase line) wanted out mode e is told = of_text (conf.SecondDatabase line) wanted out mode e is told
no_flat_text (conf.Subordinate line) wanted out mode e is told = of_text (conf.Subordinate line) wanted out mode e is told
no_flat_text (conf.Ended why) wanted out mode e is told = of_text (conf.Ended why) wanted out mode e is told
no_flat_text conf.NoDatabase wanted out mode e is told = of_text conf.NoDatabase wanted out mode e is told
no_flat_text conf.TooLong wanted out mode e is told = of_text conf.TooLong wanted out mode e is told

pub no_flat_files : (file : Option (List ℕ)) (cause : ConfFault) (wanted : Result FlatConf FileFault) (out : List ℕ) (mode : ℕ) (e : Fault) → IsFileFaultOf (record { file = file; fault = cause }) wanted → IsConfFault (record { file = file; fault = cause }) e → MakesFlat wanted out mode (Err e) []
no_flat_files file conf.Memory wanted out mode e is told = no_room wanted out mode e told
no_flat_files file (conf.BadLine line why) wanted out mode e is told = no_flat_so _ wanted out mode e is told
no_flat_files file (conf.BadInclude line) wanted out mode e is told = no_flat_so _ wanted out mode e is told
no_flat_files file (conf.BadOrder line) wanted out mode e is told = no_flat_so _ wanted out mode e is told
no_flat_files file (conf.BadArguments line) wanted out mode e is told = no_flat_so _ wanted out mode e is told
no_flat_files file (conf.BadName line) wanted out mode e is told = no_flat_so _ wanted out mode e is told
no_flat_files file (conf.SecondDatabase line) wanted out mode e is told = no_flat_so _ wanted out mode e is told
no_flat_files file (conf.Subordinate line) wanted out mode e is told = no_flat_so _ wanted out mode e is told
no_flat_files file (conf.Ended why) wanted out mode e is told = no_flat_so _ wanted out mode e is told
no_flat_files file conf.NoDatabase wanted out mode e is told = no_flat_so _ wanted out mode e is told
no_flat_files file conf.TooLong wanted out mode e is told = no_flat_so _ wanted out mode e is told

-- ---- from cn=config

module _ (suffix : DnKeys) (path out : List ℕ) (a b : Option Disk) (told : Told a b (opens path None)) (left : Option (List ℕ)) (here : Here b path left) where
  there : (d : Disk) (P : Option (List ℕ) → Type 0) → b ≡ Some d → P left → P (d.text_at path)
  there d P is = subst P (subst (λ (x : Option Disk). Here x path left) is here)

  -- the file is opened, and this is what is done with its text
  opened : (c : Option Disk) (result : Result Tally Fault) → Made b c (λ d. MakesOfText suffix (d.text_at path) out (d.mode_at path) result) → Made a c (MakesOfConfig suffix path out result)
  opened c result made =
      made_then a b c (opens path None) (MakesOfConfig suffix path out result) (λ d. MakesOfText suffix (d.text_at path) out (d.mode_at path) result) told made (λ d after is h. inl (after, refl, h))

  long_here : (why : Unread) (d : Disk) → b ≡ Some d → (why ≡ unread.TooLong → IfSome left (λ known. 16777216 < length known)) → IsUnreadText why (d.text_at path)
  long_here unread.TooLong d is long = there d (λ known. IfSome known (λ text. 16777216 < length text)) is (long refl)
  long_here unread.Failed d is long = tt
  long_here unread.Memory d is long = tt

  pub text_not_read : (why : Unread) (e : Fault) → (why ≡ unread.TooLong → IfSome left (λ known. 16777216 < length known)) → IsNotRead why e → Made a b (MakesOfConfig suffix path out (Err e))
  text_not_read why e long told_so =
      opened b (Err e) (made_none b (λ d. MakesOfText suffix (d.text_at path) out (d.mode_at path) (Err e)) (λ d is. inl (why, long_here why d is long, refl, told_so)))

  module _ (text : List ℕ) (same : IfSome left (λ known. text ≡ known)) where
    same_here : (d : Disk) → b ≡ Some d → IfSome (d.text_at path) (λ known. text ≡ known)
    same_here d is = there d (λ known. IfSome known (λ all. text ≡ all)) is same

    pub text_has_none : (why : ConfFault) (e : Fault) → IsConfFaultOf why (flat_of_config builtin_rows suffix text) → IsConfFault (record { file = None; fault = why }) e → Made a b (MakesOfConfig suffix path out (Err e))
    text_has_none why e fault told_so =
        opened b (Err e) (made_none b (λ d. MakesOfText suffix (d.text_at path) out (d.mode_at path) (Err e))
        (λ d is. inr (text, same_here d is, no_flat_text why (flat_of_config builtin_rows suffix text) out (d.mode_at path) e fault told_so)))

    pub text_is_made : (c : Option Disk) (mode : ℕ) (flat : FlatConf) (result : Result Tally Fault) → flat_of_config builtin_rows suffix text ≡ Ok flat → IfSome b (λ d. mode ≡ d.mode_at path) → Made b c (λ d. WritesIfRoom out mode flat result) → Made a c (MakesOfConfig suffix path out result)
    text_is_made c mode flat result is_flat at_mode made =
        opened c result (made_as b c (λ d. WritesIfRoom out mode flat result) (λ d. MakesOfText suffix (d.text_at path) out (d.mode_at path) result) made
        (λ d calls is h. inr (text, same_here d is, subst (λ (w : Result FlatConf ConfFault). MakesFlat (in_no_file w) out (d.mode_at path) result calls) (sym is_flat) (subst (λ (m : ℕ). WritesIfRoom out m flat result calls) (moded d is) h))))
      where
        moded : (d : Disk) → b ≡ Some d → mode ≡ d.mode_at path
        moded d is = subst (λ (x : Option Disk). IfSome x (λ d. mode ≡ d.mode_at path)) is at_mode

-- ---- from slapd.conf

-- some calls, and then others that say nothing of the files
made_after : (a b c : Option Disk) (P R : Disk → List Call → Type 0) (Q : List Call → Type 0) → Does a b P → Made b c (λ d. Q) → ((d : Disk) (calls : List Call) (rest : List Call) → P d calls → Q rest → R d (calls ++ rest)) → Made a c R
made_after a b None P R Q does made h = tt
made_after a None (Some last) P R Q does made h = absurd (made)
made_after None (Some next) (Some last) P R Q does made h = absurd (does)
made_after (Some d) (Some next) (Some last) P R Q does made h =
    (does.0 ++ made.0, made.1 ∙ ap (λ (x : Disk). x.calls ++ made.0) does.1 ∙ append_assoc d.calls does.0 made.0, h d does.0 made.0 does.2 made.2)

pub made_by : (a b : Option Disk) (P : Disk → List Call → Type 0) → Does a b P → Made a b P
made_by a None P does = tt
made_by None (Some last) P does = absurd (does)
made_by (Some d) (Some last) P does = (does.0, ap (λ (x : Disk). x.calls) does.1, does.2)

module _ (suffix : DnKeys) (path out : List ℕ) (a b : Option Disk) where
  pub files_not_read : (e : Fault) → Does a b (ReadsFiles path (Err e)) → Made a b (MakesOfSlapdConf suffix path out (Err e))
  files_not_read e does = made_as a b (ReadsFiles path (Err e)) (MakesOfSlapdConf suffix path out (Err e)) (made_by a b (ReadsFiles path (Err e)) does) (λ d calls is h. inl h)

  module _ (read : ReadFiles) (does : Does a b (ReadsFiles path (Ok read))) where
    abbrev Wanted : Result FlatConf FileFault
    Wanted = flat_of_files builtin_rows suffix (map file_of read.files.items)

    pub files_are_made : (c : Option Disk) (flat : FlatConf) (result : Result Tally Fault) → Wanted ≡ Ok flat → Made b c (λ d. WritesIfRoom out read.mode flat result) → Made a c (MakesOfSlapdConf suffix path out result)
    files_are_made c flat result is_flat made =
        made_after a b c (ReadsFiles path (Ok read)) (MakesOfSlapdConf suffix path out result) (WritesIfRoom out read.mode flat result) does made
        (λ d calls rest h written. inr (
          map file_of read.files.items,
          calls,
          rest,
          refl,
          h.0,
          h.1,
          subst (λ (w : Result FlatConf FileFault). MakesFlat w out (d.mode_at path) result rest) (sym is_flat) (subst (λ (m : ℕ). WritesIfRoom out m flat result rest) h.2 written),
        ))

    pub files_have_none : (why : FileFault) (e : Fault) → IsFileFaultOf why Wanted → IsConfFault why e → Made a b (MakesOfSlapdConf suffix path out (Err e))
    files_have_none why e fault told_so =
        made_as a b (ReadsFiles path (Ok read)) (MakesOfSlapdConf suffix path out (Err e)) (made_by a b (ReadsFiles path (Ok read)) does)
        (λ d calls is h. inr (map file_of read.files.items, calls, [], sym (append-nil calls), h.0, h.1, no_flat_files why.file why.fault Wanted out (d.mode_at path) e fault told_so))

-- ---- the whole

pub no_suffix : (words : ConfWords) (a : Option Disk) (e : Fault) → IsRunFault tool.Memory e → Made a a (MakesForSuffix words (Err e))
no_suffix words a e told = made_none a (MakesForSuffix words (Err e)) (λ d is. inl (tool.Memory, tt, refl, told))

pub made_for : (words : ConfWords) (suffix : DnKeys) (source : ConfSource) (a b : Option Disk) (result : Result Tally Fault) → suffix_of builtin_rows words.suffix.now ≡ Some suffix → words.source ≡ source → Made a b (MakesOf suffix source words.out.now result) → Made a b (MakesForSuffix words result)
made_for words suffix source a b result is same made =
    made_as a b (MakesOf suffix source words.out.now result) (MakesForSuffix words result) made
    (λ d calls at h. inr (suffix, is, subst (λ (s : ConfSource). MakesOf suffix s words.out.now result d calls) (sym same) h))
