-- The calls of slapconf on its file system, and the flat configuration that it makes.
use Rattle.std.specs.Prelude.{◌≡◌, ◌⊎◌, ◌<◌, ℕ, ⊤, cond, List, [], ◌∷◌, ◌++◌, length, codes, Option, None, Some, IfSome, Result, Ok, Err}
use Rattle.std.specs.Fmt.{decimal}
use Rattle.dir_names.specs.Keys.{DnKeys}
use Rattle.dir_names.specs.Orders.{bytes_eq}
use Rattle.dir_names.specs.Table.Builtin.{builtin_rows}
use Rattle.dir_conf.specs.CnConfig.{flat_of_config}
use Rattle.dir_conf.specs.SlapdConf.{flat_of_files}
use Rattle.dir_conf.specs.SlapdConf.Files.{File}
use Rattle.dir_conf.specs.declared.fault.ConfFault.{ConfFault}
use Rattle.dir_conf.specs.declared.fault.ConfFault.TheVariants as conf
use Rattle.dir_conf.specs.declared.site.Tally.{Tally}
use Rattle.dir_conf.specs.declared.slapd_conf.FileFault.{FileFault}
use Rattle.dir_tools.specs.Suffix.{IsNoSuffix, suffix_of}
use Rattle.dir_tools.specs.declared.fault.ToolFault.{ToolFault}
use Rattle.dir_tools.specs.declared.fault.ToolFault.TheVariants as tool
use Rattle.dir_files.specs.declared.fault.Fault.{Fault}
use Rattle.dir_files.specs.declared.fault.Fault.TheVariants.{CannotOpen, Conf, Exists, FlatUnwritten, SamePath, Tool}
use Rattle.dir_files.specs.declared.including.Unread.{Unread}
use Rattle.dir_files.specs.declared.including.Unread.TheVariants as unread
use Rattle.dir_files.specs.declared.words.ConfSource.{ConfSource}
use Rattle.dir_files.specs.declared.words.ConfSource.TheVariants.{SlapdConf, CnConfig}
use Rattle.dir_files.specs.declared.words.ConfWords.{ConfWords}
use Rattle.dir_files.specs.Faults.{FailsSo, IsCannotOpen, IsNotCreated, IsRunFault, IsTool}
use Rattle.dir_files.specs.Files.{Call, Disk, creates, discards}
use Rattle.dir_files.specs.Including.{AreFilesOf, AreOpens, AreReadBy, IsNotRead, StopsBy}
use Rattle.dir_files.specs.OneOutput.{Finishes}
use Rattle.dir_files.specs.Runs.{Calls, Opens, Tries}

-- a flat configuration, and how much it says
abbrev pub FlatConf : Type 0
FlatConf = List ℕ × Tally

-- `types T, rules R, frontend F`
abbrev pub conf_report : Tally → List ℕ
conf_report tally = codes "types " ++ decimal tally.types ++ codes ", rules " ++ decimal tally.rules ++ codes ", frontend " ++ decimal tally.frontend ++ codes "\n"

-- ---- faults

abbrev pub IsConfFaultBy : ConfFault → FileFault → Fault → Type 0
IsConfFaultBy conf.Memory why e = IsTool tool.Memory e
IsConfFaultBy cause why e = e ≡ Conf why

-- a fault of the configuration. That memory ran out is told as by every tool
abbrev pub IsConfFault : FileFault → Fault → Type 0
IsConfFault why e = IsConfFaultBy why.fault why e

-- a fault of a text of cn=config has no file
abbrev pub in_no_file : Result FlatConf ConfFault → Result FlatConf FileFault
in_no_file (Ok flat) = Ok flat
in_no_file (Err why) = Err (record { file = None; fault = why })

-- ---- the flat configuration is written

-- it is what the draft has when this is synced; or the draft is removed, since it can't be written
abbrev pub WritesDraft : List ℕ → FlatConf → Result Tally Fault → Calls
WritesDraft out flat result calls = ((calls ≡ discards out ∷ []) × FailsSo (λ e. e ≡ FlatUnwritten) result)
    ⊎ ((written : Option (List ℕ)) × IfSome written (λ text. text ≡ flat.0) × Finishes out written (conf_report flat.1) FlatUnwritten flat.1 result calls)

abbrev pub WritesFlat : List ℕ → ℕ → FlatConf → Result Tally Fault → Calls
WritesFlat out mode flat result = Tries (creates out mode) (IsNotCreated out) [] result (WritesDraft out flat result)

-- memory ran out before anything was made, or the flat configuration is written
abbrev pub WritesIfRoom : List ℕ → ℕ → FlatConf → Result Tally Fault → Calls
WritesIfRoom out mode flat result calls = ((calls ≡ []) × FailsSo (IsTool tool.Memory) result) ⊎ WritesFlat out mode flat result calls

-- what was read has a flat configuration, which is written; or it has this fault, and no call is left
abbrev pub MakesFlat : Result FlatConf FileFault → List ℕ → ℕ → Result Tally Fault → Calls
MakesFlat (Ok flat) out mode result calls = WritesIfRoom out mode flat result calls
MakesFlat (Err why) out mode result calls = (calls ≡ []) × FailsSo (λ e. IsConfFault why e ⊎ IsTool tool.Memory e) result

-- ---- from cn=config

abbrev pub IsUnreadText : Unread → Option (List ℕ) → Type 0
IsUnreadText unread.TooLong known = IfSome known (λ text. 16777216 < length text)
IsUnreadText unread.Failed known = ⊤
IsUnreadText unread.Memory known = ⊤

-- the text isn't read, and no call is left; or it is what is there
abbrev pub MakesOfText : DnKeys → Option (List ℕ) → List ℕ → ℕ → Result Tally Fault → Calls
MakesOfText suffix known out mode result calls =
    ((why : Unread) × IsUnreadText why known × (calls ≡ []) × FailsSo (IsNotRead why) result)
    ⊎ ((text : List ℕ) × IfSome known (λ all. text ≡ all) × MakesFlat (in_no_file (flat_of_config builtin_rows suffix text)) out mode result calls)

abbrev pub MakesOfConfig : DnKeys → List ℕ → List ℕ → Result Tally Fault → Disk → Calls
MakesOfConfig suffix path out result d = Opens path result (MakesOfText suffix (d.text_at path) out (d.mode_at path) result)

-- ---- from slapd.conf

-- the first file can't be opened, or a file isn't read: only files were opened until then
abbrev pub IsUnreadSo : List ℕ → Disk → List Call → Fault → Type 0
IsUnreadSo path d calls e = (AreOpens calls × IsCannotOpen path e) ⊎ ((why : Unread) × IsNotRead why e × StopsBy 16777216 why d calls)

-- all files are read before anything is made
abbrev pub MakesOfSlapdConf : DnKeys → List ℕ → List ℕ → Result Tally Fault → Disk → Calls
MakesOfSlapdConf suffix path out result d calls = FailsSo (IsUnreadSo path d calls) result
    ⊎ ((files : List File) × (reading : List Call) × (rest : List Call) × (calls ≡ reading ++ rest) × AreFilesOf path files × AreReadBy d files reading
    × MakesFlat (flat_of_files builtin_rows suffix files) out (d.mode_at path) result rest)

-- ---- the whole

abbrev pub MakesOf : DnKeys → ConfSource → List ℕ → Result Tally Fault → Disk → Calls
MakesOf suffix (SlapdConf path) out result d = MakesOfSlapdConf suffix path.now out result d
MakesOf suffix (CnConfig path) out result d = MakesOfConfig suffix path.now out result d

-- the suffix is no name of at least one RDN, and there is no call; or the flat configuration of its database is made
abbrev pub MakesForSuffix : ConfWords → Result Tally Fault → Disk → Calls
MakesForSuffix words result d calls =
    ((why : ToolFault) × IsNoSuffix (suffix_of builtin_rows words.suffix.now) why × (calls ≡ []) × FailsSo (IsRunFault why) result)
    ⊎ ((suffix : DnKeys) × (suffix_of builtin_rows words.suffix.now ≡ Some suffix) × MakesOf suffix words.source words.out.now result d calls)

-- ---- the paths

abbrev pub source_path : ConfSource → List ℕ
source_path (SlapdConf path) = path.now
source_path (CnConfig path) = path.now

-- the path of the flat configuration, where it is the same text as that of the configuration
abbrev pub repeated_path : ConfWords → Option (List ℕ)
repeated_path words = cond (bytes_eq words.out.now (source_path words.source)) (Some words.out.now) None

-- where a path is given twice there is no call
abbrev pub AllConfCalls : Option (List ℕ) → ConfWords → Result Tally Fault → Disk → Calls
AllConfCalls (Some path) words result d calls = calls ≡ []
AllConfCalls None words result d calls = MakesForSuffix words result d calls

abbrev pub IsSamePathFault : List ℕ → Fault → Type 0
IsSamePathFault path (SamePath named) = named.now ≡ path
IsSamePathFault path e = ⊥

-- a fault of writing: `CannotOpen` and `Exists` name the flat configuration
abbrev pub NamesItsOutput : List ℕ → Fault → Type 0
NamesItsOutput out (CannotOpen path) = path.now ≡ out
NamesItsOutput out (Exists path) = path.now ≡ out
NamesItsOutput out FlatUnwritten = ⊤
NamesItsOutput out (Tool fault) = ⊤
NamesItsOutput out e = ⊥

-- a fault of a run on this configuration: `CannotOpen` names it or the flat one, `Exists` the flat one
abbrev pub NamesTheseConf : List ℕ → List ℕ → Fault → Type 0
NamesTheseConf config out (CannotOpen path) = (path.now ≡ config) ⊎ (path.now ≡ out)
NamesTheseConf config out (Conf why) = ⊤
NamesTheseConf config out e = NamesItsOutput out e

-- the path that is given twice is refused; where none is, the flat configuration is made or the run has one of the other faults
abbrev pub RefusesSameConf : ConfWords → Option (List ℕ) → Result Tally Fault → Type 0
RefusesSameConf words (Some path) result = FailsSo (IsSamePathFault path) result
RefusesSameConf words None (Ok tally) = ⊤
RefusesSameConf words None (Err e) = NamesTheseConf (source_path words.source) words.out.now e
