-- The files of a slapd.conf that include one another, and the calls by which they are read.
use Rattle.std.specs.Prelude.{◌≡◌, ◌≢◌, ◌⊎◌, ◌≤◌, ℕ, zero, suc, ◌+◌, ◌<◌, nat_le, Bool, false, cond, ◌||◌, List, [], ◌∷◌, ◌++◌, length, map, Option, None, Some, IfSome, Result, Ok, Err, ⊤}
use Rattle.std.specs.List.{flat_map, list_any}
use Rattle.std.specs.Str.{is_utf8}
use Rattle.dir_names.specs.Orders.{bytes_eq}
use Rattle.dir_ldif.specs.Device.{HasFailed}
use Rattle.dir_conf.specs.SlapdConf.Files.{File, file_of, includes_in}
use Rattle.dir_files.specs.declared.fault.Fault.{Fault}
use Rattle.dir_files.specs.declared.files.Refusal.{Refusal}
use Rattle.dir_files.specs.declared.files.Refusal.TheVariants as refusal
use Rattle.dir_files.specs.declared.including.Level.{Level}
use Rattle.dir_files.specs.declared.including.ReadFiles.{ReadFiles}
use Rattle.dir_files.specs.declared.including.Unread.{Unread}
use Rattle.dir_files.specs.declared.including.Unread.TheVariants as unread
use Rattle.dir_conf.specs.declared.fault.ConfFault.TheVariants as conf
use Rattle.dir_tools.specs.declared.fault.Input.TheVariants as input
use Rattle.dir_tools.specs.declared.fault.ToolFault.TheVariants as tool
use Rattle.dir_files.specs.declared.fault.Fault.TheVariants.{Conf}
use Rattle.dir_files.specs.Faults.{IsCannotOpen, IsTool}
use Rattle.dir_files.specs.Files.{Call, Disk, opens}
use Rattle.dir_files.specs.Runs.{Calls}

-- ---- which files are read

abbrev pub path_of : File → List ℕ
path_of file = file.path

abbrev pub included_by_text : Option (List ℕ) → List (List ℕ)
included_by_text None = []
included_by_text (Some text) = includes_in text

-- the paths that a file includes
abbrev pub included_by : File → List (List ℕ)
included_by file = included_by_text file.text

abbrev pub is_known : List (List ℕ) → List ℕ → Bool
is_known known path = list_any (bytes_eq path) known

-- a path is passed over where it is known, or 1,000 paths are
abbrev pub is_passed_over : List (List ℕ) → List ℕ → Bool
is_passed_over known path = nat_le 1000 (length known) || is_known known path

-- those of these paths that are not known, each once, in their order, until 1,000 are known
abbrev pub new_paths : List (List ℕ) → List (List ℕ) → List (List ℕ)
new_paths known [] = []
new_paths known (path ∷ more) = cond (is_passed_over known path) (new_paths known more) (path ∷ new_paths (known ++ path ∷ []) more)

-- the files of these paths that are not known; then those that these files include, so many times below
unfoldable pub IncludedBelow : ℕ → List (List ℕ) → List (List ℕ) → List File → Type 0
IncludedBelow zero known wanted files = files ≡ []
IncludedBelow (suc below) known wanted files = (new : List File) × (rest : List File) × (files ≡ new ++ rest) × (map path_of new ≡ new_paths known wanted)
    × IncludedBelow below (known ++ map path_of new) (flat_map included_by new) rest

-- a configuration and all files that it includes, at most 16 deep and 1,000 in all: no path is among them that none of their lines includes
pub record AreFilesOf (path : List ℕ) (files : List File) : Type 0 where
  pub text : List ℕ
  pub more : List File
  pub are : files ≡ record { path = path; text = Some text } ∷ more
  pub included : IncludedBelow 15 (path ∷ []) (includes_in text) more

-- ---- the calls

-- a path that is no UTF-8 is not asked for, and has no text
abbrev pub IsNoPath : File → Calls
IsNoPath file calls = (is_utf8 file.path ≡ false) × (calls ≡ []) × (file.text ≡ None)

-- a file is opened, and has the text that is there
abbrev pub IsOpened : Disk → File → Calls
IsOpened d file calls = (calls ≡ opens file.path None ∷ []) × (text : List ℕ) × (file.text ≡ Some text) × IfSome (d.text_at file.path) (λ known. text ≡ known)

-- it can't be opened, for another reason than memory, and has no text
abbrev pub IsRefused : File → Calls
IsRefused file calls = (why : Refusal) × (calls ≡ opens file.path (Some why) ∷ []) × (file.text ≡ None) × (why ≢ refusal.Memory)

abbrev pub IsReadBy : Disk → File → Calls
IsReadBy d file calls = IsNoPath file calls ⊎ (IsOpened d file calls ⊎ IsRefused file calls)

-- each of these files is read, one after the other
abbrev pub AreReadBy : Disk → List File → Calls
AreReadBy d [] calls = calls ≡ []
AreReadBy d (file ∷ more) calls = (first : List Call) × (rest : List Call) × (calls ≡ first ++ rest) × IsReadBy d file first × AreReadBy d more rest

-- files are opened, and nothing else is done
abbrev pub AreOpens : Calls
AreOpens [] = ⊤
AreOpens (opens path why ∷ more) = AreOpens more
AreOpens (other ∷ more) = ⊥

abbrev pub with_text : Option (List ℕ) → Option ℕ → Option ℕ
with_text (Some text) (Some size) = Some (length text + size)
with_text text size = None

-- how many bytes the opened files have together, if all their texts are known
abbrev pub opened_size : (List ℕ → Option (List ℕ)) → List Call → Option ℕ
opened_size text_at [] = Some 0
opened_size text_at (opens path None ∷ more) = with_text (text_at path) (opened_size text_at more)
opened_size text_at (other ∷ more) = opened_size text_at more

-- the calls after which a file isn't read. It is too long where all that were opened have together more bytes than these
abbrev pub StopsBy : ℕ → Unread → Disk → Calls
StopsBy room unread.TooLong d calls = AreOpens calls × IfSome (opened_size d.text_at calls) (λ size. room < size)
StopsBy room unread.Failed d calls = AreOpens calls
StopsBy room unread.Memory d calls = AreOpens calls

-- the file system afterwards, with these calls more and the same texts
abbrev pub with_calls : Disk → List Call → Disk
with_calls d calls = record { calls = d.calls ++ calls; text_at = d.text_at; mode_at = d.mode_at; typed = d.typed }

-- these calls are made, and no others, and the files stay as they are; where the file system tells its calls afterwards, it has told them before
abbrev pub Does : Option Disk → Option Disk → (Disk → Calls) → Type 0
Does before None made = ⊤
Does None (Some after) made = ⊥
Does (Some before) (Some after) made = (calls : List Call) × (after ≡ with_calls before calls) × made before calls

-- these files are read, or one isn't, where so many bytes may be read
abbrev pub ReadsOrStops : {A : Type 0} → ℕ → (A → List File) → Result A Unread → Disk → Calls
ReadsOrStops room files (Ok answer) d calls = AreReadBy d (files answer) calls
ReadsOrStops room files (Err why) d calls = StopsBy room why d calls

-- where a file can't be read that was opened, the file system has failed
pub record FailsUnread {A : Type 0} (result : Result A Unread) (old new : ℕ) : Type 0 where
  pub grows : old ≤ new
  pub failed : result ≡ Err unread.Failed → HasFailed old new

-- ---- how much is read

abbrev pub text_size : Option (List ℕ) → ℕ
text_size None = 0
text_size (Some text) = length text

-- how many bytes files have together
abbrev pub size_of : List File → ℕ
size_of [] = 0
size_of (file ∷ more) = text_size file.text + size_of more

-- ---- one level

abbrev pub files_of_level : Level → List File
files_of_level level = map file_of level.files.items

-- how many bytes might be read before these files were
abbrev pub room_before : Level → ℕ
room_before level = level.room + size_of (files_of_level level)

-- the paths are those of the files, and what is wanted is what these include
pub record IsLevel (level : Level) : Type 0 where
  pub paths : level.paths.items ≡ map path_of (files_of_level level)
  pub wanted : level.wanted.items ≡ flat_map included_by (files_of_level level)

-- more files are read, or one isn't
abbrev pub ReadsMore : {A : Type 0} → ℕ → List File → (A → List File) → Result A Unread → Disk → Calls
ReadsMore room before files (Ok answer) d calls = (more : List File) × (files answer ≡ before ++ more) × AreReadBy d more calls
ReadsMore room before files (Err why) d calls = StopsBy room why d calls

-- ---- the whole

-- what it means that a file isn't read
abbrev pub IsNotRead : Unread → Fault → Type 0
IsNotRead unread.Failed e = IsTool (tool.Read input.Config) e
IsNotRead unread.TooLong e = e ≡ Conf (record { file = None; fault = conf.TooLong })
IsNotRead unread.Memory e = IsTool tool.Memory e

-- the first file can't be opened, or one isn't read
abbrev pub IsUnreadAt : List ℕ → Fault → Type 0
IsUnreadAt path e = IsCannotOpen path e ⊎ ((why : Unread) × IsNotRead why e)

-- all files are read, or one isn't: then files were opened, and nothing else was done. Together they may have 16,777,216 bytes
abbrev pub ReadsFiles : List ℕ → Result ReadFiles Fault → Disk → Calls
ReadsFiles path (Ok read) d calls = AreFilesOf path (map file_of read.files.items) × AreReadBy d (map file_of read.files.items) calls × (read.mode ≡ d.mode_at path)
ReadsFiles path (Err e) d calls = (AreOpens calls × IsCannotOpen path e) ⊎ ((why : Unread) × IsNotRead why e × StopsBy 16777216 why d calls)
