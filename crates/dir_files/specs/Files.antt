-- A file system, as contracts see it: its calls, and the texts that it has.
use Rattle.std.specs.Prelude.{◌≡◌, ℕ, Bool, true, false, List, [], ◌∷◌, ◌++◌, Option, None, Some, Result, Ok, Err, ⊤}
use Rattle.std.specs.declared.io.ErrorKind.{ErrorKind}
use Rattle.std.specs.declared.io.ErrorKind.TheVariants as kind
use Rattle.dir_files.specs.declared.files.Refusal.{Refusal}
use Rattle.dir_files.specs.declared.files.Refusal.TheVariants as refusal

-- a call, and why it was refused, if it was: a file is opened to be read, or the standard input. The draft of a file is created, with the bits
-- of a mode, under a name of its own, where no file is at the path; the text that it has taken, where it tells, is synced; and it is published, which
-- gives it the path as its name; or it is discarded, which removes it, as a publishing that is refused does. A file that was published is
-- withdrawn, which removes it. A report is written to the standard output
pub data Call : Type 0 where
  opens : List ℕ → Option Refusal → Call
  standard_input : Call
  creates : List ℕ → ℕ → Option Refusal → Call
  syncs : List ℕ → Option (List ℕ) → Option Refusal → Call
  publishes : List ℕ → Option (List ℕ) → Option Refusal → Call
  discards : List ℕ → Call
  withdraws : List ℕ → Call
  reports : List ℕ → Option Refusal → Call

-- the calls so far, in their order; the text of the file at each path, if one is there, and the bits of its mode that say who may read and
-- write it; and what the standard input gives
pub record Disk : Type 0 where
  pub calls : List Call
  pub text_at : List ℕ → Option (List ℕ)
  pub mode_at : List ℕ → ℕ
  pub typed : List ℕ

abbrev pub with_call : Disk → Call → Disk
with_call d call = record { calls = d.calls ++ call ∷ []; text_at = d.text_at; mode_at = d.mode_at; typed = d.typed }

-- one call is made, and no other; where the file system tells its calls afterwards, it has told them before
abbrev pub Told : Option Disk → Option Disk → Call → Type 0
Told before None call = ⊤
Told None (Some after) call = ⊥
Told (Some before) (Some after) call = after ≡ with_call before call

abbrev pub refusal_of : {A : Type 0} → Result A Refusal → Option Refusal
refusal_of (Ok file) = None
refusal_of (Err why) = Some why

-- of the system's kinds of errors one says that a file exists already, and one that memory ran out
abbrev pub meant_by : ErrorKind → Refusal
meant_by kind.AlreadyExists = refusal.Exists
meant_by kind.OutOfMemory = refusal.Memory
meant_by _ = refusal.Other

-- the answers which mean that a folder can't be synced at all: it may not be opened, or its file system syncs none
abbrev pub is_never_synced : ErrorKind → Bool
is_never_synced kind.PermissionDenied = true
is_never_synced kind.InvalidInput = true
is_never_synced kind.Unsupported = true
is_never_synced _ = false
