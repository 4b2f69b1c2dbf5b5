-- What is made of what the system says of a file (stat(2)), and the folder of a path (dirname(3)).
use Rattle.std.specs.Prelude.{◌≡◌, ℕ, [], ◌∷◌, List, None, Option, Some, Result, Ok, Err, bit_and, codes, take}
use Rattle.std.specs.Str.Pattern.{RFindsChar}
use Rattle.std.specs.Fs.{IsFile, file_type, metadata_len, metadata_mode}
use Rattle.std.specs.declared.fs.attrs.Metadata.{Metadata}

-- who may read and write a file; its owner alone, where the system doesn't say
abbrev pub told_mode : {E : Type 0} → Result Metadata E → ℕ
told_mode (Ok metadata) = bit_and (metadata_mode metadata) 0o666
told_mode (Err why) = 0o600

-- a regular file has a size. A pipe or a device has none
abbrev pub HasToldSize : {E : Type 0} → Result Metadata E → Option ℕ → Type 0
HasToldSize (Ok metadata) size = (IsFile (file_type metadata) → size ≡ Some (metadata_len metadata)) × ((IsFile (file_type metadata) → ⊥) → size ≡ None)
HasToldSize (Err why) size = size ≡ None

-- the root, where nothing is before the slash
abbrev pub or_root : List ℕ → List ℕ
or_root [] = codes "/"
or_root (b ∷ bs) = b ∷ bs

-- what is before the last slash; the folder that the process works in, where there is none
abbrev pub folder_before : List ℕ → Option (ℕ × ℕ) → List ℕ
folder_before path None = codes "."
folder_before path (Some slash) = or_root (take slash.0 path)

-- 47 is the slash
pub record IsFolderOf (path folder : List ℕ) : Type 0 where
  pub slash : Option (ℕ × ℕ)
  pub last : RFindsChar 47 path slash
  pub folder_is : folder ≡ folder_before path slash
