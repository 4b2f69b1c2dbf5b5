-- Blocks of lines, written one after the other, read back as the names and the values that were written.
use Rattle.std.specs.Prelude.{◌≡◌, ℕ, ◌≤◌, All, Bool, false, true, not, ◌&&◌, ◌==◌, List, [], ◌∷◌, ◌++◌, length, map, codes, Result, Ok, Err}
use Rattle.std.specs.List.{flat_map, list_any}
use Rattle.std.specs.Str.{str_eq_ignore_ascii_case}
use Rattle.base64.specs.GeneralPurpose.{IsBytes}
use Rattle.dir_ldif.specs.declared.faults.RecordFault.{RecordFault}
use Rattle.dir_ldif.specs.declared.faults.StreamFault.{StreamFault}
use Rattle.dir_ldif.specs.Bytes.{is_empty}
use Rattle.dir_ldif.specs.LogicalLines.{Line}
use Rattle.dir_ldif.specs.AttrVal.{attrval_of}
use Rattle.dir_ldif.specs.Blocks.{BlockResult, blocks_of, version_word}
use Rattle.dir_ldif.specs.LineText.{line_of, written_line}
use Rattle.dir_ldif.specs.RoundTrip.{ends_name}
use Rattle.dir_names.specs.Ascii.{sharp, space}

-- the name and the value of a line
abbrev pub Parts : Type 0
Parts = List ℕ × List ℕ

-- ---- what is written

-- the text of a block: its lines, each as it is written, and an empty line
abbrev pub written_block : List Parts → List ℕ
written_block block = flat_map (λ (line : Parts). written_line line.0 line.1) block ++ codes "\n"

abbrev pub written_blocks : List (List Parts) → List ℕ
written_blocks blocks = flat_map written_block blocks

-- a name with which a line of a block can begin: it is not empty, does not begin with a space or `#`, and has no colon, LF or CR
abbrev pub is_line_name : List ℕ → Bool
is_line_name [] = false
is_line_name (b ∷ name) = not (b == space) && not (b == sharp) && not (list_any ends_name (b ∷ name))

-- a line that can be written: it has such a name, its value is of at most 1,048,576 bytes, and the whole, unfolded, of at most 2,097,152
pub record IsWritable (line : Parts) : Type 0 where
  pub name : is_line_name line.0 ≡ true
  pub bytes : IsBytes line.1
  pub value : length line.1 ≤ 1048576
  pub whole : length (line_of line.0 line.1) ≤ 2097152

-- a block has a line or more
abbrev pub IsWritableBlock : List Parts → Type 0
IsWritableBlock block = (is_empty block ≡ false) × All IsWritable block

-- the first line of all has the name `version`, in whatever case
abbrev pub begins_with_version : List (List Parts) → Bool
begins_with_version [] = false
begins_with_version ([] ∷ blocks) = false
begins_with_version ((line ∷ lines) ∷ blocks) = str_eq_ignore_ascii_case line.0 version_word

-- ---- what is read

-- the names and the values of a block's lines
abbrev pub parts_of : BlockResult → Result (List (Result Parts RecordFault)) StreamFault
parts_of (Ok block) = Ok (map (λ (line : Line). attrval_of line.1) block)
parts_of (Err fault) = Err fault

-- the text has exactly these blocks, in this order, and their lines have exactly these names and values
abbrev pub ReadsAsBlocks : List ℕ → List (List Parts) → Type 0
ReadsAsBlocks text blocks = map parts_of (blocks_of text) ≡ map (λ (block : List Parts). Ok (map (λ (line : Parts). Ok line) block)) blocks

-- a law: blocks of lines that can be written, written one after the other, read back as they are, with a version line before them; and without
-- one, unless their own first line would be taken for it
abbrev pub WrittenBlocksReadBack : Type 0
WrittenBlocksReadBack = (blocks : List (List Parts)) → All IsWritableBlock blocks
    → ReadsAsBlocks (codes "version: 1\n\n" ++ written_blocks blocks) blocks
    × (begins_with_version blocks ≡ false → ReadsAsBlocks (written_blocks blocks) blocks)
