-- Files of a slapd.conf that include one another, and their lines in the order in which slapd reads them (slapd.conf(5), `include`).
use Rattle.std.specs.Prelude.{ℕ, zero, suc, ◌+◌, cond, nat_lt, List, [], ◌∷◌, ◌++◌, length, map, codes, Option, None, Some, Result, Ok, Err}
use Rattle.std.specs.List.{flat_map}
use Rattle.std.specs.Str.{bytes_eq}
use Rattle.dir_names.specs.Results.{and_then}
use Rattle.dir_conf_text.specs.Arguments.{whole_words}
use Rattle.dir_conf_text.specs.Lines.{logical_lines}
use Rattle.dir_conf_text.specs.declared.joining.Joining.TheVariants.{AsSlapd}
use Rattle.dir_conf_text.specs.Keywords.{is_word}
use Rattle.dir_conf.specs.declared.fault.ConfFault.{ConfFault}
use Rattle.dir_conf.specs.declared.fault.ConfFault.TheVariants.{TooLong}
use Rattle.dir_conf.specs.declared.slapd_conf.files.ConfFile.{ConfFile}
use Rattle.dir_conf.specs.declared.slapd_conf.files.Found as declared
use Rattle.dir_conf.specs.declared.slapd_conf.files.PlacedLine.{PlacedLine}

-- the path of a file, and its text, if it can be read
pub record File : Type 0 where
  pub path : List ℕ
  pub text : Option (List ℕ)

abbrev pub file_of : ConfFile → File
file_of file = record { path = file.path; text = file.text }

-- a line, after the place of its file among all and its number in that file
pub record Placed : Type 0 where
  pub file : ℕ
  pub line : ℕ
  pub text : List ℕ

abbrev pub placed : PlacedLine → Placed
placed line = record { file = line.file; line = line.line; text = line.text }

-- the lines of a text, as slapd joins them
abbrev pub lines_in : List ℕ → List (ℕ × List ℕ)
lines_in text = logical_lines AsSlapd text

-- ---- what a line includes

-- `include PATH`
abbrev pub path_by : Option (List (List ℕ)) → Option (List ℕ)
path_by (Some (keyword ∷ path ∷ [])) = cond (is_word keyword (codes "include")) (Some path) None
path_by _ = None

abbrev pub included_path : List ℕ → Option (List ℕ)
included_path line = path_by (whole_words line)

abbrev pub one_or_none : Option (List ℕ) → List (List ℕ)
one_or_none None = []
one_or_none (Some path) = path ∷ []

-- the paths that a text includes, in the order of its lines
abbrev pub includes_in : List ℕ → List (List ℕ)
includes_in text = flat_map (λ line. one_or_none (included_path line.1)) (lines_in text)

abbrev pub with_place : ℕ → Option (List ℕ) → Option (ℕ × List ℕ)
with_place place None = None
with_place place (Some text) = Some (place, text)

-- the place and the text of the first file of a path, if it has a text; the first of these files has the place `n`
abbrev pub text_at : ℕ → List File → List ℕ → Option (ℕ × List ℕ)
text_at n [] path = None
text_at n (file ∷ more) path = cond (bytes_eq file.path path) (with_place n file.text) (text_at (n + 1) more path)

abbrev pub file_by : List File → Option (List ℕ) → Option (ℕ × List ℕ)
file_by files None = None
file_by files (Some path) = text_at 0 files path

-- the file that a line includes, where so many files may stand below one another
abbrev pub included : List File → ℕ → List ℕ → Option (ℕ × List ℕ)
included files zero line = None
included files (suc below) line = file_by files (included_path line)

-- ---- the lines of all

-- the lines so far, with the bytes of the texts that they stand in
pub record Found : Type 0 where
  pub size : ℕ
  pub lines : List Placed

abbrev pub found_by : declared.Found → Found
found_by found = record { size = found.size; lines = map placed found.lines.items }

-- one step for each, one after the other, or the first fault
abbrev pub after_each : {A S : Type 0} → (A → S → Result S ConfFault) → List A → S → Result S ConfFault
after_each step [] state = Ok state
after_each step (x ∷ xs) state = and_then (step x state) (after_each step xs)

abbrev pub with_line : ℕ → ℕ × List ℕ → Found → Found
with_line file line found = record { size = found.size; lines = found.lines ++ record { file = file; line = line.0; text = line.1 } ∷ [] }

-- all lines of a file, each with what it comes to. Together the texts may have 16,777,216 bytes, each as often as it is included
abbrev pub into_file : (ℕ → ℕ × List ℕ → Found → Result Found ConfFault) → ℕ × List ℕ → Found → Result Found ConfFault
into_file each file found =
    cond (nat_lt 16777216 (found.size + length file.1)) (Err TooLong)
    (after_each (each file.0) (lines_in file.1) (record { size = found.size + length file.1; lines = found.lines }))

-- the file that a line includes, or the line itself
abbrev pub follow : (ℕ × List ℕ → Found → Result Found ConfFault) → ℕ → ℕ × List ℕ → Found → Option (ℕ × List ℕ) → Result Found ConfFault
follow into file line found None = Ok (with_line file line found)
follow into file line found (Some included) = into included found

-- a line that includes a file comes to the lines of that file, in which so many files may stand below one another; one that can't be followed stays as it is
unfoldable pub after_line : List File → ℕ → ℕ → ℕ × List ℕ → Found → Result Found ConfFault
after_line files zero file line found = Ok (with_line file line found)
after_line files (suc below) file line found = follow (into_file (after_line files below)) file line found (included files (suc below) line.1)

abbrev pub after_file : List File → ℕ → ℕ × List ℕ → Found → Result Found ConfFault
after_file files below file found = into_file (after_line files below) file found

abbrev pub text_of_first : List File → Option (List ℕ)
text_of_first [] = None
text_of_first (first ∷ more) = first.text

abbrev pub lines_by : List File → Option (List ℕ) → Result (List Placed) ConfFault
lines_by files None = Ok []
lines_by files (Some text) = and_then (after_file files 15 (0, text) (record { size = 0; lines = [] })) (λ found. Ok found.lines)

-- the lines of a configuration of these files, of which the first includes the others, at most 16 deep
abbrev pub lines_of_files : List File → Result (List Placed) ConfFault
lines_of_files files = lines_by files (text_of_first files)
