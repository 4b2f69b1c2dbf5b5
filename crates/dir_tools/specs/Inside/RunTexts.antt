-- The view of `RunTexts`: the texts of a run before they are written. No public contract needs this file.
use Rattle.std.specs.Prelude.{◌≡◌, ℕ, Bool, true, false, List, [], Option, None, Some}
use Rattle.dir_tools.specs.declared.run.Files.{Files}
use Rattle.dir_tools.specs.declared.run.RunTexts as made
use Rattle.dir_tools.specs.Writing.{Texts}

abbrev pub undo_in : Option Files → List ℕ
undo_in None = []
undo_in (Some files) = files.undo.items

abbrev pub out_in : Option Files → List ℕ
out_in None = []
out_in (Some files) = files.out.items

abbrev pub texts_of : made.RunTexts → Texts
texts_of t = record { undo = undo_in t.files; out = out_in t.files; report = t.report.items }

abbrev pub has_no_files : Option Files → Bool
has_no_files None = true
has_no_files (Some files) = false

abbrev pub is_dry : made.RunTexts → Bool
is_dry t = has_no_files t.files

-- these texts were made; a dry run leaves out the files
abbrev pub AreFiles : Bool → Texts → Option Files → Type 0
AreFiles dry s None = dry ≡ true
AreFiles dry s (Some files) = (dry ≡ false) × (files.undo.items ≡ s.undo) × (files.out.items ≡ s.out)

abbrev pub AreTexts : Bool → Texts → made.RunTexts → Type 0
AreTexts dry s t = AreFiles dry s t.files × (t.report.items ≡ s.report)
