-- The texts of the program's faults.
use Rattle.std.specs.Prelude.{ℕ, List, ◌++◌, codes, decimal, Option, None, Some}
use Rattle.dir_files.specs.declared.fault.Fault.{Fault}
use Rattle.dir_files.specs.declared.fault.Fault.TheVariants.{CannotOpen, Conf, Exists, FlatUnwritten, HasNotes, NotesUntold, NoWords, Questions, SamePath, TooFewGroups, Tool}
use Rattle.dir_conf.specs.declared.slapd_conf.FileFault.{FileFault}
use Rattle.dir_conf.specs.FaultText.{conf_fault_text, line_of}
use Rattle.dir_questions.specs.FaultText.{questions_fault_text}
use Rattle.dir_tools.specs.FaultText.{tool_fault_text}
use Rattle.dir_files.specs.Escape.{escaped}
use Rattle.dir_files.specs.NoteText.{at_line, shown_bytes}

-- the file of a slapd.conf in which it is, and its line there
abbrev pub conf_file_text : Option (List ℕ) → List ℕ
conf_file_text (Some file) = shown_bytes file
conf_file_text None = codes "config"

abbrev pub conf_line_text : Option ℕ → List ℕ
conf_line_text (Some line) = at_line (codes ", line ") line
conf_line_text None = codes ": "

abbrev pub conf_text : FileFault → List ℕ
conf_text fault = conf_file_text fault.file ++ conf_line_text (line_of fault.fault) ++ conf_fault_text fault.fault

-- the text of each fault, with the control characters of a path escaped; but for that of the command line's words, which has the system's text in it
abbrev pub fault_text : Fault → Option (List ℕ)
fault_text (SamePath path) = Some (codes "same path twice: " ++ escaped path.now)
fault_text (CannotOpen path) = Some (codes "cannot open " ++ escaped path.now)
fault_text (Exists path) = Some (codes "exists already: " ++ escaped path.now)
fault_text HasNotes = Some (codes "not answered, because there are notes")
fault_text NotesUntold = Some (codes "cannot write notes")
fault_text (TooFewGroups wanted groups) = Some (codes "cannot go back " ++ decimal wanted ++ codes ", only " ++ decimal groups ++ codes " groups")
fault_text (Conf fault) = Some (conf_text fault)
fault_text FlatUnwritten = Some (codes "cannot write flat configuration")
fault_text (Questions fault) = Some (questions_fault_text fault)
fault_text (Tool fault) = Some (tool_fault_text fault)
fault_text (NoWords error) = None
