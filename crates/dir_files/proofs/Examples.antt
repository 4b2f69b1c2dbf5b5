-- Worked examples of paths and fault texts, proved of the definitions.
use Rattle.std.proofs.Common.{◌≡◌, ℕ, true, false, List, [], ◌∷◌, codes, refl, Option, Some, None}
use denote.Ref.{Bor}
use Rattle.std.specs.declared.io.ErrorKind.TheVariants as kind
use Rattle.dir_tools.specs.declared.fault.Item.TheVariants.{Suffix}
use Rattle.dir_tools.specs.declared.fault.Output.TheVariants.{Report}
use Rattle.dir_tools.specs.declared.fault.ToolFault.TheVariants.{BadQuestion, Write}
use Rattle.dir_files.specs.declared.fault.Fault.TheVariants.{Tool}
use Rattle.dir_files.specs.declared.files.Refusal.TheVariants as refusal
use Rattle.std.specs.Char.{encode_utf8}
use Rattle.dir_files.specs.Escape.{shown_char}
use Rattle.dir_files.specs.FaultText.{fault_text}
use Rattle.dir_files.specs.Files.{meant_by}
use Rattle.dir_files.specs.Paths.{first_seen_before, outputs_unless}
use Rattle.dir_files.specs.Runs.{text_of_changes}

-- ---- paths

-- the paths of the README's session: the copy, the new copy, the undo file, the changes
pub paths-that-differ : first_seen_before [] (codes "company.ldif" ∷ codes "new.ldif" ∷ codes "undo.ldif" ∷ codes "changes.ldif" ∷ []) ≡ None
paths-that-differ = refl

-- the undo file may not be written over the new copy, nor the new copy over the copy; the first of them is named
pub one-path-twice : first_seen_before [] (codes "copy" ∷ codes "new" ∷ codes "new" ∷ []) ≡ Some (codes "new")
one-path-twice = refl

pub two-paths-twice : first_seen_before [] (codes "copy" ∷ codes "copy" ∷ codes "undo" ∷ codes "undo" ∷ []) ≡ Some (codes "copy")
two-paths-twice = refl

-- paths are compared as texts
pub texts-alone : first_seen_before [] (codes "copy" ∷ codes "./copy" ∷ codes "COPY" ∷ []) ≡ None
texts-alone = refl

-- a dry run has no files to write, whatever paths are given
pub dry-run : (out undo : Option (Bor (List ℕ))) → outputs_unless true out undo ≡ None
dry-run out undo = refl

pub one-given : (out : Bor (List ℕ)) → outputs_unless false (Some out) None ≡ None
one-given out = refl

-- changes without a file come from the standard input
pub typed-changes : text_of_changes (λ path. None) (codes "dn: dc=com\nchangetype: delete\n") None ≡ Some (codes "dn: dc=com\nchangetype: delete\n")
typed-changes = refl

-- ---- faults

pub bad-suffix : fault_text (Tool (BadQuestion Suffix)) ≡ Some (codes "bad question: suffix")
bad-suffix = refl

pub report-not-written : fault_text (Tool (Write Report)) ≡ Some (codes "cannot write report")
report-not-written = refl

-- of what the system says of a file that it does not create, one answer means that the file exists already, and one that memory ran out
pub exists-already : meant_by kind.AlreadyExists ≡ refusal.Exists
exists-already = refl

pub no-memory : meant_by kind.OutOfMemory ≡ refusal.Memory
no-memory = refl

pub no-such-folder : meant_by kind.NotFound ≡ refusal.Other
no-such-folder = refl

pub not-permitted : meant_by kind.PermissionDenied ≡ refusal.Other
not-permitted = refl

-- ---- control characters

-- a line break, an escape, the introducer of control sequences (U+009B)
pub line-break : shown_char 10 ≡ codes "\\x0a"
line-break = refl

pub escape : shown_char 27 ≡ codes "\\x1b"
escape = refl

pub control-sequence : shown_char 0x9b ≡ codes "\\x9b"
control-sequence = refl

-- every other character is shown as it is, a backslash too
pub letter : shown_char 97 ≡ codes "a"
unfolding encode_utf8
letter = refl

pub backslash : shown_char 92 ≡ codes "\\"
unfolding encode_utf8
backslash = refl
