-- The text of a record (RFC 2849): its `dn` line, its further lines and an empty line.
use Rattle.std.specs.Prelude.{ℕ, Bool, true, false, List, [], ◌∷◌, ◌++◌, codes, Option, None, Some}
use Rattle.std.specs.List.{flat_map}
use Rattle.dir_names.specs.Described.{Described}
use Rattle.dir_names.specs.Names.{SpelledName}
use Rattle.dir_names.specs.Names.Printing.{printed_name, printed_rdn}
use Rattle.dir_ldif.specs.declared.records.Record.{Record}
use Rattle.dir_ldif.specs.declared.records.Record.TheVariants as form
use Rattle.dir_ldif.specs.declared.records.Change.{Change}
use Rattle.dir_ldif.specs.declared.records.ChangeKind.{ChangeKind}
use Rattle.dir_ldif.specs.declared.records.ChangeKind.TheVariants as kind
use Rattle.dir_ldif.specs.declared.records.Mod.{Mod}
use Rattle.dir_ldif.specs.declared.records.ModOp.{ModOp}
use Rattle.dir_ldif.specs.declared.records.ModOp.TheVariants as op
use Rattle.dir_ldif.specs.LineText.{written_line}
use Rattle.dir_names.specs.Ascii.{line_feed}

-- a line of a keyword and a name
abbrev pub name_line : List ℕ → SpelledName → List ℕ
name_line word name = written_line word (printed_name name)

-- a line of a description, as spelled, and a value
abbrev pub value_text : Described × List ℕ → List ℕ
value_text line = written_line line.0.spelling line.1

abbrev pub op_word : ModOp → List ℕ
op_word op.Add = codes "add"
op_word op.Delete = codes "delete"
op_word op.Replace = codes "replace"
op_word op.Increment = codes "increment"

-- the text of a modification: its head, its values and a line `-`
abbrev pub mod_text : Mod → List ℕ
mod_text m =
    written_line (op_word m.op) m.description.spelling ++ flat_map (λ value. written_line m.description.spelling value) m.values ++ codes "-\n"

abbrev pub change_word : ChangeKind → List ℕ
change_word (kind.Add lines) = codes "add"
change_word kind.Delete = codes "delete"
change_word (kind.Modify mods) = codes "modify"
change_word (kind.Rename rdn flag superior) = codes "modrdn"

abbrev pub flag_text : Bool → List ℕ
flag_text true = codes "1"
flag_text false = codes "0"

abbrev pub superior_text : Option SpelledName → List ℕ
superior_text None = []
superior_text (Some name) = name_line (codes "newsuperior") name

-- the lines after the changetype
abbrev pub kind_text : ChangeKind → List ℕ
kind_text (kind.Add lines) = flat_map value_text lines
kind_text kind.Delete = []
kind_text (kind.Modify mods) = flat_map mod_text mods
kind_text (kind.Rename rdn flag superior) =
    written_line (codes "newrdn") (printed_rdn rdn) ++ written_line (codes "deleteoldrdn") (flag_text flag) ++ superior_text superior

abbrev pub change_text : Change → List ℕ
change_text c = name_line (codes "dn") c.dn ++ written_line (codes "changetype") (change_word c.kind) ++ kind_text c.kind ++ line_feed ∷ []

abbrev pub record_text_of : Record → List ℕ
record_text_of (form.Content name lines) = name_line (codes "dn") name ++ flat_map value_text lines ++ line_feed ∷ []
record_text_of (form.Change change) = change_text change
