-- Worked examples, proved of the definitions: undo texts, modifications (RFC 4511, section 4.6), and the texts of result codes (section 4.1.9).
use Rattle.std.proofs.Common.{◌≡◌, ℕ, List, [], ◌∷◌, codes, refl, Option, Some, None, Ok, Err}
use Rattle.std.specs.Fmt.{digits}
use Rattle.dir_names.specs.Attr.{Attr}
use Rattle.dir_names.specs.Names.{SpelledName}
use Rattle.dir_names.specs.Table.Builtin.{builtin_rows}
use Rattle.dir_ldif.specs.declared.records.Mod.{Mod}
use Rattle.dir_ldif.specs.declared.records.ModOp.{ModOp}
use Rattle.dir_ldif.specs.declared.records.ModOp.TheVariants as op
use Rattle.dir_ldif.specs.declared.records.Change.{Change}
use Rattle.dir_ldif.specs.declared.records.ChangeKind.TheVariants as kind
use Rattle.dir_ldif.specs.LineText.{fold_from}
use Rattle.dir_tree.specs.Content.{Stored, StoredValues}
use Rattle.dir_change.specs.declared.result_code.ResultCode.TheVariants.{AttributeOrValueExists, EntryAlreadyExists, NoSuchAttribute, NoSuchObject, NotAllowedOnNonLeaf, ProtocolError}
use Rattle.dir_change.specs.Difference.{modification, slot_difference}
use Rattle.dir_change.specs.Modify.{slot_after}
use Rattle.dir_change.specs.ResultCodeText.{result_code_text}
use Rattle.dir_change.specs.UndoText.{undo_text_of}

-- ou=people,dc=com
abbrev people : SpelledName
people = ((codes "ou", codes "people") ∷ []) ∷ ((codes "dc", codes "com") ∷ []) ∷ []

-- cn=a,ou=people,dc=com
abbrev person : SpelledName
person = ((codes "cn", codes "a") ∷ []) ∷ people

abbrev deletion : SpelledName → Change
deletion name = record { dn = name; kind = kind.Delete }

-- a run that accepted no record has an undo text without records
pub nothing-to-undo : undo_text_of [] ≡ codes "version: 1\n\n"
nothing-to-undo = refl

-- the group of the last accepted record comes first, each after its mark: the entry is deleted before its parent
pub last-group-first : undo_text_of ((deletion people ∷ []) ∷ (deletion person ∷ []) ∷ [])
    ≡ codes "version: 1\n\n# undo 1\ndn: cn=a,ou=people,dc=com\nchangetype: delete\n\n# undo 2\ndn: ou=people,dc=com\nchangetype: delete\n\n"
unfolding fold_from digits
last-group-first = refl

-- ---- modifications of the attribute `note`, whose type has no row: its values are compared by their bytes

abbrev note : Attr
note = record { attr_type = codes "note"; options = [] }

abbrev modification_of : ModOp → List (List ℕ) → Mod
modification_of what values = modification note (codes "note") what values

abbrev note_with : StoredValues → Option Stored
note_with values = Some (record { spelling = codes "Note"; values = values })

pub nothing-added : (slot : Option Stored) → slot_after builtin_rows (modification_of op.Add []) slot ≡ Err ProtocolError
nothing-added slot = refl

pub nothing-to-delete : slot_after builtin_rows (modification_of op.Delete []) None ≡ Err NoSuchAttribute
nothing-to-delete = refl

pub whole-attribute-deleted : (values : StoredValues) → slot_after builtin_rows (modification_of op.Delete []) (note_with values) ≡ Ok None
whole-attribute-deleted values = refl

-- to replace an attribute by nothing, no attribute needs to be there
pub replaced-by-nothing : (slot : Option Stored) → slot_after builtin_rows (modification_of op.Replace []) slot ≡ Ok None
replaced-by-nothing slot = refl

pub value-added-twice : (slot : Option Stored) → slot_after builtin_rows (modification_of op.Add (codes "x" ∷ codes "x" ∷ [])) slot ≡ Err AttributeOrValueExists
unfolding builtin_rows
value-added-twice slot = refl

pub replaced-by-a-value-twice : (slot : Option Stored) → slot_after builtin_rows (modification_of op.Replace (codes "x" ∷ codes "y" ∷ codes "x" ∷ [])) slot ≡ Err AttributeOrValueExists
unfolding builtin_rows
replaced-by-a-value-twice slot = refl

-- at its second mention the value is gone
pub value-deleted-twice : (slot : Option Stored) → slot_after builtin_rows (modification_of op.Delete (codes "x" ∷ codes "x" ∷ [])) slot ≡ Err NoSuchAttribute
unfolding builtin_rows
value-deleted-twice slot = refl

-- what leads from one attribute to another, and takes back what led the other way
pub attribute-goes : (values : StoredValues) → slot_difference note (note_with values) None ≡ modification note (codes "Note") op.Delete [] ∷ []
attribute-goes values = refl

pub no-attribute-at-all : slot_difference note None None ≡ []
no-attribute-at-all = refl

-- ---- result codes

pub no-such-object : result_code_text NoSuchObject ≡ codes "32 noSuchObject"
no-such-object = refl

pub entry-already-exists : result_code_text EntryAlreadyExists ≡ codes "68 entryAlreadyExists"
entry-already-exists = refl

pub not-allowed-on-non-leaf : result_code_text NotAllowedOnNonLeaf ≡ codes "66 notAllowedOnNonLeaf"
not-allowed-on-non-leaf = refl
