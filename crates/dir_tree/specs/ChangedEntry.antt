-- The entry of changed fields (RFC 4511, section 4.6; RFC 4512, section 2.3).
use Rattle.std.specs.Prelude.{Bool, cond, List, Result, Err}
use Rattle.std.specs.List.{list_all}
use Rattle.dir_names.specs.declared.schema.TypeRow.{TypeRow}
use Rattle.dir_names.specs.declared.value.ValueKey.TheVariants.{Text}
use Rattle.dir_tree.specs.declared.fault.EntryFault.{EntryFault}
use Rattle.dir_tree.specs.declared.fault.EntryFault.TheVariants.{NotNamed}
use Rattle.dir_tree.specs.declared.parts.Parts.{Parts}
use Rattle.dir_tree.specs.Content.{Content, has_value}
use Rattle.dir_tree.specs.NewEntry.{ok_unless_exceeding}

-- the fields as the content of an entry
abbrev pub content_of : Parts → Content
content_of p = record { own = p.own.items; key = p.key; attributes = p.attributes }

-- the entry has each value of its own RDN
abbrev pub has_own_values : Content → Bool
has_own_values e = list_all (λ p. has_value e.attributes p.0 (Text p.1)) e.key

-- the entry; or NotNamed if a value of its own RDN is missing, else Single if an attribute of a single type has more than one value
abbrev pub changed_entry : List TypeRow → Content → Result Content EntryFault
changed_entry rows e = cond (has_own_values e) (ok_unless_exceeding rows e) (Err NotNamed)
