-- The canonical text of a directory: a record for each entry in order of keys, with its name as put together from the stored spellings, its attributes in order of their keys, and their values in order of theirs, as stored.
use Rattle.std.specs.Prelude.{ℕ, List}
use Rattle.std.specs.List.{flat_map}
use Rattle.dir_names.specs.Names.{SpelledName}
use Rattle.dir_ldif.specs.declared.records.Record.TheVariants as form
use Rattle.dir_ldif.specs.RecordText.{record_text_of}
use Rattle.dir_tree.specs.Content.{Content}
use Rattle.dir_tree.specs.Dir.{Dir}
use Rattle.dir_tree.specs.SpelledNames.{named_entries}
use Rattle.dir_tree.specs.WellFormed.{all_lines}

abbrev pub entry_text : SpelledName × Content → List ℕ
entry_text entry = record_text_of (form.Content entry.0 (all_lines entry.1.attributes))

abbrev pub canonical_of : Dir → List ℕ
canonical_of d = flat_map entry_text (named_entries d)
