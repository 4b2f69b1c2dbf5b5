-- The bytes of a value, which may still be a part of its line.
use Rattle.std.specs.Prelude.{ℕ, List}
use Rattle.dir_ldif.specs.declared.reader.attrval.Value.{Value}
use Rattle.dir_ldif.specs.declared.reader.attrval.Value.TheVariants.{Plain, Decoded}

-- those of the line, or those that were decoded
abbrev pub bytes_of : Value → List ℕ
bytes_of (Plain text) = text.now
bytes_of (Decoded value) = value.items
