-- A suffix has an RDN.
use Rattle.std.proofs.Common.{◌≡◌, ℕ, List, [], ◌∷◌, Option, None, Some, Result, Ok, Err}
use Rattle.dir_names.specs.declared.fault.NameFault.{NameFault}
use Rattle.dir_names.specs.declared.schema.TypeRow.{TypeRow}
use Rattle.dir_names.specs.Keys.{DnKeys}
use Rattle.dir_names.specs.Names.{SpelledName}
use Rattle.dir_names.specs.NameKeys.{name_key}
use Rattle.dir_names.specs.Names.Reading.{name_within_limits}
use Rattle.dir_tools.specs.CopyFaults.{HasRdn}
use Rattle.dir_tools.specs.Suffix.{nonempty_key, suffix_key, suffix_of}

has_part : (o : Option DnKeys) (k : DnKeys) → nonempty_key o ≡ Some k → k ≡ [] → ⊥
has_part None k h none = absurd (cc)
has_part (Some []) k h none = absurd (cc)
has_part (Some (part ∷ parts)) k h none = cc

pub named_suffix : (rows : List TypeRow) (text : List ℕ) (k : DnKeys) → suffix_of rows text ≡ Some k → HasRdn k
named_suffix rows text k = by (name_within_limits text)
  where
    by : (r : Result SpelledName NameFault) → suffix_key rows r ≡ Some k → HasRdn k
    by (Ok name) h = has_part (name_key rows name) k h
    by (Err fault) h = λ none. absurd (cc)
