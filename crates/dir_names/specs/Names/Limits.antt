-- The limits of names: 64 RDNs, each of at most 4,096 bytes as printed.
use Rattle.std.specs.Prelude.{Bool, cond, ◌&&◌, nat_le, length, Option, Some, None, Result, Ok, Err}
use Rattle.std.specs.List.{list_all}
use Rattle.dir_names.specs.declared.fault.NameFault.{NameFault}
use Rattle.dir_names.specs.declared.fault.NameFault.TheVariants.{BadDn, NameLimit}
use Rattle.dir_names.specs.Names.{SpelledRdn, SpelledName}
use Rattle.dir_names.specs.Names.Printing.{printed_rdn}

abbrev pub is_rdn_within_limit : SpelledRdn → Bool
is_rdn_within_limit rdn = nat_le (length (printed_rdn rdn)) 4096

abbrev pub is_within_limits : SpelledName → Bool
is_within_limits name = nat_le (length name) 64 && list_all is_rdn_within_limit name

-- what a text spells, if it is within the limits; BadDn where the text spells nothing, else NameLimit
abbrev pub ok_if_within : {A : Type 0} → (A → Bool) → Option A → Result A NameFault
ok_if_within is_within None = Err BadDn
ok_if_within is_within (Some x) = cond (is_within x) (Ok x) (Err NameLimit)
