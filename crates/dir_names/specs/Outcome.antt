-- What a call that may answer a `NameFault` meets.
use Rattle.std.specs.Prelude.{◌≡◌, Option, ok_or, Result, Err}
use Rattle.dir_names.specs.declared.fault.NameFault.{NameFault}
use Rattle.dir_names.specs.declared.fault.NameFault.TheVariants.{BadDescription, ReservedName, BadValue, BadDn, NameLimit, Memory, BadType}
use Rattle.dir_names.specs.Results.{Meets}

module _ {A : Type 0} where
  -- the fault is the definition's, or memory ran out
  abbrev pub IsNameFaultOf : NameFault → Result A NameFault → Type 0
  IsNameFaultOf BadDescription wanted = wanted ≡ Err BadDescription
  IsNameFaultOf ReservedName wanted = wanted ≡ Err ReservedName
  IsNameFaultOf BadValue wanted = wanted ≡ Err BadValue
  IsNameFaultOf BadDn wanted = wanted ≡ Err BadDn
  IsNameFaultOf NameLimit wanted = wanted ≡ Err NameLimit
  IsNameFaultOf Memory wanted = Unit {0}
  IsNameFaultOf BadType wanted = wanted ≡ Err BadType

  -- the answer of a call, seen by `view`, is the definition's, value or fault, unless memory ran out
  abbrev pub Gives : {T : Type 0} → (T → A) → Result T NameFault → Result A NameFault → Type 0
  Gives view result wanted = Meets IsNameFaultOf view result wanted

abbrev pub ok_or_bad_dn : {A : Type 0} → Option A → Result A NameFault
ok_or_bad_dn o = ok_or o BadDn

abbrev pub ok_or_bad_value : {A : Type 0} → Option A → Result A NameFault
ok_or_bad_value o = ok_or o BadValue

-- a fault of a part of a name, as one of the name: only running out of memory stays what it is
abbrev pub as_bad_dn : NameFault → NameFault
as_bad_dn BadDescription = BadDn
as_bad_dn ReservedName = BadDn
as_bad_dn BadValue = BadDn
as_bad_dn BadDn = BadDn
as_bad_dn NameLimit = BadDn
as_bad_dn Memory = Memory
as_bad_dn BadType = BadDn
