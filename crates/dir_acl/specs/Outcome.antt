-- What a call that may answer a fault of this crate meets.
use Rattle.std.specs.Prelude.{◌≡◌, ℕ, Option, ok_or, Result, Err}
use Rattle.dir_names.specs.Results.{Meets}
use Rattle.dir_acl.specs.declared.fault.ConfigCause.{ConfigCause}
use Rattle.dir_acl.specs.declared.fault.ConfigCause.TheVariants as cause
use Rattle.dir_acl.specs.declared.fault.ConfigFault.{ConfigFault}
use Rattle.dir_acl.specs.declared.fault.FilterFault.{FilterFault}
use Rattle.dir_acl.specs.declared.fault.FilterFault.TheVariants.{BadFilter, TooDeep, Memory}

module _ {A : Type 0} where
  -- the fault is the definition's, or memory ran out
  abbrev pub IsFilterFaultOf : FilterFault → Result A FilterFault → Type 0
  IsFilterFaultOf BadFilter wanted = wanted ≡ Err BadFilter
  IsFilterFaultOf TooDeep wanted = wanted ≡ Err TooDeep
  IsFilterFaultOf Memory wanted = Unit {0}

  -- the answer of a call, seen by `view`, is the definition's, value or fault, unless memory ran out
  abbrev pub Reads : {T : Type 0} → (T → A) → Result T FilterFault → Result A FilterFault → Type 0
  Reads view result wanted = Meets IsFilterFaultOf view result wanted

  -- the same of what is wrong with a part of a configuration
  abbrev pub IsConfigCauseOf : ConfigCause → Result A ConfigCause → Type 0
  IsConfigCauseOf cause.BadDirective wanted = wanted ≡ Err cause.BadDirective
  IsConfigCauseOf cause.Unsupported wanted = wanted ≡ Err cause.Unsupported
  IsConfigCauseOf cause.BadFilter wanted = wanted ≡ Err cause.BadFilter
  IsConfigCauseOf cause.Name wanted = wanted ≡ Err cause.Name
  IsConfigCauseOf cause.SecondDatabase wanted = wanted ≡ Err cause.SecondDatabase
  IsConfigCauseOf cause.SecondSuffix wanted = wanted ≡ Err cause.SecondSuffix
  IsConfigCauseOf cause.GlobalAccess wanted = wanted ≡ Err cause.GlobalAccess
  IsConfigCauseOf cause.FilterTooDeep wanted = wanted ≡ Err cause.FilterTooDeep
  IsConfigCauseOf cause.Memory wanted = Unit {0}
  IsConfigCauseOf cause.NoSuffix wanted = wanted ≡ Err cause.NoSuffix
  IsConfigCauseOf cause.ConfigTooLong wanted = wanted ≡ Err cause.ConfigTooLong
  IsConfigCauseOf cause.BadType wanted = wanted ≡ Err cause.BadType

  abbrev pub GivesPart : {T : Type 0} → (T → A) → Result T ConfigCause → Result A ConfigCause → Type 0
  GivesPart view result wanted = Meets IsConfigCauseOf view result wanted

  -- and of a whole one, with the line: 0 where memory ran out
  abbrev pub IsCauseAt : ConfigCause → ℕ → Result A ConfigFault → Type 0
  IsCauseAt cause.BadDirective line wanted = wanted ≡ Err (record { line = line; cause = cause.BadDirective })
  IsCauseAt cause.Unsupported line wanted = wanted ≡ Err (record { line = line; cause = cause.Unsupported })
  IsCauseAt cause.BadFilter line wanted = wanted ≡ Err (record { line = line; cause = cause.BadFilter })
  IsCauseAt cause.Name line wanted = wanted ≡ Err (record { line = line; cause = cause.Name })
  IsCauseAt cause.SecondDatabase line wanted = wanted ≡ Err (record { line = line; cause = cause.SecondDatabase })
  IsCauseAt cause.SecondSuffix line wanted = wanted ≡ Err (record { line = line; cause = cause.SecondSuffix })
  IsCauseAt cause.GlobalAccess line wanted = wanted ≡ Err (record { line = line; cause = cause.GlobalAccess })
  IsCauseAt cause.FilterTooDeep line wanted = wanted ≡ Err (record { line = line; cause = cause.FilterTooDeep })
  IsCauseAt cause.Memory line wanted = line ≡ 0
  IsCauseAt cause.NoSuffix line wanted = wanted ≡ Err (record { line = line; cause = cause.NoSuffix })
  IsCauseAt cause.ConfigTooLong line wanted = wanted ≡ Err (record { line = line; cause = cause.ConfigTooLong })
  IsCauseAt cause.BadType line wanted = wanted ≡ Err (record { line = line; cause = cause.BadType })

  abbrev pub IsConfigFaultOf : ConfigFault → Result A ConfigFault → Type 0
  IsConfigFaultOf fault wanted = IsCauseAt fault.cause fault.line wanted

  abbrev pub GivesConfig : {T : Type 0} → (T → A) → Result T ConfigFault → Result A ConfigFault → Type 0
  GivesConfig view result wanted = Meets IsConfigFaultOf view result wanted

abbrev pub ok_or_bad_filter : {A : Type 0} → Option A → Result A FilterFault
ok_or_bad_filter o = ok_or o BadFilter
