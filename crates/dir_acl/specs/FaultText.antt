-- What a fault shows: its number and its name.
use Rattle.std.specs.Prelude.{ℕ, List, codes}
use Rattle.dir_acl.specs.declared.fault.ConfigCause.{ConfigCause}
use Rattle.dir_acl.specs.declared.fault.ConfigCause.TheVariants as cause
use Rattle.dir_acl.specs.declared.fault.FilterFault.{FilterFault}
use Rattle.dir_acl.specs.declared.fault.FilterFault.TheVariants.{BadFilter, TooDeep, Memory}

abbrev pub filter_fault_text : FilterFault → List ℕ
filter_fault_text BadFilter = codes "Q1 BadFilter"
filter_fault_text TooDeep = codes "Q2 TooDeep"
filter_fault_text Memory = codes "Q3 Memory"

abbrev pub config_cause_text : ConfigCause → List ℕ
config_cause_text cause.BadDirective = codes "C1 BadDirective"
config_cause_text cause.Unsupported = codes "C2 Unsupported"
config_cause_text cause.BadFilter = codes "C3 BadFilter"
config_cause_text cause.Name = codes "C4 Name"
config_cause_text cause.SecondDatabase = codes "C5 SecondDatabase"
config_cause_text cause.SecondSuffix = codes "C6 SecondSuffix"
config_cause_text cause.GlobalAccess = codes "C7 GlobalAccess"
config_cause_text cause.FilterTooDeep = codes "C8 FilterTooDeep"
config_cause_text cause.Memory = codes "C9 Memory"
config_cause_text cause.NoSuffix = codes "C10 NoSuffix"
config_cause_text cause.ConfigTooLong = codes "C11 ConfigTooLong"
config_cause_text cause.BadType = codes "C12 BadType"
