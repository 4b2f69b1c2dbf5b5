pub mod FirstPlaces
pub mod SlapdConf
pub mod Wanted
pub mod WrittenArguments
