-- What the private functions of this crate meet. A reader of the public contracts needs none of it.
pub mod Exchanged
pub mod Looked
pub mod Overlaid
pub mod Patched
pub mod Planned
pub mod Renamed
pub mod Touched
pub mod ValuesInTurn
