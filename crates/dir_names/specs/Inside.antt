-- The views of private structs, enums and loop states. A reader of the public contracts needs none of them, but for `Steps`, which computes what
-- `SpellsByte` and `SpellsBytes` of `Names.Spells` say as a grammar.
pub mod Children
pub mod Few
pub mod Frequent
pub mod KnownKeys
pub mod Left
pub mod Parents
pub mod PartsSoFar
pub mod PlainParents
pub mod Ranks
pub mod Rows
pub mod Scopes
pub mod ShortKeys
pub mod SortKeys
pub mod SortTexts
pub mod Starts
pub mod Steps
pub mod TidyRuns
pub mod TokensSoFar
pub mod TypeNames
