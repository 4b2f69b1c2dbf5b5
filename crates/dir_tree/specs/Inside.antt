-- The views of private structs and enums, what the private functions that sort lines meet, and the codes by which proofs tell values of the types apart.
-- A reader of the public contracts needs none of them.
pub mod Arranged
pub mod AttributeLists
pub mod Codes
pub mod Kept
pub mod Lent
pub mod Packed
pub mod Patterns
pub mod Pieces
pub mod Searches
pub mod Stored
pub mod TreeAdds
pub mod TreeFalls
pub mod TreeLends
pub mod TreeNames
pub mod TreeOrder
pub mod TreePlaces
pub mod Trees
pub mod ValueLists
