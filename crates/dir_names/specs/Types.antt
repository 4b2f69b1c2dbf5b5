-- What two tables of attribute types have in common.
pub mod Adding
