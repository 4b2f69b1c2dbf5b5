-- A configuration without a note has a rule, and its rules name known types alone, and but for the attributes of groups none from which another is derived. No clause
-- takes one of `a` and `z` away alone.
pub mod Filters
pub mod Lists
pub mod Lines
pub mod Rules
pub mod Types
pub mod Whats
pub mod Whos
