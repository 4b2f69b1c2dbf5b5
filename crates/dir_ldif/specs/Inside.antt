-- What the contracts and proofs within the crate say of private values. No public contract needs it.
pub mod Bounds
pub mod Reader
pub mod Refusals
pub mod Unfolder
pub mod Usual
pub mod Values
