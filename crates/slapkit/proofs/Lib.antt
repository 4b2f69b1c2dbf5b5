pub mod CommandLineLemmas
pub mod CommandLines
pub mod Examples
