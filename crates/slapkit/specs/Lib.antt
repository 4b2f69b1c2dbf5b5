pub mod CommandLine
pub mod Ends
pub mod Status
pub mod Words
