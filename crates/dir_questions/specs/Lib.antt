pub mod Answers
pub mod FaultText
pub mod Inside
pub mod Laws
pub mod Notes
pub mod Questions
pub mod Reading
pub mod Runs
