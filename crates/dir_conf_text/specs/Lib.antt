pub mod Arguments
pub mod Definitions
pub mod Inside
pub mod Keywords
pub mod Lines
pub mod PhysicalLines
pub mod Quoting
pub mod Text
