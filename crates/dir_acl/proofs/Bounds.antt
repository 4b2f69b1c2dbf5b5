-- What is granted where some parts of the rules are open: one pass finds it exactly (specs/Bounds.antt, specs/Inside/Bounding.antt).
pub mod Choices
pub mod Decided
pub mod Exact
pub mod Judged
pub mod Numbers
pub mod Passes
