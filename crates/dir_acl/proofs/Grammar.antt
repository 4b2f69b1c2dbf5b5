-- The reader of filters gives exactly the filters of the grammar.
pub mod Sound
pub mod Complete
pub mod Exact
