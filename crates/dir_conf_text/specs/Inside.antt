-- What only the private parts need.
pub mod LinesToCome
pub mod Wanting
