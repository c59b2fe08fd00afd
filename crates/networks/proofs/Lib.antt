-- The networks of the tables are sound.
pub mod Rows
