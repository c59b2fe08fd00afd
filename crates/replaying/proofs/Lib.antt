-- Laws that belong to no one function.
pub mod Words
pub mod Forms
pub mod Rows
pub mod Cuts
pub mod Turns
