-- What the code of the steps over lists is told.
pub mod Writes
