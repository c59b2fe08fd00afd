-- Shapes as texts of faces: the definitions that the contracts cite.
pub mod Plan
pub mod Prints
pub mod Parses
pub mod Reads
pub mod Tried
