-- Laws that belong to no one function.
pub mod Shifted
pub mod Chain
pub mod Scans
pub mod Faults
pub mod Answers
pub mod Books
