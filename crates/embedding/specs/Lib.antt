-- Plane plates: the definitions that the contracts cite.
pub mod Plates
pub mod Loops
pub mod Pass
pub mod Steps
pub mod Edits
pub mod Meant
pub mod Read
pub mod Arrays
pub mod Journal
