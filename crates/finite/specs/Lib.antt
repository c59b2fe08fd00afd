-- Definitions that the specifications of several crates use.
pub mod Base
pub mod Tables
pub mod Walks
