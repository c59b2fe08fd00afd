-- The laws of residual arcs, on lists, that the proofs of the functions cite.
pub mod ArcLists
pub mod Units
pub mod Passes
pub mod Chaining
pub mod Queues
pub mod Steps
pub mod Gaps
pub mod Walks
pub mod Duals
pub mod Fills
pub mod Sources
