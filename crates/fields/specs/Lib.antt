-- What the contracts of `fields` cite.
pub mod Files
pub mod Rules
pub mod Says
pub mod Writing
pub mod Ordering
pub mod Earlier
pub mod Remarks
