-- What the contracts of `book` cite.
pub mod Entries
pub mod Says
