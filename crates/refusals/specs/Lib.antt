-- Definitions.
pub mod Numbers
