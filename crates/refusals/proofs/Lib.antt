-- Laws of refusals.
pub mod Numbered
pub mod OneNumber
