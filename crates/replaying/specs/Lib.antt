-- What the contracts of `replaying` cite.
pub mod Lines
pub mod Forms
pub mod Replays
