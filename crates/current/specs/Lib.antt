-- What the contracts of `current` cite.
pub mod Numbers
