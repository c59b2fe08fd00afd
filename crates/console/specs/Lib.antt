-- What the contracts of `console` cite.
pub mod Decimals
