-- Mathematics that several crates use: tests, sums, members of lists, the pigeonhole, orbits, tables, lent parts of lists.
pub mod Tests
pub mod Order
pub mod Sums
pub mod Members
pub mod Pigeonhole
pub mod Orbit
pub mod Tables
pub mod Lent
