-- The topology of maps.
pub mod Labels
pub mod Cycles
pub mod Darts
pub mod Euler
pub mod Along
pub mod Walks
pub mod Potential
pub mod Directions
pub mod RightAngles
pub mod Compass
pub mod Insert
pub mod Divide
pub mod NewEdge
pub mod Splits
pub mod Joins
pub mod Hangs
