-- Maps on surfaces: the definitions.
pub mod Maps
pub mod Surgery
