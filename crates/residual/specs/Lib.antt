-- The residual arcs of a flow; the arcs at each node, a search over them and a push; potentials and their raise.
pub mod Residual
pub mod Arcs
pub mod Graphs
pub mod Chains
pub mod Searches
pub mod Prices
pub mod Marks
