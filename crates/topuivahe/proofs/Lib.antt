pub mod Edges
pub mod Gathered
