pub mod Rows
pub mod Grids
pub mod Graphs
pub mod Tests
