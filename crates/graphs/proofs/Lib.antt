pub mod Rows
pub mod Grids
pub mod Closing
pub mod Tests
