pub mod Reaching
pub mod Matrices
pub mod Leading
pub mod Walks
pub mod Walkers
pub mod Counting
