pub mod Meanings
pub mod Faults
pub mod Counted
pub mod Matrices
pub mod Walks
pub mod Walkers
pub mod Deciding
pub mod Tallies
