pub mod Faults
pub mod Unsealed
pub mod Parts
pub mod Loops
pub mod Deciding
pub mod Forks
pub mod Blocks
