pub mod Of
pub mod Unsealed
pub mod Copies
pub mod Deciding
pub mod Pairs
