pub mod Tables
pub mod Kinds
pub mod Blocks
